use Rattle.std.proofs.Common.{◌≡◌, drop}
use Rattle.jail_conf.specs.Then.{each}
use Rattle.jail_conf.proofs.EachLemmas.{behind}
use Rattle.jail_conf.proofs.each.each.Given as goal

abbrev pub invariant-loop-text : goal.invariant-loop-text
invariant-loop-text g l =
    behind l.values (each (g.R.ReadsItem.reading l.reading) (drop l.text-index l.texts)) ≡ each (g.R.ReadsItem.reading l.reading) l.texts
