use Rattle.std.proofs.Common.{◌≡◌, drop}
use Rattle.jail_conf.specs.Patterns.{in_order}
use Rattle.jail_conf.proofs.EachLemmas.{behind}
use Rattle.jail_conf.proofs.patterns.in_order.Given as goal

abbrev pub invariant-loop-line : goal.invariant-loop-line
invariant-loop-line l = behind l.patterns (in_order l.needs_host l.so_far (drop l.line-index l.lines)) ≡ in_order l.needs_host l.before l.lines
