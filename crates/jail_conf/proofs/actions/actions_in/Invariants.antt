use Rattle.std.proofs.Common.{◌≡◌, [], drop}
use Rattle.jail_conf.specs.Actions.{actions_behind}
use Rattle.jail_conf.specs.Sources.{bases_of}
use Rattle.jail_conf.proofs.EachLemmas.{behind}
use Rattle.jail_conf.proofs.actions.actions_in.Given as goal

abbrev pub invariant-loop-line : goal.invariant-loop-line
invariant-loop-line l = record {
  lanes : behind l.lanes (actions_behind (bases_of l.fn.bases) l.jail l.names (drop l.line-index l.lines)) ≡ actions_behind (bases_of l.fn.bases) l.jail [] l.lines;
  files : l.bases ≡ l.fn.bases;
}
