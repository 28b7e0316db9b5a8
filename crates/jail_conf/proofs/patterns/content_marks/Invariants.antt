use Rattle.std.proofs.Common.{◌≡◌, ◌++◌, drop}
use Rattle.std.specs.List.{filter_map}
use Rattle.jail_conf.specs.Patterns.{content_mark}
use Rattle.jail_conf.proofs.patterns.content_marks.Given as goal

abbrev pub invariant-loop-name : goal.invariant-loop-name
invariant-loop-name l = l.marks ++ filter_map content_mark (drop l.name-index l.names) ≡ filter_map content_mark l.names
