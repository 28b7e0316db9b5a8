use Rattle.std.proofs.Common.{◌≡◌, take, filter}
use Rattle.log_follow.specs.Globs.{fits}
use Rattle.log_follow.specs.Texts.{texts}
use Rattle.log_follow.proofs.expand.matching.Given as goal

abbrev pub invariant-loop-name : goal.invariant-loop-name
invariant-loop-name l = texts l.found.items ≡ filter (fits l.pattern) (take l.name-index l.names)
