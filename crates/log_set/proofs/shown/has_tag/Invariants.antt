use Rattle.std.proofs.Common.{◌≡◌, drop}
use Rattle.log_set.specs.Shown.{has_tag}
use Rattle.log_set.proofs.shown.has_tag.Given as goal

abbrev pub invariant-loop-start : goal.invariant-loop-start
invariant-loop-start l = has_tag l.command ≡ has_tag (drop l.start l.bytes)
