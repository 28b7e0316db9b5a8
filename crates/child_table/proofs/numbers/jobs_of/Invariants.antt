use Rattle.std.proofs.Common.{◌≡◌, take}
use Rattle.child_table.specs.Children.{jobs_of}
use Rattle.child_table.proofs.numbers.jobs_of.Given as goal

abbrev pub invariant-loop-child : goal.invariant-loop-child
invariant-loop-child l = l.jobs ≡ jobs_of (take l.child-index l.children)
