use Rattle.std.proofs.Common.{ℕ, ◌+◌, ◌<◌, ◌≤◌, length}
use Rattle.pattern_fault.specs.Places.{IsBefore}
use Rattle.pattern_fault.proofs.place.place_in.Given as goal

-- it is none of the places that were tried
abbrev pub invariant-loop-back : goal.invariant-loop-back
invariant-loop-back l = (next : ℕ) → length l.pattern < next + l.back → next ≤ length l.pattern → IsBefore l.pattern l.offset next → ⊥
