-- The kinds of fault of the outside, and what a call does to their counts.
use Rattle.std.specs.Prelude.{ℕ, ◌≡◌, ◌≢◌, ◌⊎◌, ◌<◌, ◌≤◌, ◌^◌, ◌+◌, ◌-◌, Option, Some, IfSome}

-- a kind of fault of the outside
pub data Fault : Type 0 where
  OfSink : Fault
  OfDisk : Fault
  OfPatterns : Fault
  OfConfiguration : Fault
  OfLogs : Fault
  OfChildren : Fault
  OfGate : Fault
  OfLink : Fault
  OfFiles : Fault

-- a count of faults rose, or has reached the last value of a counter
abbrev pub Rose : ℕ → ℕ → Type 0
Rose old new = (old < new) ⊎ (new ≡ 2 ^ 64 - 1)

-- The counts of faults after a call: none falls, that of the fault which came rose, by one at most, and those of the kinds which did
-- not come are the same.
pub record Counted (failed : Option Fault) (old new : Fault → ℕ) : Type 0 where
  pub steady : (kind : Fault) → old kind ≤ new kind
  pub cause : IfSome failed (λ kind. Rose (old kind) (new kind))
  pub once : IfSome failed (λ kind. new kind ≤ old kind + 1)
  pub still : (kind : Fault) → failed ≢ Some kind → new kind ≡ old kind
