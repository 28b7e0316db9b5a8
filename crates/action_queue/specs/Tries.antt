-- The endings of tries.
use Rattle.std.specs.Prelude.{ℕ}
use Rattle.f2b_base.specs.declared.job.Outcome.{Outcome}
use Rattle.f2b_base.specs.declared.job.Settled.{Settled}
use Rattle.f2b_base.specs.declared.job.Settled.TheVariants.{Done, GivenUp, Again}
use Rattle.f2b_model.specs.Jobs.{Ending, Tried}

-- the ending of a try of the job with that id, at a moment
abbrev pub ending_of : ℕ → Outcome → ℕ → Ending
ending_of id outcome at = record { job = id; how = Tried outcome; at = at }

-- a fact that holds where the job is tried again
abbrev pub IfAgain : Settled → Type 0 → Type 0
IfAgain Done P = Unit {0}
IfAgain GivenUp P = Unit {0}
IfAgain (Again due) P = P
