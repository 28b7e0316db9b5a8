-- Worked cases of what was tried beside what was made, computed.
use Rattle.std.proofs.Common.{ℕ, ◌≡◌, None, List, [], ◌∷◌, refl, pos}
use Rattle.std.specs.Prelude.{codes}
use Rattle.f2b_base.specs.declared.addr.Family.TheVariants.{Both}
use Rattle.f2b_base.specs.declared.job.Job.{Job}
use Rattle.f2b_base.specs.declared.job.JobKind.{JobKind}
use Rattle.f2b_base.specs.declared.job.JobKind.TheVariants.{Start, Stop, Ban}
use Rattle.f2b_base.specs.declared.job.LaneId.{LaneId}
use Rattle.f2b_base.specs.declared.job.Outcome.TheVariants.{Status}
use Rattle.f2b_model.specs.Jobs.{Ending, Tried, Voided, Ledger, back_from}
use Rattle.run_jobs.specs.Tried.{made_of, tried_of}

abbrev lane : List ℕ → LaneId
lane action = record { jail = codes "a"; action = action; family = Both }

abbrev job : List ℕ → ℕ → JobKind → Job
job action id kind = record { id = id; lane = lane action; kind = kind; addr = None; text = codes "in"; timeout = 60; tries = 0; due = 900 }

abbrev fails : ℕ → ℕ → Ending
fails id at = record { job = id; how = Tried (Status (pos 1)); at = at }

abbrev succeeds : ℕ → Ending
succeeds id = record { job = id; how = Tried (Status (pos 0)); at = 1000 }

abbrev voids : ℕ → Ending
voids id = record { job = id; how = Voided; at = 1001 }

-- ---- a check that fails: Ban 2 was checked and is voided, and Ban 3 with it; the lane starts anew

abbrev restarted : Ledger
restarted = record {
  made = job (codes "n") 2 Ban ∷ job (codes "n") 3 Ban ∷ job (codes "n") 9 Stop ∷ job (codes "n") 10 Start ∷ [];
  endings = voids 2 ∷ voids 3 ∷ [];
}

checks_then_stops : tried_of (2 ∷ 9 ∷ []) (lane (codes "n")) restarted ≡ 2 ∷ 9 ∷ []
checks_then_stops = refl

leaves_out_what_was_voided : made_of (2 ∷ 9 ∷ []) (lane (codes "n")) restarted ≡ 2 ∷ 9 ∷ 10 ∷ []
leaves_out_what_was_voided = refl

-- ---- a job that is given up at its third try, each with its check, and the next one, whose command has the same text

abbrev given_up : Ledger
given_up = record { made = job (codes "n") 2 Ban ∷ job (codes "n") 3 Ban ∷ []; endings = fails 2 1000 ∷ fails 2 1003 ∷ fails 2 1008 ∷ [] }

abbrev three_tries : List ℕ
three_tries = 2 ∷ 2 ∷ 2 ∷ 2 ∷ 2 ∷ 2 ∷ 3 ∷ []

tries_of_a_job_are_one : tried_of three_tries (lane (codes "n")) given_up ≡ 2 ∷ 3 ∷ []
tries_of_a_job_are_one = refl

counts_what_was_given_up : made_of three_tries (lane (codes "n")) given_up ≡ 2 ∷ 3 ∷ []
counts_what_was_given_up = refl

-- ---- two lanes side by side

abbrev two_lanes : Ledger
two_lanes = record { made = job (codes "n") 0 Start ∷ job (codes "m") 1 Start ∷ job (codes "n") 2 Ban ∷ job (codes "m") 3 Ban ∷ []; endings = succeeds 0 ∷ succeeds 1 ∷ [] }

abbrev both_at_once : List ℕ
both_at_once = 0 ∷ 1 ∷ 2 ∷ 3 ∷ 2 ∷ []

tries_the_first_lane : tried_of both_at_once (lane (codes "n")) two_lanes ≡ 0 ∷ 2 ∷ []
tries_the_first_lane = refl

tries_the_second_lane : tried_of both_at_once (lane (codes "m")) two_lanes ≡ 1 ∷ 3 ∷ []
tries_the_second_lane = refl

-- ---- a run begins with the jobs that were stored: the first has a failed try of a run before it, and is tried again

abbrev stored : Ledger
stored = back_from (record (job (codes "n") 2 Ban) { tries = 1; due = 1002 } ∷ job (codes "n") 3 Ban ∷ [])

counts_what_was_stored : made_of [] (lane (codes "n")) stored ≡ 2 ∷ 3 ∷ []
counts_what_was_stored = refl

tries_a_stored_job_again : tried_of (2 ∷ 2 ∷ 3 ∷ []) (lane (codes "n")) stored ≡ 2 ∷ 3 ∷ []
tries_a_stored_job_again = refl

-- ---- what the law rules out: a job is passed over, comes too soon, or is tried once more behind a later one

passes_over_a_job : tried_of (3 ∷ []) (lane (codes "n")) given_up ≡ 3 ∷ []
passes_over_a_job = refl

comes_back_to_a_job : tried_of (2 ∷ 3 ∷ 2 ∷ []) (lane (codes "n")) given_up ≡ 2 ∷ 3 ∷ 2 ∷ []
comes_back_to_a_job = refl
