-- The spelling of lanes, jobs and how they end.
use Rattle.std.specs.Prelude.{◌≡◌, ℕ, ◌-◌, ◌^◌, ◌≤◌, Bool, ◌==◌, ◌&&◌, nat_lt, nat_le, List, [], ◌∷◌, ◌++◌, Option, Some, None, Result, Ok, Err, bytes_eq, if◌then◌else◌}
use Rattle.f2b_base.specs.Families.{same_family}
use Rattle.f2b_base.specs.declared.job.Job.{Job}
use Rattle.f2b_base.specs.declared.job.JobKind.{JobKind}
use Rattle.f2b_base.specs.declared.job.JobKind.TheVariants.{Start, Stop, Ban, Unban, Reban}
use Rattle.f2b_base.specs.declared.job.LaneId.{LaneId}
use Rattle.f2b_base.specs.declared.job.Outcome.{Outcome}
use Rattle.f2b_base.specs.declared.job.Outcome.TheVariants.{Status, NotStarted, TimedOut}
use Rattle.f2b_base.specs.declared.job.UpLane.{UpLane}
use Rattle.f2b_model.specs.Storable.{most_numbers, IsStorableLane, IsStorableUp, IsStorableJob, IsStorableOutcome}
use Rattle.record_codec.specs.Definitions.{name, family, action_def}
use Rattle.record_fields.specs.Addresses.{addr}
use Rattle.record_fields.specs.Codec.{as_made, Codec, both, made, fit, coded, case, no_case, field, option_of}
use Rattle.record_fields.specs.Numbers.{at_most, signed}
use Rattle.record_fields.specs.Small.{moment, span}
use Rattle.record_fields.specs.Texts.{text}

unfoldable pub lane_id : Codec LaneId
lane_id = fit IsStorableLane (made (λ x. record { jail = x.0; action = x.1.0; family = x.1.1 }) (λ l. (l.jail, (l.action, l.family))) (both name (both text family)))

unfoldable pub up_lane : Codec UpLane
up_lane = fit IsStorableUp (made (λ x. record { jail = x.0; action = x.1 }) (λ u. (u.jail, u.action)) (both name action_def))

-- a lane that is up is the same as another one
abbrev pub same_up : UpLane → UpLane → Bool
same_up u v = bytes_eq v.jail u.jail && (bytes_eq v.action.name u.action.name && same_family v.action.family u.action.family)

abbrev pub kind_code : JobKind → ℕ
kind_code Start = 0
kind_code Stop = 1
kind_code Ban = 2
kind_code Unban = 3
kind_code Reban = 4

abbrev pub kind_of : ℕ → Option JobKind
kind_of b = if b == 0 then Some Start else if b == 1 then Some Stop else if b == 2 then Some Ban else if b == 3 then Some Unban else if b == 4 then Some Reban else None

abbrev pub kind : Codec JobKind
kind = coded kind_code kind_of (λ _. Unit {0})

abbrev pub tries_of : ℕ → Option ℕ
tries_of b = if nat_le b 2 then Some b else None

abbrev pub tries : Codec ℕ
tries = coded (λ n. n) tries_of (λ n. n ≤ 2)

-- the id of a job, or the serial of a ban, that began
abbrev pub began : Codec ℕ
began = at_most (most_numbers - 1)

unfoldable pub job : Codec Job
job = fit IsStorableJob (made
    (λ x. record { id = x.0; lane = x.1.0; kind = x.1.1.0; addr = x.1.1.1.0; text = x.1.1.1.1.0; timeout = x.1.1.1.1.1.0; tries = x.1.1.1.1.1.1.0; due = x.1.1.1.1.1.1.1 })
    (λ j. (j.id, (j.lane, (j.kind, (j.addr, (j.text, (j.timeout, (j.tries, j.due))))))))
    (both began (both lane_id (both kind (both (option_of addr) (both text (both span (both tries moment))))))))

abbrev pub outcome_spelling : Outcome → List ℕ
outcome_spelling (Status z) = 0 ∷ signed.spell z
outcome_spelling NotStarted = 1 ∷ []
outcome_spelling TimedOut = 2 ∷ []

unfoldable pub outcome : Codec Outcome
outcome = record {
  spell = outcome_spelling;
  read = field
      (case 0 (as_made (λ z. Status z) signed)
      (case 1 (λ bytes. Ok (NotStarted, bytes))
      (case 2 (λ bytes. Ok (TimedOut, bytes)) no_case)));
  Fits = IsStorableOutcome;
}
