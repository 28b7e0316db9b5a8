-- What is read of lanes and jobs is what was written.
use Rattle.std.proofs.Common.{◌≡◌, ℕ, ◌-◌, ◌^◌, ◌<◌, ◌≤◌, nat_le, List, [], ◌∷◌, ◌++◌, length, Option, Some, None, Result, Ok, Err, refl, arith, lit<}
use Rattle.std.proofs.lemmas.Bool.{leb-true, le-leb}
use Rattle.f2b_base.specs.Addresses.{IsAddr}
use Rattle.f2b_base.specs.declared.addr.Addr.{Addr}
use Rattle.f2b_base.specs.declared.job.Job.{Job}
use Rattle.f2b_base.specs.declared.job.JobKind.{JobKind}
use Rattle.f2b_base.specs.declared.job.JobKind.TheVariants.{Start, Stop, Ban, Unban, Reban}
use Rattle.f2b_base.specs.declared.job.Outcome.{Outcome}
use Rattle.f2b_base.specs.declared.job.Outcome.TheVariants.{Status, NotStarted, TimedOut}
use Rattle.f2b_model.specs.Storable.{most_numbers, IsStorableAddr, IsStorableLane, IsStorableUp, IsStorableJob, IsStorableOutcome}
use Rattle.record_fields.specs.Addresses.{addr}
use Rattle.record_fields.specs.Codec.{IsCodec, IsHeld, option_of, no_case}
use Rattle.record_fields.specs.Numbers.{signed}
use Rattle.record_fields.proofs.AddressLemmas.{addr_codec}
use Rattle.record_fields.proofs.CodecLemmas.{both_codec, made_codec, fit_codec, coded_codec, no_codes, code_case, tested_codec, no_cases, case_of, case_alone, field_takes, case_again, option_codec}
use Rattle.record_fields.proofs.NumberLemmas.{at_most_codec, signed_codec}
use Rattle.record_fields.proofs.SmallLemmas.{moment_codec, span_codec}
use Rattle.record_fields.proofs.TextLemmas.{text_codec}
use Rattle.record_codec.specs.Definitions.{name, action_def}
use Rattle.record_codec.specs.Lanes.{lane_id, up_lane, kind, kind_code, kind_of, tries, began, job, outcome, outcome_spelling}
use Rattle.record_codec.proofs.AllowedLemmas.{FitsAre}
use Rattle.record_codec.proofs.DefinitionLemmas.{family_codec, action_def_codec, action_def_word}
use Rattle.record_codec.proofs.NameLemmas.{name_codec, name_word}

lane_id_codec : IsCodec lane_id
unfolding lane_id
lane_id_codec = fit_codec IsStorableLane _ (made_codec _ _ _ (λ a _. refl) (λ l. refl) (both_codec _ _ name_codec (both_codec _ _ text_codec family_codec)))
    (λ l h. record { jail = name_word.are l.jail h.0; action = h.1.0 }) (λ l h. (name_word.fit l.jail h.jail, (h.action, tt)))

lane_id_word : FitsAre lane_id IsStorableLane
unfolding lane_id
lane_id_word = record { are = λ x h. h; fit = λ x h. h }

pub up_lane_codec : IsCodec up_lane
unfolding up_lane
up_lane_codec = fit_codec IsStorableUp _ (made_codec _ _ _ (λ a _. refl) (λ u. refl) (both_codec _ _ name_codec action_def_codec))
    (λ u h. record { jail = name_word.are u.jail h.0; action = action_def_word.are u.action h.1 }) (λ u h. (name_word.fit u.jail h.jail, action_def_word.fit u.action h.action))

pub up_lane_word : FitsAre up_lane IsStorableUp
unfolding up_lane
up_lane_word = record { are = λ x h. h; fit = λ x h. h }

kind_codec : IsCodec kind
kind_codec = coded_codec kind_code kind_of (λ _. Unit {0})
    (code_case kind_code (λ _. Unit {0}) 0 Start _ refl tt (code_case kind_code (λ _. Unit {0}) 1 Stop _ refl tt
    (code_case kind_code (λ _. Unit {0}) 2 Ban _ refl tt (code_case kind_code (λ _. Unit {0}) 3 Unban _ refl tt
    (code_case kind_code (λ _. Unit {0}) 4 Reban _ refl tt (no_codes kind_code (λ _. Unit {0})))))))
    (λ a _. elim a as (λ a. kind_of (kind_code a) ≡ Some a) [ Start ↦ refl | Stop ↦ refl | Ban ↦ refl | Unban ↦ refl | Reban ↦ refl ])

tries_codec : IsCodec tries
tries_codec = tested_codec (λ n. nat_le n 2) (λ n. n ≤ 2) (λ n h. leb-true n 2 h) (λ n h. le-leb n 2 h)

pub began_codec : IsCodec began
began_codec = at_most_codec (most_numbers - 1) (lit< tt)

addr_is : (o : Option Addr) → (option_of addr).Fits o → IsStorableAddr o
addr_is None h = tt
addr_is (Some a) h = h

addr_of : (o : Option Addr) → IsStorableAddr o → (option_of addr).Fits o
addr_of None h = tt
addr_of (Some a) h = h

pub job_codec : IsCodec job
unfolding job
job_codec = fit_codec IsStorableJob _
    (made_codec _ _ _ (λ a _. refl) (λ j. refl)
    (both_codec _ _ began_codec (both_codec _ _ lane_id_codec (both_codec _ _ kind_codec (both_codec _ _ (option_codec addr addr_codec) (both_codec _ _ text_codec (both_codec _ _ span_codec (both_codec _ _ tries_codec moment_codec))))))))
    (λ j h. let id : j.id ≤ most_numbers - 1 = h.0 in record {
      id = omega arith;
      lane = lane_id_word.are j.lane h.1.0;
      addr = addr_is j.addr h.1.1.1.0;
      text = h.1.1.1.1.0;
      timeout = h.1.1.1.1.1.0;
      tries = h.1.1.1.1.1.1.0;
      due = h.1.1.1.1.1.1.1;
    })
    (λ j h. let id : j.id < most_numbers = h.id in
    (omega arith, (lane_id_word.fit j.lane h.lane, (tt, (addr_of j.addr h.addr, (h.text, (h.timeout, (h.tries, h.due))))))))

pub job_word : FitsAre job IsStorableJob
unfolding job
job_word = record { are = λ x h. h; fit = λ x h. h }

outcome_again : (x : Outcome) (rest : List ℕ) → IsStorableOutcome x → IsHeld (outcome_spelling x ++ rest) → outcome.read (outcome_spelling x ++ rest) ≡ Ok (x, rest)
unfolding outcome
outcome_again (Status z) rest h held = case_again 0 signed (λ z. Status z) signed_codec z rest h held
outcome_again NotStarted rest h held = refl
outcome_again TimedOut rest h held = refl

outcome_some : (x : Outcome) → 1 ≤ length (outcome_spelling x)
outcome_some (Status z) = omega arith
outcome_some NotStarted = omega arith
outcome_some TimedOut = omega arith

pub outcome_codec : IsCodec outcome
unfolding outcome
outcome_codec = record {
  takes = field_takes outcome_spelling IsStorableOutcome _
      (case_of outcome_spelling IsStorableOutcome 0 signed (λ z. Status z) _ signed_codec (λ p. refl) (λ p h. h)
      (case_alone outcome_spelling IsStorableOutcome 1 NotStarted _ refl tt
      (case_alone outcome_spelling IsStorableOutcome 2 TimedOut _ refl tt (no_cases outcome_spelling IsStorableOutcome))));
  again = outcome_again;
  some = outcome_some;
}

pub outcome_word : FitsAre outcome IsStorableOutcome
unfolding outcome
outcome_word = record { are = λ x h. h; fit = λ x h. h }
