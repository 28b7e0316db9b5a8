-- How a call ends that received a reply.
use Rattle.std.proofs.Common.{◌≡◌, ℕ, Bool, true, false, ◌&&◌, inl, inr, List, Some, None, Result, Ok, refl, sym, ap, subst, ◌∙◌}
use Rattle.client_frames.specs.Frames.{request}
use Rattle.client_frames.specs.declared.answer.Answer.{Answer}
use Rattle.client_frames.specs.declared.error.ReceiveError.{ReceiveError}
use Rattle.f2b_world.specs.Told.{Standing}
use Rattle.client_tool.specs.Asks.{Request}
use Rattle.client_tool.specs.Ends.{Ends, HasCause, MayClose, MayTell, status_of}
use Rattle.client_tool.specs.Lines.{reply_line}
use Rattle.client_tool.specs.Talks.{Hears, IsHeard, SendsAtMost, Talks}
use Rattle.client_tool.specs.declared.status.ClientStatus.{ClientStatus}
use Rattle.client_tool.specs.declared.status.ClientStatus.TheVariants.{Done, Refused, SinkFault, NoMemory}

module _ (socket : List ℕ) (words : List (List ℕ)) (answer : Answer) (old_link new_link old new : Standing) (status : ClientStatus) (hears : Hears socket words (Ok answer) old_link new_link) where
  abbrev Causes : (quiet : Bool) → ClientStatus → Type 0
  Causes quiet s = HasCause (Some (Request quiet socket words)) old_link new_link old new s

  -- by whether nothing was to be said of it, and whether it accepts
  cause_by : (quiet accepted : Bool) → answer.accepted ≡ accepted → MayTell (quiet && accepted) (reply_line words answer) (status_of accepted) old new status → Causes quiet status
  cause_by true true is told =
      let P : ClientStatus → Type 0 = λ s. Causes true s in
      subst P (sym told.0) (record { answer = answer; verdict = is; hears = hears; said = told.1 })
  cause_by false true is (inl lost) = let P : ClientStatus → Type 0 = λ s. Causes false s in subst P (sym lost) tt
  cause_by false true is (inr (inl told)) =
      let P : ClientStatus → Type 0 = λ s. Causes false s in
      subst P (sym told.0) (record { answer = answer; verdict = is; hears = hears; said = told.1 })
  cause_by false true is (inr (inr failed)) = let P : ClientStatus → Type 0 = λ s. Causes false s in subst P (sym failed.0) (failed.1).counts.cause
  cause_by true false is (inl lost) = let P : ClientStatus → Type 0 = λ s. Causes true s in subst P (sym lost) tt
  cause_by true false is (inr (inl told)) =
      let P : ClientStatus → Type 0 = λ s. Causes true s in
      subst P (sym told.0) (record { answer = answer; verdict = is; hears = hears; said = told.1 })
  cause_by true false is (inr (inr failed)) = let P : ClientStatus → Type 0 = λ s. Causes true s in subst P (sym failed.0) (failed.1).counts.cause
  cause_by false false is (inl lost) = let P : ClientStatus → Type 0 = λ s. Causes false s in subst P (sym lost) tt
  cause_by false false is (inr (inl told)) =
      let P : ClientStatus → Type 0 = λ s. Causes false s in
      subst P (sym told.0) (record { answer = answer; verdict = is; hears = hears; said = told.1 })
  cause_by false false is (inr (inr failed)) = let P : ClientStatus → Type 0 = λ s. Causes false s in subst P (sym failed.0) (failed.1).counts.cause

-- the call has the cause that its end asks for
pub ends_told : (quiet : Bool) (socket : List ℕ) (words : List (List ℕ)) (answer : Answer) (result : Result Answer ReceiveError) (old_link new_link old new : Standing) (status : ClientStatus)
    → result ≡ Ok answer → IsHeard socket words result old_link new_link → Talks old_link new_link (SendsAtMost (request words))
    → MayTell (quiet && answer.accepted) (reply_line words answer) (status_of answer.accepted) old new status
    → Ends (Some (Request quiet socket words)) old_link new_link old new status
ends_told quiet socket words answer result old_link new_link old new status is heard talks told =
    let H : Result Answer ReceiveError → Type 0 = λ r. IsHeard socket words r old_link new_link in
    let hears : Hears socket words (Ok answer) old_link new_link = subst H is heard in
    record {
      cause = cause_by socket words answer old_link new_link old new status hears quiet answer.accepted refl told;
      nothing = λ none. absurd (let e : Some (Request quiet socket words) ≡ None = none in cc);
      talks = talks;
    }

-- ---- what is kept quiet

both_true : (quiet accepted : Bool) → (quiet && accepted) ≡ true → accepted ≡ true
both_true true accepted is = is
both_true false accepted is = absurd (let e : false ≡ true = is in cc)

-- nothing is said of a reply that accepts
pub kept_quiet : (quiet accepted hushed : Bool) (text : List ℕ) (old new : Standing) → hushed ≡ (quiet && accepted) → hushed ≡ true → new ≡ old
    → MayTell (quiet && accepted) text (status_of accepted) old new Done
kept_quiet quiet accepted hushed text old new same is unsaid =
    let both : (quiet && accepted) ≡ true = sym same ∙ is in
    let P : Bool → Type 0 = λ b. MayTell b text (status_of accepted) old new Done in
    subst P (sym both) (ap status_of (sym (both_true quiet accepted both)), unsaid)

-- of one that is not to be kept quiet its text may be said
pub may_tell : (quiet accepted hushed : Bool) (text : List ℕ) (old new : Standing) (status : ClientStatus) → hushed ≡ (quiet && accepted) → hushed ≡ false
    → MayClose text (status_of accepted) old new status → MayTell (quiet && accepted) text (status_of accepted) old new status
may_tell quiet accepted hushed text old new status same is closes =
    let P : Bool → Type 0 = λ b. MayTell b text (status_of accepted) old new status in
    subst P (sym is ∙ same) closes

-- what was said then was said of one that refuses, where those that accept are kept quiet
refused_only : (text : List ℕ) (old new : Standing) (status : ClientStatus) → MayClose text Refused old new status → status ≡ Done → ⊥
refused_only text old new status (inl lost) done = (let e : NoMemory ≡ Done = sym lost ∙ done in cc)
refused_only text old new status (inr (inl told)) done = (let e : Refused ≡ Done = sym told.0 ∙ done in cc)
refused_only text old new status (inr (inr failed)) done = (let e : SinkFault ≡ Done = sym failed.0 ∙ done in cc)

not_both : (quiet accepted : Bool) → (quiet && accepted) ≡ false → quiet ≡ true → accepted ≡ false
not_both true accepted is q = is
not_both false accepted is q = absurd (let e : false ≡ true = q in cc)

pub never_done : (quiet accepted hushed : Bool) (text : List ℕ) (old new : Standing) (status : ClientStatus) → hushed ≡ (quiet && accepted) → hushed ≡ false
    → MayClose text (status_of accepted) old new status → quiet ≡ true → status ≡ Done → ⊥
never_done quiet accepted hushed text old new status same is closes q done =
    let refuses : accepted ≡ false = not_both quiet accepted (sym same ∙ is) q in
    let P : Bool → Type 0 = λ b. MayClose text (status_of b) old new status in
    refused_only text old new status (subst P refuses closes) done
