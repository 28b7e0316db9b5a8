-- What an event brings, by what the code keeps.
use Rattle.std.proofs.Common.{ℕ, ◌≡◌, ◌++◌, Bool, if◌then◌else◌, true, false, List, [], Option, Some, None, refl, sym, ap, ◌∙◌, subst}
use Rattle.f2b_base.specs.declared.input.Input.{Input}
use Rattle.f2b_base.specs.declared.input.What.{What}
use Rattle.f2b_model.specs.Lanes.{books_now}
use Rattle.f2b_model.specs.Sound.{IsFit, IsSound}
use Rattle.f2b_model.specs.Steps.{moves_now}
use Rattle.f2b_model.specs.Views.{spread}
use Rattle.f2b_model.specs.Whole.{Now, is_whole_spent, now_of, step, step_now, told, told_now}
use Rattle.f2b_model.specs.declared.told.Told.{Told}
use Rattle.f2b_model.proofs.WholeLemmas.{whole_shows, whole_keeps, whole_tells}
use Rattle.f2b_world.specs.Told.{Standing}
use Rattle.slot_writes.specs.Entries.{Entry, Written, Spent, entry_of}
use Rattle.slot_writes.specs.Writes.{Write}
use Rattle.slot_writes.specs.declared.position.Position.{Position}
use Rattle.f2b_model.proofs.TakenLemmas.{storable_taken}
use Rattle.run_law.specs.Said.{lines_of}
use Rattle.run_law.specs.Server.{Server, behind_entry, entry_in, taken, told_lines}
use Rattle.run_law.specs.Stages.{Brings, BringFails, HasCause, Says, SayFails}
use Rattle.run_law.specs.declared.status.Status.{Status}
use Rattle.run_law.specs.declared.status.Status.TheVariants.{Stopped, TurnsSpent, WorkloadDone, Usage, ConfFault, ConfRefused, DiskFault, NotAJournal, JournalFull, GateFault, SinkFault, ConfTooLarge, PatternRefused, NumbersSpent, NoMemory}
use Rattle.run_law.proofs.CauseLemmas.{unsaid_cause}
use Rattle.run_law.proofs.PointLemmas.{fails_memory}
use Rattle.run_law.proofs.StageLemmas.{brings_taken, brings_told, fails_taken, fails_told, fails_early}
use Rattle.run_steps.specs.Keeping.{IsLive, IsStorableAt, IsUnbrought, KeepsClocked, Makes, entry_at, input_of, news_of}
use Rattle.run_steps.specs.Writing.{WriteFails, Writes}
use Rattle.run_steps.specs.declared.clocked.Clocked.{Clocked}
use Rattle.run_steps.proofs.WriteLemmas.{entry_is, same_input, stored_is, memory_unbrought, unsaid_later, unsaid_unbrought}

-- an input that is written is taken where numbers are left
live_if : (spent : Bool) (e : Entry) (p : Position) (ws : List Write) → (if spent then Spent else e) ≡ Written p ws → spent ≡ false
live_if true e p ws is = absurd (cc)
live_if false e p ws is = refl

module _ (a m : Standing) (before after : Clocked) (what : What) (tells : Told) (stored : IsStorableAt before what) (writes : Writes a m before what after tells) where
  fits : IsFit (input_of before what)
  fits = (storable_taken (input_of before what) stored).fit

  pub live : IsLive before
  live = live_if (is_whole_spent moves_now books_now before.engine.core) (entry_of before.engine.journal (spread before.engine.core) (input_of before what)) after.engine.journal writes.calls writes.entry

  -- the step was made
  pub made : Makes before (Some what) after
  made = (writes.steps.core, live)

  written_in : (s : Server) → KeepsClocked s before → entry_in s what ≡ Written after.engine.journal writes.calls
  written_in s keeps = sym (entry_is before s what keeps) ∙ writes.entry

  same_lines : (s : Server) → KeepsClocked s before → lines_of after.now tells ≡ told_lines what s
  same_lines s keeps =
      let input = input_of before what in
      let now_told : tells ≡ told s.state input = writes.steps.tells ∙ ap (λ (n : Now). told_now n input) keeps.core ∙ sym (whole_tells s.state input fits keeps.sound) in
      let now_is : after.now ≡ s.now = writes.steps.time.now ∙ keeps.now in
      rw now_is (ap (lines_of s.now) (now_told ∙ ap (told s.state) (same_input before s what keeps)))

  keeps_after : (s : Server) → KeepsClocked s before → KeepsClocked (taken what s) after
  keeps_after s keeps =
      let input = input_of before what in
      let P : Input → Type 0 = λ i. IsSound (step s.state i) in
      record {
        core = writes.steps.core ∙ ap (λ (n : Now). step_now n input) keeps.core ∙ sym (whole_shows s.state input fits keeps.sound) ∙ ap (λ (i : Input). now_of (step s.state i)) (same_input before s what keeps);
        sound = subst P (same_input before s what keeps) (whole_keeps s.state input fits keeps.sound);
        journal = sym (ap (behind_entry s.position) (written_in s keeps));
        now = writes.steps.time.now ∙ keeps.now;
        word = writes.steps.time.word ∙ keeps.word;
      }

  -- an input was taken, and its lines were said
  pub bring_done : (b : Standing) (pre post : List (List ℕ)) → Says m b (pre ++ lines_of after.now tells ++ post) → Brings KeepsClocked a b (news_of pre (Some what) post) before after
  bring_done b pre post says = record {
    runs = λ r at next s saying is_at keeps.
        let P : List (List ℕ) → Type 0 = λ ls. Says m b (pre ++ ls ++ post) in
        brings_taken KeepsClocked a m b (news_of pre (Some what) post s) what r at next s after.engine.journal writes.calls after saying is_at refl (written_in s keeps)
        (stored_is before s what keeps stored) writes.performs (subst P (same_lines s keeps) says) (keeps_after s keeps);
  }

  -- its lines could not be said
  pub bring_unsaid : (b : Standing) (pre post : List (List ℕ)) (status : Status) → SayFails m b (pre ++ lines_of after.now tells ++ post) status
      → BringFails KeepsClocked a b (news_of pre (Some what) post) before status
  bring_unsaid b pre post status fails = record {
    runs = λ r at next s saying is_at keeps.
        let P : List (List ℕ) → Type 0 = λ ls. SayFails m b (pre ++ ls ++ post) status in
        fails_taken KeepsClocked a m b (news_of pre (Some what) post s) what r at next s after.engine.journal writes.calls status saying is_at refl (written_in s keeps)
        (stored_is before s what keeps stored) writes.performs (subst P (same_lines s keeps) fails);
  }

  -- memory ran out before they were said
  pub bring_lost : (pre post : List (List ℕ)) → BringFails KeepsClocked a m (news_of pre (Some what) post) before NoMemory
  bring_lost pre post = bring_unsaid m pre post NoMemory (fails_memory m (pre ++ lines_of after.now tells ++ post))

-- the input was not written
pub bring_unwritten : (a b : Standing) (before : Clocked) (what : What) (pre post : List (List ℕ)) (status : Status) → WriteFails a b before what status
    → BringFails KeepsClocked a b (news_of pre (Some what) post) before status
bring_unwritten a b before what pre post status fails = record { runs = λ r at next s saying is_at keeps. fails.runs pre post r at next s is_at keeps }

-- memory ran out before anything was said
pub bring_memory : (a : Standing) (before : Clocked) (what : Option What) (pre post : List (List ℕ)) → BringFails KeepsClocked a a (news_of pre what post) before NoMemory
bring_memory a before what pre post = fails_early KeepsClocked a (news_of pre what post) before

-- lines alone were said
pub bring_told : (a b : Standing) (before : Clocked) (pre post : List (List ℕ)) → Says a b (pre ++ post) → Brings KeepsClocked a b (news_of pre None post) before before
bring_told a b before pre post says = record {
  runs = λ r at next s saying is_at keeps. brings_told KeepsClocked a b (news_of pre None post s) r at next s before saying is_at refl says keeps;
}

-- lines alone could not be said
pub told_unsaid : (a b : Standing) (before : Clocked) (pre post : List (List ℕ)) (status : Status) → SayFails a b (pre ++ post) status → BringFails KeepsClocked a b (news_of pre None post) before status
told_unsaid a b before pre post status fails = record {
  runs = λ r at next s saying is_at keeps. fails_told KeepsClocked a b (news_of pre None post s) r at next s status saying is_at refl fails;
}

-- ---- causes

-- what was not taken has a cause
pub unbrought_cause : (before : Clocked) (what : Option What) (a b : Standing) (status : Status) → IsUnbrought before what a b status → HasCause a b status
unbrought_cause before None a b status is = unsaid_cause a b status is
unbrought_cause before (Some what) a b NumbersSpent is = tt
unbrought_cause before (Some what) a b (JournalFull need limit) is = tt
unbrought_cause before (Some what) a b DiskFault is = is
unbrought_cause before (Some what) a b Stopped is = absurd is
unbrought_cause before (Some what) a b TurnsSpent is = absurd is
unbrought_cause before (Some what) a b WorkloadDone is = absurd is
unbrought_cause before (Some what) a b Usage is = absurd is
unbrought_cause before (Some what) a b ConfFault is = absurd is
unbrought_cause before (Some what) a b (ConfRefused error) is = absurd is
unbrought_cause before (Some what) a b (NotAJournal slot at) is = absurd is
unbrought_cause before (Some what) a b GateFault is = absurd is
unbrought_cause before (Some what) a b SinkFault is = is
unbrought_cause before (Some what) a b ConfTooLarge is = absurd is
unbrought_cause before (Some what) a b (PatternRefused jail place kind) is = absurd is
unbrought_cause before (Some what) a b NoMemory is = tt

pub ruleset bringing = (made, bring_done, bring_unsaid, bring_lost, bring_unwritten, bring_memory, bring_told, told_unsaid)

pub ruleset unbrought = (unsaid_unbrought, unsaid_later, memory_unbrought)
