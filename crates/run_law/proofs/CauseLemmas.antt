-- Counts of faults, and causes, over several calls.
use Rattle.std.proofs.Common.{ℕ, ◌≡◌, ◌≤◌, List, [], ◌∷◌, inl, inr, refl, sym, ◌∙◌, subst, arith}
use Rattle.std.proofs.lemmas.Bool.{cases_lt}
use Rattle.f2b_world.specs.Faults.{OfSink, OfDisk, OfConfiguration, OfGate, OfPatterns, Rose}
use Rattle.f2b_world.specs.Told.{Called, History, IsHonest, Standing}
use Rattle.f2b_world.specs.declared.event.Event.{Event}
use Rattle.slot_writes.specs.declared.position.Position.{Position}
use Rattle.ban_journal.specs.Places.{IsPlaced}
use Rattle.filter_regex.specs.declared.error.BuildKind.TheVariants.{Syntax, TooBig}
use Rattle.run_law.specs.Stages.{HasCause, IsRefusedAs, IsSteady, IsUnsaid}
use Rattle.run_law.specs.declared.status.Status.{Status}
use Rattle.run_law.proofs.LongLemmas.{goes_behind, goes_none, goes_on, placed_on}
use Rattle.run_law.specs.declared.status.Status.TheVariants.{Stopped, TurnsSpent, WorkloadDone, Usage, ConfFault, ConfRefused, DiskFault, NotAJournal, JournalFull, GateFault, SinkFault, ConfTooLarge, PatternRefused, NumbersSpent, NoMemory}

-- where nothing was called no count fell
pub steady_refl : (s : Standing) → IsSteady s s
steady_refl s = record { counts = λ kind. omega arith; history = goes_none s.told }

-- nor over two steady parts
pub steady_on : (old mid new : Standing) → IsSteady old mid → IsSteady mid new → IsSteady old new
steady_on old mid new p q = record { counts = λ kind. omega (arith, p.counts kind, q.counts kind); history = goes_behind old.told mid.told new.told p.history q.history }

-- nor over one call
pub steady_call : (old new : Standing) (event : Event) → Called old event new → IsSteady old new
steady_call old new event call = record { counts = call.counts.steady; history = goes_on (λ (g : History) (es : List Event). (es ≡ event ∷ []) × IsHonest g event) old.told new.told call.adds }

-- over a steady part a journal's places stay where they are
pub steady_placed : (p : Position) (old new : Standing) → IsSteady old new → IsPlaced p old.told → IsPlaced p new.told
steady_placed p old new steady is = placed_on p old.told new.told steady.history is

-- and over one call
pub called_placed : (p : Position) (old new : Standing) (event : Event) → Called old event new → IsPlaced p old.told → IsPlaced p new.told
called_placed p old new event call is = steady_placed p old new (steady_call old new event call) is

pub ruleset placing = (called_placed)

rose_later : (a b c : ℕ) → a ≤ b → Rose b c → Rose a c
rose_later a b c le (inl lt) = inl (omega arith)
rose_later a b c le (inr top) = inr top

-- what was counted since a later moment was counted since an earlier one
pub cause_later : (old mid new : Standing) (status : Status) → IsSteady old mid → HasCause mid new status → HasCause old new status
cause_later old mid new Stopped steady cause = cause
cause_later old mid new TurnsSpent steady cause = cause
cause_later old mid new WorkloadDone steady cause = cause
cause_later old mid new Usage steady cause = cause
cause_later old mid new ConfFault steady cause = rose_later _ _ _ (steady.counts OfConfiguration) cause
cause_later old mid new (ConfRefused error) steady cause = cause
cause_later old mid new DiskFault steady cause = rose_later _ _ _ (steady.counts OfDisk) cause
cause_later old mid new (NotAJournal slot at) steady cause = tt
cause_later old mid new (JournalFull need limit) steady cause = tt
cause_later old mid new GateFault steady cause = rose_later _ _ _ (steady.counts OfGate) cause
cause_later old mid new SinkFault steady cause = rose_later _ _ _ (steady.counts OfSink) cause
cause_later old mid new ConfTooLarge steady cause = tt
cause_later old mid new (PatternRefused jail place Syntax) steady cause = cause
cause_later old mid new (PatternRefused jail place TooBig) steady cause = rose_later _ _ _ (steady.counts OfPatterns) cause
cause_later old mid new NumbersSpent steady cause = tt
cause_later old mid new NoMemory steady cause = tt

-- what was counted up to a moment was counted up to a later one
rose_by_then : (a b c : ℕ) → a ≤ b → b ≤ c → Rose a b → Rose a c
rose_by_then a b c p q (inl lt) = inl (omega arith)
rose_by_then a b c p q (inr top) = elim (cases_lt a c) [ inl lt ↦ inl lt | inr ge ↦ inr (let e : c ≡ b = omega arith in e ∙ top) ]

pub cause_by_then : (old mid new : Standing) (status : Status) → IsSteady old mid → IsSteady mid new → HasCause old mid status → HasCause old new status
cause_by_then old mid new Stopped before after cause = cause
cause_by_then old mid new TurnsSpent before after cause = cause
cause_by_then old mid new WorkloadDone before after cause = cause
cause_by_then old mid new Usage before after cause = cause
cause_by_then old mid new ConfFault before after cause = rose_by_then _ _ _ (before.counts OfConfiguration) (after.counts OfConfiguration) cause
cause_by_then old mid new (ConfRefused error) before after cause = cause
cause_by_then old mid new DiskFault before after cause = rose_by_then _ _ _ (before.counts OfDisk) (after.counts OfDisk) cause
cause_by_then old mid new (NotAJournal slot at) before after cause = tt
cause_by_then old mid new (JournalFull need limit) before after cause = tt
cause_by_then old mid new GateFault before after cause = rose_by_then _ _ _ (before.counts OfGate) (after.counts OfGate) cause
cause_by_then old mid new SinkFault before after cause = rose_by_then _ _ _ (before.counts OfSink) (after.counts OfSink) cause
cause_by_then old mid new ConfTooLarge before after cause = tt
cause_by_then old mid new (PatternRefused jail place Syntax) before after cause = cause
cause_by_then old mid new (PatternRefused jail place TooBig) before after cause = rose_by_then _ _ _ (before.counts OfPatterns) (after.counts OfPatterns) cause
cause_by_then old mid new NumbersSpent before after cause = tt
cause_by_then old mid new NoMemory before after cause = tt

-- ---- lines that could not be said, and refusals

pub unsaid_cause : (old new : Standing) (status : Status) → IsUnsaid old new status → HasCause old new status
unsaid_cause old new Stopped is = absurd is
unsaid_cause old new TurnsSpent is = absurd is
unsaid_cause old new WorkloadDone is = absurd is
unsaid_cause old new Usage is = absurd is
unsaid_cause old new ConfFault is = absurd is
unsaid_cause old new (ConfRefused error) is = absurd is
unsaid_cause old new DiskFault is = absurd is
unsaid_cause old new (NotAJournal slot at) is = absurd is
unsaid_cause old new (JournalFull need limit) is = absurd is
unsaid_cause old new GateFault is = absurd is
unsaid_cause old new SinkFault is = is
unsaid_cause old new ConfTooLarge is = absurd is
unsaid_cause old new (PatternRefused jail place kind) is = absurd is
unsaid_cause old new NumbersSpent is = absurd is
unsaid_cause old new NoMemory is = tt

-- a refusal's line was said
pub refused_said : (old new : Standing) (refusal : Status) → IsRefusedAs old new refusal refusal
refused_said old new refusal = inl refl

-- it could not be said
pub refused_unsaid : (old new : Standing) (refusal status : Status) → IsUnsaid old new status → IsRefusedAs old new refusal status
refused_unsaid old new refusal status is = inr is

-- memory ran out before it was said
pub refused_early : (s : Standing) (refusal : Status) → IsRefusedAs s s refusal NoMemory
refused_early s refusal = inr tt

-- where a refusal has a cause, whatever the run ends with has one
pub refused_cause : (old mid new : Standing) (refusal status : Status) → HasCause old mid refusal → IsSteady old mid → IsSteady mid new → IsRefusedAs mid new refusal status → HasCause old new status
refused_cause old mid new refusal status cause before after (inl is) =
    let P : Status → Type 0 = λ s. HasCause old new s in
    subst P (sym is) (cause_by_then old mid new refusal before after cause)
refused_cause old mid new refusal status cause before after (inr is) = cause_later old mid new status before (unsaid_cause mid new status is)

-- that numbers are used up is told by the events
pub spent_cause : (old new : Standing) (status : Status) → IsRefusedAs old new NumbersSpent status → HasCause old new status
spent_cause old new status (inl is) =
    let P : Status → Type 0 = λ s. HasCause old new s in
    subst P (sym is) tt
spent_cause old new status (inr is) = unsaid_cause old new status is

-- so is that there is no room
pub full_cause : (old new : Standing) (need limit : ℕ) (status : Status) → IsRefusedAs old new (JournalFull need limit) status → HasCause old new status
full_cause old new need limit status (inl is) =
    let P : Status → Type 0 = λ s. HasCause old new s in
    subst P (sym is) tt
full_cause old new need limit status (inr is) = unsaid_cause old new status is

pub ruleset counting = (steady_refl, steady_on, steady_call, steady_placed, cause_later, unsaid_cause, spent_cause, full_cause)

pub ruleset refused = (refused_said, refused_unsaid, refused_early)
