-- An engine that is loaded: the inputs that are taken one by one, and what both slots come to.
use Rattle.std.proofs.Common.{ℕ, ◌≡◌, ◌<◌, Bool, true, false, Option, Some, None, Result, Ok, Err, IfOk, List, [], ◌∷◌, ◌++◌, refl, sym, ap, ap₂, subst, ◌∙◌, append_assoc, append-nil}
use Rattle.std.proofs.lemmas.Option.{same_Some}
use Rattle.f2b_base.specs.declared.input.Input.{Input}
use Rattle.f2b_base.specs.declared.view.View.{View}
use Rattle.f2b_model.specs.Lists.{AllOf}
use Rattle.f2b_model.specs.Sound.{IsSound, IsSoundView}
use Rattle.f2b_model.specs.Storable.{IsStorableInput}
use Rattle.f2b_model.specs.StorableViews.{IsStorableView}
use Rattle.f2b_model.specs.Views.{spread, gathered, view_of, back}
use Rattle.f2b_model.specs.Whole.{State, Now, now_of, step, steps, step_now, steps_now}
use Rattle.f2b_model.proofs.ApartLemmas.{stored_fits}
use Rattle.f2b_model.proofs.WholeLemmas.{back_sound, gathered_spread, view_sound, whole_keeps, whole_shows}
use Rattle.f2b_world.specs.declared.event.Event.{Event}
use Rattle.f2b_world.specs.declared.event.Event.TheVariants.{DiskWrite, DiskSync}
use Rattle.f2b_world.specs.Slots.{Slot, settled}
use Rattle.f2b_world.specs.Told.{History, Standing, slot_of}
use Rattle.f2b_world.proofs.AddsLemmas.{adds_weaker}
use Rattle.journal_slots.specs.Tops.{Stored, Top, NoneOpen, Newest, NoJournal, stored_in, meaning}
use Rattle.ban_journal.specs.declared.load.Loaded.{Loaded as LoadedJournal}
use Rattle.ban_journal.specs.declared.load.StoredInputs.{StoredInputs}
use Rattle.ban_journal.specs.declared.load_error.LoadError.{LoadError}
use Rattle.ban_journal.specs.declared.load_error.LoadError.TheVariants.{DiskFault, NotAJournal, NoMemory}
use Rattle.ban_journal.specs.Loads.{AreLeft, AreSettled, HasLoaded, IsGiven, IsLoaded}
use Rattle.ban_journal.specs.Places.{IsPlaced}
use Rattle.ban_journal.specs.Positions.{IsAtTop, top_in}
use Rattle.slot_reader.specs.Reads.{AreDone, AreReads, IsDone, OnlyReads, content}
use Rattle.slot_reader.proofs.ReadLemmas.{reads_events, reads_same, reads_then, told_before}
use Rattle.slot_writes.specs.declared.position.Position.{Position}
use Rattle.slot_writes.specs.Rests.{IsAtRest, nothing_stored}
use Rattle.reconcile.specs.Engines.{EngineNow, IsOnDisk}
use Rattle.reconcile.specs.Laws.{ChangesNoSlot}
use Rattle.reconcile.specs.LoadedEngines.{IsLoadedEngine, IsEngineLoaded, AreSoundAtRest, AreTaken}
use Rattle.reconcile.specs.Loads.{Loaded, loaded, loaded_as, loaded_from, view_by, AreSound}
use Rattle.reconcile.specs.Opens.{WhereTold}
use Rattle.reconcile.proofs.StillLemmas.{placed_still, rest_same}
use Rattle.reconcile.proofs.ViewLemmas.{all_of-append, back_now, steps_sound}

-- ---- while slots are read

-- the slots are those of a history before
abbrev Same : History → History → Type 0
Same h g = (k : ℕ) → slot_of h k ≡ slot_of g k

module _ (failed : Bool) (a b : Standing) (reads : OnlyReads failed a b) (h : History) (told : b.told ≡ Some h) where
  pub before_reads : (g : History) × (a.told ≡ Some g) × Same h g
  before_reads = told_before failed a.told b.told reads.told h told

content_same : (h g : History) → Same h g → content h ≡ content g
content_same h g same = λ i k. (same k i).now

done_still : (e : Event) → IsDone e → ChangesNoSlot e
done_still (DiskWrite slot at bytes answer) is = absurd is
done_still (DiskSync slot answer) is = absurd is
done_still _ is = tt

all_done_still : (es : List Event) → AreDone es → AllOf ChangesNoSlot es
all_done_still [] is = tt
all_done_still (e ∷ es) is = (done_still e is.0, all_done_still es is.1)

-- no slot gets shorter
pub placed_then : (p : Position) (a b : Standing) → OnlyReads false a b → IsPlaced p a.told → IsPlaced p b.told
placed_then p a b reads is =
    placed_still p a.told b.told (adds_weaker (λ g es. AreReads false es) (λ g es. AllOf ChangesNoSlot es) a.told b.told (reads_events false a b reads) (λ g es done. all_done_still es done)) is

-- ---- inputs that are taken one by one

steps_now-append : (n : Now) (inputs : List Input) (i : Input) → steps_now n (inputs ++ i ∷ []) ≡ step_now (steps_now n inputs) i
steps_now-append n [] i = refl
steps_now-append n (x ∷ inputs) i = steps_now-append (step_now n x) inputs i

-- Of these inputs some were taken, and others are left.
pub record Part (begin : Now) (all : List Input) (core : Now) : Type 0 where
  pub before : List Input
  pub left : List Input
  pub parts : all ≡ before ++ left
  pub is : core ≡ steps_now begin before
  pub storable : AllOf IsStorableInput before

abbrev pub IsPartTaken : Now → List Input → Now → StoredInputs → (ℕ → List ℕ) → Type 0
IsPartTaken begin all core s now = (p : Part begin all core) × AreLeft s p.left now

pub none_taken : (begin : Now) (s : StoredInputs) (told : Option History) (all : List Input)
    → WhereTold told (λ g. AreLeft s all (content g)) → WhereTold told (λ g. IsPartTaken begin all begin s (content g))
none_taken begin s told all left g is = (record { before = []; left = all; parts = refl; is = refl; storable = tt }, left g is)

module _ (begin core : Now) (all : List Input) (p : Part begin all core) where
  -- the next one is taken
  abbrev one_taken : (next : Now) (i : Input) (rest : List Input) → p.left ≡ i ∷ rest → next ≡ step_now core i → IsStorableInput i → Part begin all next
  one_taken next i rest first is storable = record {
    before = p.before ++ i ∷ [];
    left = rest;
    parts = p.parts ∙ ap (λ (xs : List Input). p.before ++ xs) first ∙ sym (append_assoc p.before (i ∷ []) rest);
    is = is ∙ ap (λ (n : Now). step_now n i) p.is ∙ sym (steps_now-append begin p.before i);
    storable = all_of-append IsStorableInput p.before i p.storable storable;
  }

  -- none is left
  all_taken : p.left ≡ [] → AreTaken begin all (Ok core)
  all_taken none =
      let same : all ≡ p.before = p.parts ∙ ap (λ (xs : List Input). p.before ++ xs) none ∙ append-nil p.before in
      (p.is ∙ ap (steps_now begin) (sym same), subst (AllOf IsStorableInput) (sym same) p.storable)

-- what the next input is, of those that are left
abbrev pub Gives : StoredInputs → StoredInputs → Option History → Option History → Result (Option Input) LoadError → Type 0
Gives s t old new result = (left : List Input) → WhereTold old (λ g. AreLeft s left (content g)) → WhereTold new (λ g. IsGiven t left (content g) result)

module _ (begin core : Now) (all : List Input) (s t : StoredInputs) (failed : Bool) (a b : Standing) (reads : OnlyReads failed a b)
    (was : WhereTold a.told (λ g. IsPartTaken begin all core s (content g))) where
  -- what was taken before, and what is given of the rest
  given_then : (result : Result (Option Input) LoadError) → Gives s t a.told b.told result → (h : History) → b.told ≡ Some h → (p : Part begin all core) × IsGiven t p.left (content h) result
  given_then result gives h told =
      let before = before_reads failed a b reads h told in
      let is = was before.0 before.1 in
      (is.0, gives is.0.left (λ k other. subst (λ (g : History). AreLeft s is.0.left (content g)) (same_Some before.0 k (sym before.1 ∙ other)) is.1) h told)

  pub then_taken : (next : Now) (i : Input) → Gives s t a.told b.told (Ok (Some i)) → next ≡ step_now core i → IsStorableInput i → WhereTold b.told (λ g. IsPartTaken begin all next t (content g))
  then_taken next i gives is storable h told =
      let given = given_then (Ok (Some i)) gives h told in
      (one_taken begin core all given.0 next i given.1.0 given.1.1 is storable, given.1.2)

  pub then_ended : Gives s t a.told b.told (Ok None) → WhereTold b.told (λ g. AreTaken begin all (Ok core))
  then_ended gives h told =
      let given = given_then (Ok None) gives h told in
      all_taken begin core all given.0 given.1

  pub then_failed : (e : LoadError) → Gives s t a.told b.told (Err e) → WhereTold b.told (λ g. AreTaken begin all (Err e))
  then_failed DiskFault gives h told = tt
  then_failed NoMemory gives h told = tt
  then_failed (NotAJournal slot at) gives h told = absurd ((given_then (Err (NotAJournal slot at)) gives h told).1)

-- ---- the state that what was stored comes to

steps_shown : (s : State) (inputs : List Input) → AllOf IsStorableInput inputs → IsSound s → now_of (steps s inputs) ≡ steps_now (now_of s) inputs
steps_shown s [] storable sound = refl
steps_shown s (i ∷ inputs) storable sound =
    steps_shown (step s i) inputs storable.1 (whole_keeps s i (stored_fits i storable.0) sound) ∙ ap (λ (n : Now). steps_now n inputs) (whole_shows s i (stored_fits i storable.0) sound)

-- a sound state is the one that its view gives back, as far as its middle state shows
now_again : (s : State) → IsSound s → now_of (back (view_of s)) ≡ now_of s
now_again s sound = back_now (view_of s) (view_sound s sound) ∙ gathered_spread (now_of s)

module _ (stored : Stored) (sound : IsSoundView stored.view) (storable : AllOf IsStorableInput stored.inputs) (core : Now) (is : core ≡ steps_now (gathered stored.view) stored.inputs) where
  abbrev reached : State
  reached = steps (back stored.view) stored.inputs

  core_reached : core ≡ now_of reached
  core_reached =
      is ∙ ap (λ (n : Now). steps_now n stored.inputs) (sym (back_now stored.view sound)) ∙ sym (steps_shown (back stored.view) stored.inputs storable sound.sound)

  core_again : core ≡ now_of (back (view_by stored))
  core_again = core_reached ∙ sym (now_again reached (steps_sound (back stored.view) stored.inputs storable sound.sound))

  view_reached : spread core ≡ view_by stored
  view_reached = ap spread core_reached

-- ---- what the slots come to

module _ (limit : ℕ) (slots : ℕ → List ℕ) (p : Position) (stored : Stored) where
  ok_as : {s : Stored} {q : Position} → s ≡ stored → q ≡ p → ◌≡◌ {A = Result Loaded (ℕ × ℕ)} (Ok (loaded_as s q)) (Ok (loaded_as stored p))
  ok_as same at = ap₂ (λ (x : Stored) (y : Position). let r : Result Loaded (ℕ × ℕ) = Ok (loaded_as x y) in r) same at

  loads_top : (top : Top) → IsAtTop limit slots p top → stored_in top ≡ Some stored → loaded_from limit slots top ≡ Ok (loaded_as stored p)
  loads_top NoneOpen at is = ok_as (same_Some nothing_stored stored is) (sym at)
  loads_top (Newest slot o) at is = ok_as (same_Some (record { view = o.start.view; inputs = o.inputs }) stored is) (sym at)
  loads_top (NoJournal slot place) at is = absurd at

-- what a journal has stored that was loaded, with these inputs
abbrev stored_by : LoadedJournal → List Input → Stored
stored_by l inputs = record { view = l.view; inputs = inputs }

module _ (limit : ℕ) (l : LoadedJournal) (first core : Now) (b d : Standing) (is : WhereTold b.told (λ g. IsLoaded limit g (Ok l))) (begun : IsSoundView l.view → first ≡ gathered l.view)
    (reads : OnlyReads false b d) (taken : (left : List Input) → WhereTold b.told (λ g. AreLeft l.inputs left (content g)) → WhereTold d.told (λ g. AreTaken first left (Ok core)))
    (h : History) (told : d.told ≡ Some h) where
  -- what was loaded, by a history before, whose slots are the same, and what was taken of it
  found : (g : History) × (b.told ≡ Some g) × Same h g × ((has : HasLoaded limit l g) × AreTaken first has.inputs (Ok core))
  found =
      let before = before_reads false b d reads h told in
      let has : HasLoaded limit l before.0 = is before.0 before.1 in
      (before.0, before.1, before.2, (has, taken has.inputs (λ k other. subst (λ (g : History). AreLeft l.inputs has.inputs (content g)) (same_Some before.0 k (sym before.1 ∙ other)) has.left) h told))

  abbrev all_stored : Stored
  all_stored = stored_by l found.3.0.inputs

  abbrev engine : EngineNow
  engine = record { journal = l.journal; core = core }

  core_is : IsSoundView l.view → core ≡ steps_now (gathered l.view) found.3.0.inputs
  core_is sound = found.3.1.0 ∙ ap (λ (n : Now). steps_now n found.3.0.inputs) (begun sound)

  pub engine_loaded : IsLoadedEngine limit (content h) engine
  engine_loaded =
      let same : content found.0 ≡ content h = sym (content_same h found.0 found.2) in
      subst (λ (slots : ℕ → List ℕ). IsLoadedEngine limit slots engine) same (record {
        comes = loaded_as all_stored l.journal;
        loads = loads_top limit (content found.0) l.journal all_stored (top_in (content found.0)) found.3.0.at found.3.0.means;
        journal = refl;
        core = λ sound. (let view_is = sound all_stored found.3.0.means in core_again all_stored view_is found.3.1.1 core (core_is view_is));
        sound = λ sound.
            let view_is = sound all_stored found.3.0.means in
            back_sound (steps (back l.view) found.3.0.inputs) (steps_sound (back l.view) found.3.0.inputs found.3.1.1 view_is.sound);
      })

  pub engine_on_disk : IsStorableView l.view → WhereTold b.told AreSoundAtRest → IsOnDisk engine h
  engine_on_disk storable rests =
      let at = rests found.0 found.1 in
      let view_is = at.sound all_stored found.3.0.means in
      record {
        stored = all_stored;
        rests = rest_same l.journal all_stored h found.0 found.2 (found.3.0.rests at.settled);
        comes = record {
          sound = view_is;
          view = storable;
          inputs = found.3.1.1;
          after = view_reached all_stored view_is found.3.1.1 core (core_is view_is);
        };
      }

-- what was sound and at rest still is
pub rests_then : (failed : Bool) (a b : Standing) → OnlyReads failed a b → WhereTold a.told AreSoundAtRest → WhereTold b.told AreSoundAtRest
rests_then failed a b reads rests h told =
    let before = before_reads failed a b reads h told in
    let was = rests before.0 before.1 in
    let slots : (λ (k : ℕ). slot_of before.0 k) ≡ (λ (k : ℕ). slot_of h k) = (λ i k. sym (before.2 k) i) in
    record {
      sound = subst AreSound (sym (content_same h before.0 before.2)) was.sound;
      settled = subst (λ (s : ℕ → Slot). (k : ℕ) → k < 2 → s k ≡ settled (s k).now) slots was.settled;
    }

-- ---- where loading ends before

pub journal_failed : (limit : ℕ) (e : LoadError) (told : Option History) → WhereTold told (λ g. IsLoaded limit g (Err e)) → WhereTold told (λ g. IsEngineLoaded limit (content g) (Err e))
journal_failed limit DiskFault told is g at = tt
journal_failed limit NoMemory told is g at = tt
journal_failed limit (NotAJournal slot place) told is g at = ap (loaded_from limit (content g)) (is g at)

-- inputs that are left are none of no journal
pub inputs_failed : (limit : ℕ) (l : LoadedJournal) (first : Now) (e : LoadError) (failed : Bool) (b d : Standing) → WhereTold b.told (λ g. IsLoaded limit g (Ok l)) → OnlyReads failed b d
    → ((left : List Input) → WhereTold b.told (λ g. AreLeft l.inputs left (content g)) → WhereTold d.told (λ g. AreTaken first left (Err e))) → WhereTold d.told (λ g. IsEngineLoaded limit (content g) (Err e))
inputs_failed limit l first DiskFault failed b d is reads taken h told = tt
inputs_failed limit l first NoMemory failed b d is reads taken h told = tt
inputs_failed limit l first (NotAJournal slot at) failed b d is reads taken h told =
    let before = before_reads failed b d reads h told in
    let has : HasLoaded limit l before.0 = is before.0 before.1 in
    absurd (taken has.inputs (λ k other. subst (λ (g : History). AreLeft l.inputs has.inputs (content g)) (same_Some before.0 k (sym before.1 ∙ other)) has.left) h told)
