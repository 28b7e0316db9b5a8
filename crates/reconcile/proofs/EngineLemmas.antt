-- What whatever a stop leaves opens to: at rest, while an input is written, and behind that.
use Rattle.std.proofs.Common.{ℕ, ◌≡◌, ◌≤◌, ◌<◌, ◌⊎◌, inl, inr, Bool, true, false, nat_lt, nat_le, if◌then◌else◌, Some, List, refl, sym, ap, subst, ◌∙◌}
use Rattle.std.proofs.lemmas.Bool.{ltb-false, leb-false}
use Rattle.f2b_base.specs.declared.input.Input.{Input}
use Rattle.f2b_base.specs.declared.view.View.{View}
use Rattle.f2b_model.specs.Lanes.{books_now}
use Rattle.f2b_model.specs.Steps.{moves_now}
use Rattle.f2b_model.specs.Views.{spread}
use Rattle.f2b_model.specs.Whole.{is_whole_spent, step_now}
use Rattle.f2b_world.specs.declared.event.Event.{Event}
use Rattle.f2b_world.specs.Told.{History, grown}
use Rattle.journal_slots.specs.Starts.{last_generation}
use Rattle.journal_slots.specs.Tops.{Stored, meaning}
use Rattle.slot_writes.specs.declared.position.Position.{Position}
use Rattle.slot_writes.specs.Entries.{Entry, Written, Full, Spent, fits, append_writes, appended, need, turn_entry, turn_writes, turned, entry_of}
use Rattle.slot_writes.specs.Rests.{IsAtRest, and_input, just_view}
use Rattle.slot_writes.specs.Writes.{Write, done_events, IsPart}
use Rattle.slot_writes.proofs.RestLemmas.{rest_means, append_means, append_rests, turn_means, turn_rests}
use Rattle.reconcile.specs.Answers.{entry_for}
use Rattle.reconcile.specs.Engines.{EngineNow, IsOnDisk}
use Rattle.reconcile.specs.Laws.{IsWithinBounds}
use Rattle.reconcile.specs.Opens.{ComesTo, OpensTo, Opens, OpensEither}
use Rattle.reconcile.proofs.ViewLemmas.{comes_recorded, comes_on, comes_alone}

-- At rest whatever a stop leaves opens to the view.
pub rest_opens : (e : EngineNow) (g : History) → IsOnDisk e g → Opens (spread e.core) g
rest_opens e g is image permits = record { stored = is.stored; means = rest_means e.journal is.stored g is.rests image permits; comes = is.comes }

-- ---- which calls write an input

-- what a choice came to
chosen : (b : Bool) (x y z : Entry) → (if b then x else y) ≡ z → ((b ≡ true) × (x ≡ z)) ⊎ ((b ≡ false) × (y ≡ z))
chosen true x y z is = inl (refl, is)
chosen false x y z is = inr (refl, is)

-- an append
pub record IsAppended (p : Position) (i : Input) (next : Position) (ws : List Write) : Type 0 where
  pub room : fits p i ≡ true
  pub next_is : next ≡ appended p i
  pub calls : ws ≡ append_writes p i

-- a change of slots
pub record IsTurned (p : Position) (v : View) (i : Input) (next : Position) (ws : List Write) : Type 0 where
  pub room : need v i ≤ p.limit
  pub below : p.generation < last_generation
  pub next_is : next ≡ turned p v i
  pub calls : ws ≡ turn_writes p v i

appended_so : (p : Position) (i : Input) (next : Position) (ws : List Write) → fits p i ≡ true → Written (appended p i) (append_writes p i) ≡ Written next ws → IsAppended p i next ws
appended_so p i next ws room is = record { room = room; next_is = cc; calls = cc }

turned_so : (p : Position) (v : View) (i : Input) (next : Position) (ws : List Write) → turn_entry p v i ≡ Written next ws → IsTurned p v i next ws
turned_so p v i next ws is = elim (chosen (nat_lt p.limit (need v i)) (Full (need v i)) _ (Written next ws) is) [
  | inl full ↦ absurd (let e : Full (need v i) ≡ Written next ws = full.1 in cc)
  | inr room ↦ elim (chosen (nat_le last_generation p.generation) Spent (Written (turned p v i) (turn_writes p v i)) (Written next ws) room.1) [
    | inl spent ↦ absurd (let e : Spent ≡ Written next ws = spent.1 in cc)
    | inr free ↦ (let e : Written (turned p v i) (turn_writes p v i) ≡ Written next ws = free.1 in
        record { room = ltb-false p.limit (need v i) room.0; below = leb-false last_generation p.generation free.0; next_is = cc; calls = cc })
  ]
]

entry_so : (p : Position) (v : View) (i : Input) (next : Position) (ws : List Write) → entry_of p v i ≡ Written next ws → IsAppended p i next ws ⊎ IsTurned p v i next ws
entry_so p v i next ws is = elim (chosen (fits p i) (Written (appended p i) (append_writes p i)) (turn_entry p v i) (Written next ws) is) [
  | inl fit ↦ inl (appended_so p i next ws fit.0 fit.1)
  | inr full ↦ inr (turned_so p v i next ws full.1)
]

pub written_so : (e : EngineNow) (i : Input) (next : Position) (ws : List Write) → entry_for e i ≡ Written next ws
    → IsAppended e.journal i next ws ⊎ IsTurned e.journal (spread e.core) i next ws
written_so e i next ws is = elim (chosen (is_whole_spent moves_now books_now e.core) Spent (entry_of e.journal (spread e.core) i) (Written next ws) is) [
  | inl spent ↦ absurd (let f : Spent ≡ Written next ws = spent.1 in cc)
  | inr free ↦ entry_so e.journal (spread e.core) i next ws free.1
]

-- ---- while an input is written

module _ (e : EngineNow) (i : Input) (next : Position) (ws : List Write) (g : History) (within : IsWithinBounds e i) (on : IsOnDisk e g) where
  abbrev before : View
  before = spread e.core

  abbrev after : View
  after = spread (step_now e.core i)

  -- the image means what was stored before, or the same by its own view
  opens_before : (stored : Stored) (image : ℕ → List ℕ) → ComesTo stored before → meaning image ≡ Some stored → OpensTo before image ⊎ OpensTo after image
  opens_before stored image comes means = inl (record { stored = stored; means = means; comes = comes })

  opens_after : (stored : Stored) (image : ℕ → List ℕ) → ComesTo stored before → meaning image ≡ Some (and_input stored i) → OpensTo before image ⊎ OpensTo after image
  opens_after stored image comes means = inr (record { stored = and_input stored i; means = means; comes = comes_on stored e.core comes i within.input })

  alone : ComesTo (just_view before) before
  alone = comes_alone on.stored e.core on.comes within.core

  append_opens : (es : List Event) → IsAppended e.journal i next ws → IsPart ws es → OpensEither before after (grown g es)
  append_opens es how part image permits =
      elim (append_means e.journal on.stored g i within.limit on.rests how.room within.input es (subst (λ (calls : List Write). IsPart calls es) how.calls part) image permits) [
        | inl means ↦ opens_before on.stored image on.comes means
        | inr means ↦ opens_after on.stored image on.comes means
      ]

  turn_opens : (es : List Event) → IsTurned e.journal before i next ws → IsPart ws es → OpensEither before after (grown g es)
  turn_opens es how part image permits =
      elim (turn_means e.journal on.stored g before i within.limit on.rests how.room how.below (comes_recorded on.stored e.core on.comes within.core) within.input es
      (subst (λ (calls : List Write). IsPart calls es) how.calls part) image permits) [
        | inl means ↦ opens_before on.stored image on.comes means
        | inr other ↦ elim other [
          | inl means ↦ opens_before (just_view before) image alone means
          | inr means ↦ opens_after (just_view before) image alone means
        ]
      ]

  pub written_opens : (es : List Event) → entry_for e i ≡ Written next ws → IsPart ws es → OpensEither before after (grown g es)
  written_opens es is part = elim (written_so e i next ws is) [
    | inl how ↦ append_opens es how part
    | inr how ↦ turn_opens es how part
  ]

  -- ---- behind that

  abbrev with_input : EngineNow
  with_input = record { journal = next; core = step_now e.core i }

  append_on_disk : (es : List Event) → IsAppended e.journal i next ws → es ≡ done_events ws → IsOnDisk with_input (grown g es)
  append_on_disk es how done =
      let calls : es ≡ done_events (append_writes e.journal i) = done ∙ ap done_events how.calls in
      let there = append_rests e.journal on.stored g i within.limit on.rests how.room within.input es calls in
      record {
        stored = and_input on.stored i;
        rests = subst (λ (p : Position). IsAtRest p (and_input on.stored i) (grown g es)) (sym how.next_is) there;
        comes = comes_on on.stored e.core on.comes i within.input;
      }

  turn_on_disk : (es : List Event) → IsTurned e.journal before i next ws → es ≡ done_events ws → IsOnDisk with_input (grown g es)
  turn_on_disk es how done =
      let calls : es ≡ done_events (turn_writes e.journal before i) = done ∙ ap done_events how.calls in
      let stored = and_input (just_view before) i in
      let there = turn_rests e.journal on.stored g before i within.limit on.rests how.room how.below (comes_recorded on.stored e.core on.comes within.core) within.input es calls in
      record {
        stored = stored;
        rests = subst (λ (p : Position). IsAtRest p stored (grown g es)) (sym how.next_is) there;
        comes = comes_on (just_view before) e.core alone i within.input;
      }

  pub written_on_disk : (es : List Event) → entry_for e i ≡ Written next ws → es ≡ done_events ws → IsOnDisk with_input (grown g es)
  written_on_disk es is done = elim (written_so e i next ws is) [
    | inl how ↦ append_on_disk es how done
    | inr how ↦ turn_on_disk es how done
  ]
