-- A journal at rest over what comes to the view of a state, and what a stop leaves of it while an input is written.
use Rattle.std.proofs.Common.{ℕ, zero, suc, ◌≡◌, ◌-◌, ◌<◌, ◌≤◌, ◌^◌, ◌⊎◌, nat_le, nat_lt, true, inl, inr, List, [], ◌∷◌, Some, refl, sym, ap, ◌∙◌, subst, arith}
use Rattle.std.proofs.lemmas.Bool.{leb-false, ltb-false}
use Rattle.f2b_base.specs.declared.input.Input.{Input}
use Rattle.f2b_base.specs.declared.view.View.{View}
use Rattle.f2b_model.specs.Sound.{IsSoundView}
use Rattle.f2b_model.specs.Storable.{IsStorableInput}
use Rattle.f2b_model.specs.Views.{back, view_of}
use Rattle.f2b_model.specs.Whole.{State, step, steps}
use Rattle.f2b_model.proofs.WholeLemmas.{view_again, view_sound}
use Rattle.f2b_world.specs.Slots.{Permits, Slot, settled, slot_step}
use Rattle.f2b_world.specs.Told.{History, grown, slot_of}
use Rattle.f2b_world.specs.declared.event.Event.{Event}
use Rattle.f2b_world.specs.declared.event.Event.TheVariants.{DiskSync, DiskWrite}
use Rattle.journal_slots.specs.Starts.{last_generation}
use Rattle.journal_slots.specs.Tops.{Stored, meaning}
use Rattle.record_fields.proofs.CodecLemmas.{split}
use Rattle.reconcile.specs.Loads.{view_by}
use Rattle.run_law.specs.Stops.{ComesTo, IsSettled, IsWrite, held_in}
use Rattle.run_law.proofs.KeptLemmas.{IsFine, IsLive, alike_step, fine_back, fine_recorded, fine_step, steps_more}
use Rattle.slot_writes.specs.Entries.{Written, Full, Spent, append_writes, appended, entry_of, fits, fresh_slot, need, turn_entry, turn_writes, turned}
use Rattle.slot_writes.specs.Rests.{IsAtRest, PermitsBoth, and_input, just_view}
use Rattle.slot_writes.specs.Writes.{IsPart, Write, done_events}
use Rattle.slot_writes.specs.declared.position.Position.{Position}
use Rattle.slot_writes.proofs.RestLemmas.{append_means, append_rests, rest_means, turn_means, turn_rests}
use Rattle.slot_writes.proofs.RunLemmas.{slot_grown}

pub record Keeps (p : Position) (s : State) (g : History) : Type 0 where
  pub stored : Stored
  pub rests : IsAtRest p stored g
  pub viewed : IsSoundView stored.view
  pub own : IsFine (steps (back stored.view) stored.inputs)
  pub comes : view_by stored ≡ view_of s
  pub fine : IsFine s
  pub limited : p.limit < 2 ^ 64

-- ---- at rest

-- whatever a stop leaves comes to the view
pub keeps_image : (p : Position) (s : State) (g : History) → Keeps p s g → (image : ℕ → List ℕ) → PermitsBoth g image → ComesTo (view_of s) image
keeps_image p s g k image permits = record { stored = k.stored; means = rest_means p k.stored g k.rests image permits; sound = k.viewed; comes = k.comes }

settled_now : (g : History) (slot : ℕ) (content : List ℕ) → slot_of g slot ≡ settled content → slot_of g slot ≡ settled (held_in g slot)
settled_now g slot content is = is ∙ ap settled (sym (ap (λ (s : Slot). s.now) is))

is_either : (slot own : ℕ) → slot < 2 → own < 2 → (slot ≡ own) ⊎ (slot ≡ 1 - own)
is_either zero zero small two = inl refl
is_either zero (suc n) small two = inr (omega (arith, two))
is_either (suc n) zero small two = inr (omega (arith, small))
is_either (suc n) (suc m) small two = inl (omega (arith, small, two))

-- nothing is unsynced
pub keeps_settled : (p : Position) (s : State) (g : History) → Keeps p s g → IsSettled g
keeps_settled p s g k = record {
  each = λ slot small.
      let P : ℕ → Type 0 = λ n. slot_of g n ≡ settled (held_in g n) in
      elim (is_either slot p.slot small k.rests.slot) [
        | inl own ↦ subst P (sym own) (settled_now g p.slot k.rests.content k.rests.holds)
        | inr other ↦ subst P (sym other) (settled_now g (1 - p.slot) k.rests.past k.rests.beside)
      ];
}

permits_own : (bytes : List ℕ) → Permits (settled bytes) bytes
permits_own bytes = record { no_shorter = omega arith; no_longer = omega arith; kept = λ i small outside. refl }

-- and what reads give comes to the view
pub keeps_held : (p : Position) (s : State) (g : History) → Keeps p s g → ComesTo (view_of s) (held_in g)
keeps_held p s g k = keeps_image p s g k (held_in g) (λ slot small. subst (λ (t : Slot). Permits t (held_in g slot)) (sym ((keeps_settled p s g k).each slot small)) (permits_own (held_in g slot)))

-- ---- an event that changes no slot

pub slot_same : (slot : ℕ) (s : Slot) (e : Event) → (IsWrite e → ⊥) → slot_step slot s e ≡ s
slot_same slot s (DiskWrite k at bytes answer) other = absurd (other tt)
slot_same slot s (DiskSync k answer) other = absurd (other tt)
slot_same slot s e other = refl

pub slot_still : (g : History) (e : Event) → (IsWrite e → ⊥) → (slot : ℕ) → slot_of (grown g (e ∷ [])) slot ≡ slot_of g slot
slot_still g e other slot = slot_grown slot g (e ∷ []) ∙ slot_same slot (slot_of g slot) e other

pub keeps_still : (p : Position) (s : State) (g : History) (e : Event) → (IsWrite e → ⊥) → Keeps p s g → Keeps p s (grown g (e ∷ []))
keeps_still p s g e other k =
    let r = k.rests in
    record {
      stored = k.stored;
      rests = record {
        content = r.content;
        past = r.past;
        slot = r.slot;
        holds = slot_still g e other p.slot ∙ r.holds;
        held = r.held;
        head = r.head;
        top = r.top;
        grows = r.grows;
        beside = slot_still g e other (fresh_slot p) ∙ r.beside;
        past_held = r.past_held;
        past_head = r.past_head;
        older = r.older;
      };
      viewed = k.viewed;
      own = k.own;
      comes = k.comes;
      fine = k.fine;
      limited = k.limited;
    }

-- ---- what becomes of an input

-- it is appended
pub record Appends (p : Position) (i : Input) (next : Position) (ws : List Write) : Type 0 where
  pub room : fits p i ≡ true
  pub next_is : next ≡ appended p i
  pub calls : ws ≡ append_writes p i

-- or slots are changed
pub record Turns (p : Position) (v : View) (i : Input) (next : Position) (ws : List Write) : Type 0 where
  pub room : need v i ≤ p.limit
  pub below : p.generation < last_generation
  pub next_is : next ≡ turned p v i
  pub calls : ws ≡ turn_writes p v i

turn_is : (p : Position) (v : View) (i : Input) (next : Position) (ws : List Write) → turn_entry p v i ≡ Written next ws → Turns p v i next ws
turn_is p v i next ws is = elim (split (nat_lt p.limit (need v i)) _ _ _ is) [
  | inl full ↦ absurd (let e : Full (need v i) ≡ Written next ws = full.1 in cc)
  | inr room ↦ elim (split (nat_le last_generation p.generation) _ _ _ room.1) [
    | inl spent ↦ absurd (let e : Spent ≡ Written next ws = spent.1 in cc)
    | inr below ↦
        let e : Written (turned p v i) (turn_writes p v i) ≡ Written next ws = below.1 in
        record { room = ltb-false p.limit (need v i) room.0; below = omega (arith, leb-false last_generation p.generation below.0); next_is = cc; calls = cc }
  ]
]

pub entry_is : (p : Position) (v : View) (i : Input) (next : Position) (ws : List Write) → entry_of p v i ≡ Written next ws → Appends p i next ws ⊎ Turns p v i next ws
entry_is p v i next ws is = elim (split (fits p i) _ _ _ is) [
  | inl room ↦ (let e : Written (appended p i) (append_writes p i) ≡ Written next ws = room.1 in inl (record { room = room.0; next_is = cc; calls = cc }))
  | inr none ↦ inr (turn_is p v i next ws none.1)
]

-- ---- while it is written

module _ (p : Position) (s : State) (g : History) (i : Input) (k : Keeps p s g) (live : IsLive s) (storable : IsStorableInput i) where
  more_comes : view_by (and_input k.stored i) ≡ view_of (step s i)
  more_comes =
      ap view_of (steps_more (back k.stored.view) k.stored.inputs i) ∙ alike_step (steps (back k.stored.view) k.stored.inputs) s i storable k.own k.fine k.comes

  new_comes : view_by (and_input (just_view (view_of s)) i) ≡ view_of (step s i)
  new_comes = alike_step (back (view_of s)) s i storable (fine_back s k.fine) k.fine (view_again s k.fine.sound)

  abbrev Either : (ℕ → List ℕ) → Type 0
  Either image = ComesTo (view_of s) image ⊎ ComesTo (view_of (step s i)) image

  old_image : (image : ℕ → List ℕ) → meaning image ≡ Some k.stored → Either image
  old_image image is = inl (record { stored = k.stored; means = is; sound = k.viewed; comes = k.comes })

  more_image : (image : ℕ → List ℕ) → meaning image ≡ Some (and_input k.stored i) → Either image
  more_image image is = inr (record { stored = and_input k.stored i; means = is; sound = k.viewed; comes = more_comes })

  view_image : (image : ℕ → List ℕ) → meaning image ≡ Some (just_view (view_of s)) → Either image
  view_image image is = inl (record { stored = just_view (view_of s); means = is; sound = view_sound s k.fine.sound; comes = view_again s k.fine.sound })

  new_image : (image : ℕ → List ℕ) → meaning image ≡ Some (and_input (just_view (view_of s)) i) → Either image
  new_image image is = inr (record { stored = and_input (just_view (view_of s)) i; means = is; sound = view_sound s k.fine.sound; comes = new_comes })

  append_image : (next : Position) (ws : List Write) → Appends p i next ws → (es : List Event) → IsPart ws es → (image : ℕ → List ℕ) → PermitsBoth (grown g es) image → Either image
  append_image next ws a es part image permits =
      elim (append_means p k.stored g i k.limited k.rests a.room storable es (subst (λ (vs : List Write). IsPart vs es) a.calls part) image permits) [
        | inl old ↦ old_image image old
        | inr more ↦ more_image image more
      ]

  turn_image : (next : Position) (ws : List Write) → Turns p (view_of s) i next ws → (es : List Event) → IsPart ws es → (image : ℕ → List ℕ) → PermitsBoth (grown g es) image → Either image
  turn_image next ws t es part image permits =
      elim (turn_means p k.stored g (view_of s) i k.limited k.rests t.room t.below (fine_recorded s k.fine live) storable es (subst (λ (vs : List Write). IsPart vs es) t.calls part) image permits) [
        | inl old ↦ old_image image old
        | inr new ↦ elim new [ inl only ↦ view_image image only | inr more ↦ new_image image more ]
      ]

  -- whatever a stop leaves comes to the view before it or behind it
  pub entry_image : (next : Position) (ws : List Write) → entry_of p (view_of s) i ≡ Written next ws → (es : List Event) → IsPart ws es → (image : ℕ → List ℕ) → PermitsBoth (grown g es) image → Either image
  entry_image next ws is es part image permits = elim (entry_is p (view_of s) i next ws is) [
    | inl a ↦ append_image next ws a es part image permits
    | inr t ↦ turn_image next ws t es part image permits
  ]

  append_keeps : (next : Position) (ws : List Write) → Appends p i next ws → (es : List Event) → es ≡ done_events ws → Keeps next (step s i) (grown g es)
  append_keeps next ws a es done =
      let P : Position → Type 0 = λ q. Keeps q (step s i) (grown g es) in
      subst P (sym a.next_is) (record {
        stored = and_input k.stored i;
        rests = append_rests p k.stored g i k.limited k.rests a.room storable es (done ∙ ap done_events a.calls);
        viewed = k.viewed;
        own = subst IsFine (sym (steps_more (back k.stored.view) k.stored.inputs i)) (fine_step (steps (back k.stored.view) k.stored.inputs) i storable k.own);
        comes = more_comes;
        fine = fine_step s i storable k.fine;
        limited = k.limited;
      })

  turn_keeps : (next : Position) (ws : List Write) → Turns p (view_of s) i next ws → (es : List Event) → es ≡ done_events ws → Keeps next (step s i) (grown g es)
  turn_keeps next ws t es done =
      let P : Position → Type 0 = λ q. Keeps q (step s i) (grown g es) in
      subst P (sym t.next_is) (record {
        stored = and_input (just_view (view_of s)) i;
        rests = turn_rests p k.stored g (view_of s) i k.limited k.rests t.room t.below (fine_recorded s k.fine live) storable es (done ∙ ap done_events t.calls);
        viewed = view_sound s k.fine.sound;
        own = fine_step (back (view_of s)) i storable (fine_back s k.fine);
        comes = new_comes;
        fine = fine_step s i storable k.fine;
        limited = k.limited;
      })

  -- once all of its calls are done the journal is at rest over the view behind it
  pub entry_keeps : (next : Position) (ws : List Write) → entry_of p (view_of s) i ≡ Written next ws → (es : List Event) → es ≡ done_events ws → Keeps next (step s i) (grown g es)
  entry_keeps next ws is es done = elim (entry_is p (view_of s) i next ws is) [
    | inl a ↦ append_keeps next ws a es done
    | inr t ↦ turn_keeps next ws t es done
  ]
