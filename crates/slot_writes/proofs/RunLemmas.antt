-- How runs of calls go on, and what a slot is at each point of one.
use Rattle.std.proofs.Common.{ℕ, ◌≡◌, ◌≢◌, ◌+◌, ◌<◌, ◌≤◌, ◌^◌, inl, inr, Option, List, [], ◌∷◌, ◌++◌, length, take, drop, length-append, refl, sym, ap, ◌∙◌, subst, append_assoc, append-nil, arith, eq-eqb}
use Rattle.std.proofs.lemmas.Bool.{ne_eqb}
use Rattle.std.proofs.lemmas.List.{length-take, length-drop}
use Rattle.f2b_world.specs.declared.event.Event.{Event}
use Rattle.f2b_world.specs.Slots.{Slot, slot_step, slot_after, settled, write_to, synced_now, Permits}
use Rattle.f2b_world.specs.Told.{History, grown, slot_of}
use Rattle.f2b_world.proofs.AddsLemmas.{adds_then, adds_weaker, adds_none}
use Rattle.record_fields.specs.Codec.{IsHeld}
use Rattle.slot_writes.specs.Writes.{Write, Put, Sync, slot_in, AreOn, done_event, failed_event, done_events, IsFirstPart, IsBroken, IsPart, Performs, Breaks, StopsShort}
use Rattle.slot_writes.specs.Points.{after_call, after_calls, AllPoints, IsWithin, AreShort}

-- ---- runs, one behind the other

done_events-append : (xs ys : List Write) → done_events (xs ++ ys) ≡ done_events xs ++ done_events ys
done_events-append [] ys = refl
done_events-append (x ∷ xs) ys = ap (λ (es : List Event). done_event x ∷ es) (done_events-append xs ys)

first_more : (xs ys : List Write) (es : List Event) → IsFirstPart xs es → IsFirstPart (xs ++ ys) es
first_more xs ys es is = record { first = is.first; left = is.left ++ ys; parts = ap (λ (ws : List Write). ws ++ ys) is.parts ∙ append_assoc is.first is.left ys; done = is.done }

first_behind : (xs ys : List Write) (es fs : List Event) → es ≡ done_events xs → IsFirstPart ys fs → IsFirstPart (xs ++ ys) (es ++ fs)
first_behind xs ys es fs done is = record {
  first = xs ++ is.first;
  left = is.left;
  parts = ap (λ (ws : List Write). xs ++ ws) is.parts ∙ sym (append_assoc xs is.first is.left);
  done = rw (done, is.done) (sym (done_events-append xs is.first));
}

broken_more : (xs ys : List Write) (es : List Event) → IsBroken xs es → IsBroken (xs ++ ys) es
broken_more xs ys es is = record {
  first = is.first;
  one = is.one;
  left = is.left ++ ys;
  parts = ap (λ (ws : List Write). ws ++ ys) is.parts ∙ append_assoc is.first (is.one ∷ is.left) ys;
  done = is.done;
}

broken_behind : (xs ys : List Write) (es fs : List Event) → es ≡ done_events xs → IsBroken ys fs → IsBroken (xs ++ ys) (es ++ fs)
broken_behind xs ys es fs done is = record {
  first = xs ++ is.first;
  one = is.one;
  left = is.left;
  parts = ap (λ (ws : List Write). xs ++ ws) is.parts ∙ sym (append_assoc xs is.first (is.one ∷ is.left));
  done = rw (done, is.done) (sym (append_assoc (done_events xs) (done_events is.first) (failed_event is.one ∷ [])) ∙ ap (λ (r : List Event). r ++ failed_event is.one ∷ []) (sym (done_events-append xs is.first)));
}

pub performs_then : (xs ys : List Write) (old mid new : Option History) → Performs xs old mid → Performs ys mid new → Performs (xs ++ ys) old new
performs_then xs ys old mid new p q = record {
  events = adds_then (λ g es. es ≡ done_events xs) (λ g es. es ≡ done_events ys) (λ g es. es ≡ done_events (xs ++ ys)) old mid new p.events q.events
      (λ g h es fs e f. rw (e, f) (sym (done_events-append xs ys)));
}

pub breaks_behind : (xs ys : List Write) (old mid new : Option History) → Performs xs old mid → Breaks ys mid new → Breaks (xs ++ ys) old new
breaks_behind xs ys old mid new p q = record {
  events = adds_then (λ g es. es ≡ done_events xs) (λ g es. IsBroken ys es) (λ g es. IsBroken (xs ++ ys) es) old mid new p.events q.events
      (λ g h es fs e f. broken_behind xs ys es fs e f);
}

pub stops_behind : (xs ys : List Write) (old mid new : Option History) → Performs xs old mid → StopsShort ys mid new → StopsShort (xs ++ ys) old new
stops_behind xs ys old mid new p q = record {
  events = adds_then (λ g es. es ≡ done_events xs) (λ g es. IsFirstPart ys es) (λ g es. IsFirstPart (xs ++ ys) es) old mid new p.events q.events
      (λ g h es fs e f. first_behind xs ys es fs e f);
}

pub breaks_more : (xs ys : List Write) (old new : Option History) → Breaks xs old new → Breaks (xs ++ ys) old new
breaks_more xs ys old new p = record { events = adds_weaker (λ g es. IsBroken xs es) (λ g es. IsBroken (xs ++ ys) es) old new p.events (λ g es is. broken_more xs ys es is) }

pub stops_more : (xs ys : List Write) (old new : Option History) → StopsShort xs old new → StopsShort (xs ++ ys) old new
stops_more xs ys old new p = record { events = adds_weaker (λ g es. IsFirstPart xs es) (λ g es. IsFirstPart (xs ++ ys) es) old new p.events (λ g es is. first_more xs ys es is) }

pub performs_none : (told : Option History) → Performs [] told told
performs_none told = record { events = adds_none told }

none_done : (ws : List Write) (es : List Event) → es ≡ [] → IsFirstPart ws es
none_done ws es is = record { first = []; left = ws; parts = refl; done = is }

pub stops_at_once : (ws : List Write) (told : Option History) → StopsShort ws told told
stops_at_once ws told = record { events = adds_weaker (λ g es. es ≡ []) (λ g es. IsFirstPart ws es) told told (adds_none told) (λ g es is. none_done ws es is) }

-- ---- each point

pub points_weaker : (P Q : Slot → Type 0) (s : Slot) (ws : List Write) → ((t : Slot) → P t → Q t) → AllPoints P s ws → AllPoints Q s ws
points_weaker P Q s [] f h = f s h
points_weaker P Q s (w ∷ ws) f h = (f s h.0, points_weaker P Q (after_call s w) ws f h.1)

pub points_append : (P : Slot → Type 0) (s : Slot) (xs ys : List Write) → AllPoints P s xs → AllPoints P (after_calls s xs) ys → AllPoints P s (xs ++ ys)
points_append P s [] ys h k = k
points_append P s (x ∷ xs) ys h k = (h.0, points_append P (after_call s x) xs ys h.1 k)

pub points_both : (P Q : Slot → Type 0) (s : Slot) (ws : List Write) → AllPoints P s ws → AllPoints Q s ws → AllPoints (λ t. P t × Q t) s ws
points_both P Q s [] h k = (h, k)
points_both P Q s (w ∷ ws) h k = ((h.0, k.0), points_both P Q (after_call s w) ws h.1 k.1)

pub after_calls-append : (s : Slot) (xs ys : List Write) → after_calls s (xs ++ ys) ≡ after_calls (after_calls s xs) ys
after_calls-append s [] ys = refl
after_calls-append s (x ∷ xs) ys = after_calls-append (after_call s x) xs ys

pub on_append : (slot : ℕ) (xs ys : List Write) → AreOn slot xs → AreOn slot ys → AreOn slot (xs ++ ys)
on_append slot [] ys p q = q
on_append slot (x ∷ xs) ys p q = (p.0, on_append slot xs ys p.1 q)

-- ---- events and calls

step_done : (slot : ℕ) (s : Slot) (w : Write) → slot_in w ≡ slot → slot_step slot s (done_event w) ≡ after_call s w
step_done slot s (Put k at bytes) on = rw (eq-eqb k slot on) refl
step_done slot s (Sync k) on = rw (eq-eqb k slot on) refl

beside_done : (slot : ℕ) (s : Slot) (w : Write) → slot_in w ≢ slot → slot_step slot s (done_event w) ≡ s
beside_done slot s (Put k at bytes) off = rw (ne_eqb k slot off) refl
beside_done slot s (Sync k) off = rw (ne_eqb k slot off) refl

beside_failed : (slot : ℕ) (s : Slot) (w : Write) → slot_in w ≢ slot → slot_step slot s (failed_event w) ≡ s
beside_failed slot s (Put k at bytes) off = rw (ne_eqb k slot off) refl
beside_failed slot s (Sync k) off = refl

pub slot_after-append : (slot : ℕ) (s : Slot) (es fs : List Event) → slot_after slot s (es ++ fs) ≡ slot_after slot (slot_after slot s es) fs
slot_after-append slot s [] fs = refl
slot_after-append slot s (e ∷ es) fs = slot_after-append slot (slot_step slot s e) es fs

after_done : (slot : ℕ) (s : Slot) (ws : List Write) → AreOn slot ws → slot_after slot s (done_events ws) ≡ after_calls s ws
after_done slot s [] on = refl
after_done slot s (w ∷ ws) on = ap (λ (r : Slot). slot_after slot r (done_events ws)) (step_done slot s w on.0) ∙ after_done slot (after_call s w) ws on.1

beside_calls : (slot other : ℕ) (s : Slot) (ws : List Write) → slot ≢ other → AreOn slot ws → slot_after other s (done_events ws) ≡ s
beside_calls slot other s [] apart on = refl
beside_calls slot other s (w ∷ ws) apart on = ap (λ (r : Slot). slot_after other r (done_events ws)) (beside_done other s w (λ e. apart (sym on.0 ∙ e))) ∙ beside_calls slot other s ws apart on.1

on_first : (slot : ℕ) (xs ys : List Write) → AreOn slot (xs ++ ys) → AreOn slot xs × AreOn slot ys
on_first slot [] ys on = (tt, on)
on_first slot (x ∷ xs) ys on = let r = on_first slot xs ys on.1 in ((on.0, r.0), r.1)

-- the first part of the calls was done
point_of : (P : Slot → Type 0) (s : Slot) (xs ys : List Write) → AllPoints P s (xs ++ ys) → AllPoints P (after_calls s xs) ys
point_of P s [] ys h = h
point_of P s (x ∷ xs) ys h = point_of P (after_call s x) xs ys h.1

point_here : (P : Slot → Type 0) (s : Slot) (ws : List Write) → AllPoints P s ws → P s
point_here P s [] h = h
point_here P s (w ∷ ws) h = h.0

-- A write that failed counts as written, and a sync that failed does nothing.
failed_point : (P : Slot → Type 0) (slot : ℕ) (s : Slot) (w : Write) (ws : List Write) → slot_in w ≡ slot → AllPoints P s (w ∷ ws) → P (slot_step slot s (failed_event w))
failed_point P slot s (Put k at bytes) ws on h = rw (eq-eqb k slot on) (point_here P (write_to s at bytes) ws h.1)
failed_point P slot s (Sync k) ws on h = h.0

-- Whatever run of the calls came, what holds at each point holds.
part_point : (P : Slot → Type 0) (slot : ℕ) (s : Slot) (ws : List Write) (es : List Event) → AreOn slot ws → AllPoints P s ws → IsPart ws es → P (slot_after slot s es)
part_point P slot s ws es on h (inl is) =
    let on_all = on_first slot is.first is.left (subst (AreOn slot) is.parts on) in
    let here = point_here P (after_calls s is.first) is.left (point_of P s is.first is.left (subst (AllPoints P s) is.parts h)) in
    subst P (sym (ap (slot_after slot s) is.done ∙ after_done slot s is.first on_all.0)) here
part_point P slot s ws es on h (inr is) =
    let on_all = on_first slot is.first (is.one ∷ is.left) (subst (AreOn slot) is.parts on) in
    let there = point_of P s is.first (is.one ∷ is.left) (subst (AllPoints P s) is.parts h) in
    let here = failed_point P slot (after_calls s is.first) is.one is.left on_all.1.0 there in
    let e : slot_after slot s es ≡ slot_step slot (after_calls s is.first) (failed_event is.one) =
    ap (slot_after slot s) is.done ∙ slot_after-append slot s (done_events is.first) (failed_event is.one ∷ [])
    ∙ ap (λ (r : Slot). slot_step slot r (failed_event is.one)) (after_done slot s is.first on_all.0) in
    subst P (sym e) here

part_beside : (slot other : ℕ) (s : Slot) (ws : List Write) (es : List Event) → slot ≢ other → AreOn slot ws → IsPart ws es → slot_after other s es ≡ s
part_beside slot other s ws es apart on (inl is) =
    let on_all = on_first slot is.first is.left (subst (AreOn slot) is.parts on) in
    ap (slot_after other s) is.done ∙ beside_calls slot other s is.first apart on_all.0
part_beside slot other s ws es apart on (inr is) =
    let on_all = on_first slot is.first (is.one ∷ is.left) (subst (AreOn slot) is.parts on) in
    ap (slot_after other s) is.done ∙ slot_after-append other s (done_events is.first) (failed_event is.one ∷ [])
    ∙ ap (λ (r : Slot). slot_step other r (failed_event is.one)) (beside_calls slot other s is.first apart on_all.0)
    ∙ beside_failed other s is.one (λ e. apart (sym on_all.1.0 ∙ e))

-- ---- the same in a history

pub slot_grown : (slot : ℕ) (g : History) (es : List Event) → slot_of (grown g es) slot ≡ slot_after slot (slot_of g slot) es
slot_grown slot g es = slot_after-append slot (settled (g.first slot)) g.events es

pub at_point : (P : Slot → Type 0) (slot : ℕ) (g : History) (s : Slot) (ws : List Write) (es : List Event) → slot_of g slot ≡ s → AreOn slot ws → AllPoints P s ws → IsPart ws es → P (slot_of (grown g es) slot)
at_point P slot g s ws es is on h part =
    subst P (sym (slot_grown slot g es ∙ ap (λ (r : Slot). slot_after slot r es) is)) (part_point P slot s ws es on h part)

pub at_end : (slot : ℕ) (g : History) (s : Slot) (ws : List Write) (es : List Event) → slot_of g slot ≡ s → AreOn slot ws → es ≡ done_events ws → slot_of (grown g es) slot ≡ after_calls s ws
at_end slot g s ws es is on done = slot_grown slot g es ∙ ap (λ (r : Slot). slot_after slot r es) is ∙ ap (slot_after slot s) done ∙ after_done slot s ws on

pub at_other : (slot other : ℕ) (g : History) (ws : List Write) (es : List Event) → slot ≢ other → AreOn slot ws → IsPart ws es → slot_of (grown g es) other ≡ slot_of g other
at_other slot other g ws es apart on part = slot_grown other g es ∙ part_beside slot other (slot_of g other) ws es apart on part

pub all_is_part : (ws : List Write) (es : List Event) → es ≡ done_events ws → IsPart ws es
all_is_part ws es done = inl (record { first = ws; left = []; parts = sym (append-nil ws); done = done })

-- ---- what a machine can hold

write_within : (s : Slot) (at : ℕ) (bytes : List ℕ) → IsWithin s → at + length bytes < 2 ^ 64 → IsWithin (write_to s at bytes)
write_within s at bytes within short =
    let front : length (take at s.now) ≤ at = omega (arith, length-take at s.now) in
    let back : length (drop (at + length bytes) s.now) + (at + length bytes) < 2 ^ 64 = omega (arith, length-drop (at + length bytes) s.now, within.now, short) in
    let long : length (take at s.now ++ bytes ++ drop (at + length bytes) s.now) ≡ length (take at s.now) + length bytes + length (drop (at + length bytes) s.now) =
    length-append (take at s.now ++ bytes) (drop (at + length bytes) s.now) ∙ ap (λ (n : ℕ). n + length (drop (at + length bytes) s.now)) (length-append (take at s.now) bytes) in
    record {
      now = omega (arith, long, front, back);
      synced = within.synced;
      ends = omega (arith, short, within.ends);
    }

pub points_within : (s : Slot) (ws : List Write) → IsWithin s → AreShort ws → AllPoints IsWithin s ws
points_within s [] within short = within
points_within s (Put slot at bytes ∷ ws) within short = (within, points_within (write_to s at bytes) ws (write_within s at bytes within short.0) short.1)
points_within s (Sync slot ∷ ws) within short = (within, points_within (synced_now s) ws (record { now = within.now; synced = within.now; ends = omega arith }) short)

pub short_append : (xs ys : List Write) → AreShort xs → AreShort ys → AreShort (xs ++ ys)
short_append [] ys p q = q
short_append (Put slot at bytes ∷ xs) ys p q = (p.0, short_append xs ys p.1 q)
short_append (Sync slot ∷ xs) ys p q = short_append xs ys p q

pub settled_within : (bytes : List ℕ) → IsHeld bytes → IsWithin (settled bytes)
settled_within bytes held = record { now = held; synced = held; ends = omega arith }

pub image_held : (s : Slot) (image : List ℕ) → IsWithin s → Permits s image → IsHeld image
image_held s image within permits = omega (arith, permits.no_longer, within.synced, within.ends)
