-- A torn slot is one that a stop may leave.
use Rattle.std.proofs.Common.{ℕ, zero, suc, ◌≡◌, ◌==◌, ◌+◌, ◌-◌, ◌<◌, ◌≤◌, min, max, Bool, true, false, ◌&&◌, ◌||◌, ◌⊎◌, inl, inr, if◌then◌else◌, leb, ltb, List, [], ◌∷◌, ◌++◌, length, take, drop, get_or, refl, sym, ◌∙◌, ap, subst, arith, append_assoc, length-append, length-take, length-drop, get_or-take, get_or-drop}
use Rattle.std.proofs.lemmas.Bool.Decides.{nat_tests}
use Rattle.std.proofs.lemmas.List.{get_or_append_left, get_or-append_right, take_more}
use Rattle.f2b_world.specs.declared.answer.Synced.TheVariants.{Done as SyncDone}
use Rattle.f2b_world.specs.declared.event.Event.{Event}
use Rattle.f2b_world.specs.declared.event.Event.TheVariants.{DiskWrite, DiskSync}
use Rattle.f2b_world.specs.Slots.{Slot, Permits, IsOutside, greatest_end, settled, slot_after, slot_step, synced_now, write_to, written}
use Rattle.f2b_mem.specs.Torn.{is_inside, torn_from, torn_slot}
use Rattle.f2b_mem.proofs.StageLemmas.{slot_after-append}

range_not : (place at n : ℕ) → (place < at) ⊎ (at + n ≤ place) → (leb at place && ltb (place - at) n) ≡ false
range_not place at n h = grind (arith, nat_tests)

or_both : (a b : Bool) → a ≡ false → b ≡ false → (a || b) ≡ false
or_both true b p q = absurd (cc)
or_both false b p q = q

not_inside : (place : ℕ) (ranges : List (ℕ × ℕ)) → IsOutside place ranges → is_inside place ranges ≡ false
not_inside place [] h = refl
not_inside place (range ∷ ranges) h = or_both (leb range.0 place && ltb (place - range.0) range.1) (is_inside place ranges) (range_not place range.0 range.1 h.0) (not_inside place ranges h.1)

torn_length : (place : ℕ) (bytes : List ℕ) (ranges : List (ℕ × ℕ)) (keep fill : ℕ) → length (torn_from place bytes ranges keep fill) ≡ length bytes
torn_length place [] ranges keep fill = refl
torn_length place (byte ∷ bytes) ranges keep fill = ap suc (torn_length (place + 1) bytes ranges (if is_inside place ranges then keep - 1 else keep) fill)

kept_byte : (inside : Bool) (keep fill byte : ℕ) → inside ≡ false → (if inside && (keep == 0) then fill else byte) ≡ byte
kept_byte true keep fill byte e = absurd (cc)
kept_byte false keep fill byte e = refl

-- a byte outside the ranges stays
torn_at : (place : ℕ) (bytes : List ℕ) (ranges : List (ℕ × ℕ)) (keep fill j : ℕ) → IsOutside (place + j) ranges → get_or (torn_from place bytes ranges keep fill) j 0 ≡ get_or bytes j 0
torn_at place [] ranges keep fill j h = refl
torn_at place (byte ∷ bytes) ranges keep fill zero h =
    let e : place + 0 ≡ place = omega arith in
    let P : ℕ → Type 0 = λ n. IsOutside n ranges in
    kept_byte (is_inside place ranges) keep fill byte (not_inside place ranges (subst P e h))
torn_at place (byte ∷ bytes) ranges keep fill (suc j) h =
    let e : place + suc j ≡ (place + 1) + j = omega arith in
    let P : ℕ → Type 0 = λ n. IsOutside n ranges in
    torn_at (place + 1) bytes ranges (if is_inside place ranges then keep - 1 else keep) fill j (subst P e h)

written_is : (old bytes : List ℕ) (at : ℕ) → written old at bytes ≡ take at old ++ (bytes ++ drop (at + length bytes) old)
written_is old bytes at = append_assoc (take at old) bytes (drop (at + length bytes) old)

written_length : (old bytes : List ℕ) (at : ℕ) → length (written old at bytes) ≡ min at (length old) + (length bytes + (length old - (at + length bytes)))
written_length old bytes at =
    ap length (written_is old bytes at)
    ∙ length-append (take at old) (bytes ++ drop (at + length bytes) old)
    ∙ (let a = length-take at old in
    let b = length-append bytes (drop (at + length bytes) old) in
    let c = length-drop (at + length bytes) old in
    omega (arith, a, b, c))

-- a byte that was not written over stays
written_at : (old bytes : List ℕ) (at i : ℕ) → i < length old → (i < at) ⊎ (at + length bytes ≤ i) → get_or (written old at bytes) i 0 ≡ get_or old i 0
written_at old bytes at i lt (inl below) =
    let len : length (take at old) ≡ min at (length old) = length-take at old in
    ap (λ (xs : List ℕ). get_or xs i 0) (written_is old bytes at)
    ∙ get_or_append_left (take at old) (bytes ++ drop (at + length bytes) old) 0 i (omega arith) ∙ get_or-take at old i 0 below
written_at old bytes at i lt (inr above) =
    let len : length (take at old) ≡ at = length-take at old ∙ (let m : min at (length old) ≡ at = omega arith in m) in
    ap (λ (xs : List ℕ). get_or xs i 0) (written_is old bytes at)
    ∙ get_or-append_right (take at old) (bytes ++ drop (at + length bytes) old) at i 0 len (omega arith)
    ∙ get_or-append_right bytes (drop (at + length bytes) old) (length bytes) (i - at) 0 refl (omega arith)
    ∙ get_or-drop (at + length bytes) old (i - at - length bytes) 0
    ∙ ap (λ n. get_or old n 0) (let e : (at + length bytes) + (i - at - length bytes) ≡ i = omega arith in e)

-- Reads of a slot give what a stop may leave.
write_permits : (s : Slot) (at : ℕ) (bytes : List ℕ) → Permits s s.now → Permits (write_to s at bytes) (written s.now at bytes)
write_permits s at bytes was =
    let len = written_length s.now bytes at in
    let below = was.no_shorter in
    let above = was.no_longer in
    record {
      no_shorter = (let p : length s.synced ≤ length (written s.now at bytes) = omega (arith, len, below) in p);
      no_longer = (let p : length (written s.now at bytes) ≤ max (length s.synced) (max (at + length bytes) (greatest_end s.ranges)) = omega (arith, len, above) in p);
      kept = λ i lt out. written_at s.now bytes at i (omega (arith, below)) out.0 ∙ was.kept i lt out.1;
    }

sync_permits : (s : Slot) → Permits (synced_now s) s.now
sync_permits s = record { no_shorter = omega arith; no_longer = omega arith; kept = λ i lt out. refl }

either_permits : (b : Bool) (s t : Slot) → Permits s s.now → Permits t t.now → Permits (if b then t else s) (if b then t else s).now
either_permits true s t p q = q
either_permits false s t p q = p

step_permits : (slot : ℕ) (s : Slot) (event : Event) → Permits s s.now → Permits (slot_step slot s event) (slot_step slot s event).now
step_permits slot s (DiskWrite k at bytes answer) p = either_permits (k == slot) s (write_to s at bytes) p (write_permits s at bytes p)
step_permits slot s (DiskSync k SyncDone) p = either_permits (k == slot) s (synced_now s) p (sync_permits s)
step_permits slot s event p = p

now_permits : (slot : ℕ) (s : Slot) (events : List Event) → Permits s s.now → Permits (slot_after slot s events) (slot_after slot s events).now
now_permits slot s [] p = p
now_permits slot s (event ∷ events) p = now_permits slot (slot_step slot s event) events (step_permits slot s event p)

settled_permits : (bytes : List ℕ) → Permits (settled bytes) bytes
settled_permits bytes = record { no_shorter = omega arith; no_longer = omega arith; kept = λ i lt out. refl }

torn_permits : (s : Slot) (keep fill : ℕ) → Permits s s.now → Permits s (torn_slot s keep fill)
torn_permits s keep fill was =
    let len = torn_length 0 s.now s.ranges keep fill in
    let below = was.no_shorter in
    let above = was.no_longer in
    record {
      no_shorter = (let p : length s.synced ≤ length (torn_slot s keep fill) = omega (arith, len, below) in p);
      no_longer = (let p : length (torn_slot s keep fill) ≤ max (length s.synced) (greatest_end s.ranges) = omega (arith, len, above) in p);
      kept = λ i lt out.
          let e : i ≡ 0 + i = omega arith in
          let P : ℕ → Type 0 = λ n. IsOutside n s.ranges in
          torn_at 0 s.now s.ranges keep fill i (subst P e out) ∙ was.kept i lt out;
    }

-- what a stop may leave after these events
pub torn_is_permitted : (slot : ℕ) (first : List ℕ) (events : List Event) (keep fill : ℕ) (image : List ℕ) → image ≡ torn_slot (slot_after slot (settled first) events) keep fill
    → Permits (slot_after slot (settled first) events) image
torn_is_permitted slot first events keep fill image is =
    let s : Slot = slot_after slot (settled first) events in
    let P : List ℕ → Type 0 = λ bytes. Permits s bytes in
    subst P (sym is) (torn_permits s keep fill (now_permits slot (settled first) events (settled_permits first)))

-- a slot after one event more
pub slot_after_more : (slot : ℕ) (s : Slot) (events : List Event) (i : ℕ) (event : Event) → i < length events → event ≡ get_or events i event
    → slot_after slot s (take (i + 1) events) ≡ slot_step slot (slot_after slot s (take i events)) event
slot_after_more slot s events i event lt is =
    ap (λ (es : List Event). slot_after slot s es) (take_more events i event lt)
    ∙ slot_after-append slot s (take i events) (get_or events i event ∷ [])
    ∙ ap (λ (e : Event). slot_step slot (slot_after slot s (take i events)) e) (sym is)
