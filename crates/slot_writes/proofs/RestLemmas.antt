-- An append and a change of slots, as both slots mean them.
use Rattle.std.proofs.Common.{ℕ, zero, suc, ◌≡◌, ◌≢◌, ◌+◌, ◌-◌, ◌≤◌, ◌<◌, ◌^◌, ◌⊎◌, inl, inr, nat_le, true, Some, List, [], ◌∷◌, ◌++◌, length, drop, length-append, refl, sym, ap, ◌∙◌, append_assoc, subst, arith}
use Rattle.std.proofs.lemmas.Bool.{leb-true, le-leb}
use Rattle.f2b_base.specs.declared.input.Input.{Input}
use Rattle.f2b_base.specs.declared.view.View.{View}
use Rattle.f2b_model.specs.Storable.{IsStorableInput}
use Rattle.f2b_world.specs.declared.event.Event.{Event}
use Rattle.f2b_world.specs.Slots.{Slot, Permits, settled}
use Rattle.f2b_world.specs.Told.{History, grown, slot_of}
use Rattle.journal_slots.specs.declared.head.Head.{Head}
use Rattle.journal_slots.specs.declared.head.Head.TheVariants.{Short, Ajar, Shut}
use Rattle.journal_slots.specs.Grammar.{Parsed, Empty, Open, Bad, parse_slot}
use Rattle.journal_slots.specs.Starts.{last_generation, is_generation, generation, version, Start, start, IsHead}
use Rattle.journal_slots.specs.Tops.{Stored, stored_in, meaning, IsOlder}
use Rattle.journal_slots.proofs.SlotLemmas.{front_parses, more_parses, front_more, fresh_front, front_head, own_gate, short_empty, closed_empty}
use Rattle.journal_slots.proofs.StartLemmas.{length-eight, view_whole, what_whole}
use Rattle.journal_slots.proofs.TopLemmas.{newest, none_open, older_none}
use Rattle.record_codec.specs.declared.version.Version.{Version}
use Rattle.record_codec.specs.declared.version.Version.TheVariants.{Two}
use Rattle.record_codec.specs.Inputs.{input}
use Rattle.record_codec.specs.Views.{view, IsRecordedView}
use Rattle.record_codec.proofs.InputLemmas.{input_word}
use Rattle.record_codec.proofs.ViewLemmas.{view_word}
use Rattle.record_fields.specs.Codec.{IsHeld}
use Rattle.record_fields.proofs.NumberLemmas.{both_of}
use Rattle.slot_writes.specs.declared.position.Position.{Position}
use Rattle.slot_writes.specs.Writes.{Write, AreOn, done_events, IsPart}
use Rattle.slot_writes.specs.Points.{AllPoints, IsWithin, AreShort}
use Rattle.slot_writes.specs.Stages.{IsAdding, Making, IsMaking}
use Rattle.slot_writes.specs.Entries.{fresh_slot, input_bytes, entry, fits, append_writes, appended, fresh_start, body, turn_writes, turned, need}
use Rattle.slot_writes.specs.Rests.{PermitsBoth, and_input, just_view, IsTop, IsOpenAt, IsAtRest, MeansEither, Means, MeansOneOf}
use Rattle.slot_writes.proofs.ByteLemmas.{settled_image}
use Rattle.slot_writes.proofs.RunLemmas.{points_both, at_point, at_end, at_other, all_is_part, points_within, settled_within, image_held}
use Rattle.slot_writes.proofs.StageLemmas.{adding_points, behind_end, behind_on, behind_short}
use Rattle.slot_writes.proofs.TurnLemmas.{turn_points, turn_end, turn_on, turn_short}

-- ---- what both slots mean

pair_of : (slot : ℕ) → slot < 2 → slot + (1 - slot) ≡ 1
pair_of slot small = omega (arith, small)

-- one slot has this meaning, and the other one is older
top_means : (slot other number : ℕ) (stored : Stored) (image : ℕ → List ℕ) (p : Parsed) → slot + other ≡ 1 → parse_slot (image slot) ≡ p → IsTop number stored p → IsOlder number (parse_slot (image other))
    → meaning image ≡ Some stored
top_means slot other number stored image Empty pair is top older =
    let P : ℕ → Type 0 = λ n. IsOlder n (parse_slot (image other)) in
    ap stored_in (none_open slot other (λ n. parse_slot (image n)) pair is (older_none (parse_slot (image other)) (subst P top.0 older))) ∙ ap (λ (s : Stored). Some s) (sym top.1)
top_means slot other number stored image (Open o) pair is top older =
    let P : ℕ → Type 0 = λ n. IsOlder n (parse_slot (image other)) in
    ap stored_in (newest slot other (λ n. parse_slot (image n)) o pair is (subst P (sym top.0) older)) ∙ ap (λ (s : Stored). Some s) (sym top.1)
top_means slot other number stored image (Bad n at) pair is top older = absurd top

image_in : (g : History) (image : ℕ → List ℕ) (slot : ℕ) (s : Slot) → slot < 2 → slot_of g slot ≡ s → PermitsBoth g image → Permits s (image slot)
image_in g image slot s small is permits = subst (λ (r : Slot). Permits r (image slot)) is (permits slot small)

image_is : (g : History) (image : ℕ → List ℕ) (slot : ℕ) (content : List ℕ) → slot < 2 → slot_of g slot ≡ settled content → PermitsBoth g image → image slot ≡ content
image_is g image slot content small is permits = settled_image content (image slot) (image_in g image slot (settled content) small is permits)

older_more : (p : Parsed) (number : ℕ) (stored : Stored) → IsTop number stored p → IsOlder (number + 1) p
older_more Empty number stored top = tt
older_more (Open o) number stored top = omega (arith, top.0)
older_more (Bad n at) number stored top = absurd top

-- At rest whatever a stop leaves means what was stored.
pub rest_means : (p : Position) (stored : Stored) (g : History) → IsAtRest p stored g → Means stored g
rest_means p stored g is image permits =
    let other = fresh_slot p in
    let here = image_is g image p.slot is.content is.slot is.holds permits in
    let there = image_is g image other is.past (omega arith) is.beside permits in
    top_means p.slot other p.generation stored image (parse_slot is.content) (pair_of p.slot is.slot) (ap parse_slot here) is.top
    (subst (λ (r : List ℕ). IsOlder p.generation (parse_slot r)) (sym there) is.older)

zero_gate : (gate : ℕ) (rest other : List ℕ) (content : List ℕ) → 0 < gate → content ≡ gate ∷ rest → content ≡ 0 ∷ other → ⊥
zero_gate gate rest other content on is not =
    let e : gate ≡ 0 = let f : gate ∷ rest ≡ 0 ∷ other = sym is ∙ not in cc in
    omega (arith, e, on)

-- an open slot begins with an open gate and with no other head
head_is : (h : Head) (content : List ℕ) → IsHead h content → IsHead Ajar content → h ≡ Ajar
head_is Short content is ajar = absurd (omega (arith, is, ajar.0))
head_is Ajar content is ajar = refl
head_is Shut content is ajar = absurd (zero_gate ajar.1.0 ajar.1.1 is.1.0 content ajar.1.2 ajar.1.3 is.1.1)

-- ---- an append

input_fits : (i : Input) → IsStorableInput i → (input Two).Fits i
input_fits i stored = (input_word Two).fit i (stored, what_whole i.what)

-- where the front's slot is, in words of an append
module _ (p : Position) (stored : Stored) (g : History) (i : Input) (limited : p.limit < 2 ^ 64) (rests : IsAtRest p stored g) (has_room : fits p i ≡ true) (storable : IsStorableInput i) where
  room : (p.grows ≡ true) × (p.gate + 1 + length (input_bytes i) + 1 ≤ p.limit)
  room = let b = both_of p.grows (nat_le (p.gate + 1 + length (input_bytes i) + 1) p.limit) has_room in (b.0, leb-true (p.gate + 1 + length (input_bytes i) + 1) p.limit b.1)

  abbrev at : IsOpenAt p.gate p.generation stored rests.content
  at = rests.grows room.0

  abbrev other : ℕ
  other = fresh_slot p

  holds : slot_of g p.slot ≡ settled (at.front ++ 0 ∷ at.rest)
  holds = rests.holds ∙ ap settled at.holds

  held : IsHeld (at.front ++ 0 ∷ at.rest)
  held = subst IsHeld at.holds rests.held

  apart : p.slot ≢ other
  apart e = omega (arith, e, pair_of p.slot rests.slot)

  fits_here : (input at.start.version).Fits i
  fits_here = subst (λ (v : Version). (input v).Fits i) (sym at.version) (input_fits i storable)

  spelt_so : (input at.start.version).spell i ≡ input_bytes i
  spelt_so = ap (λ (v : Version). (input v).spell i) at.version

  short : AreShort (append_writes p i)
  short = behind_short p.slot p.gate (entry i) (omega (arith, room.1, limited, length-append (input_bytes i) (0 ∷ [])))

  within_points : AllPoints IsWithin (settled (at.front ++ 0 ∷ at.rest)) (append_writes p i)
  within_points = points_within _ (append_writes p i) (settled_within (at.front ++ 0 ∷ at.rest) held) short

  abbrev safe_at : Slot → Type 0
  safe_at s = IsAdding at.front (entry i) s × IsWithin s

  safe : (es : List Event) → IsPart (append_writes p i) es → safe_at (slot_of (grown g es) p.slot)
  safe es part = at_point safe_at p.slot g (settled (at.front ++ 0 ∷ at.rest)) (append_writes p i) es holds (behind_on p.slot p.gate (entry i))
      (points_both (IsAdding at.front (entry i)) IsWithin _ (append_writes p i) (adding_points p.slot p.gate at.front at.rest (entry i) at.gate_is) within_points) part

  beside : (es : List Event) → IsPart (append_writes p i) es → slot_of (grown g es) other ≡ settled rests.past
  beside es part = at_other p.slot other g (append_writes p i) es apart (behind_on p.slot p.gate (entry i)) part ∙ rests.beside

  -- the slot's image is open, with these inputs
  means_open : (es : List Event) (image : ℕ → List ℕ) (inputs : List Input) (gate : ℕ) → IsPart (append_writes p i) es → PermitsBoth (grown g es) image
      → parse_slot (image p.slot) ≡ Open (record { start = at.start; inputs = inputs; gate = gate }) → meaning image ≡ Some (record { view = stored.view; inputs = inputs })
  means_open es image inputs gate part permits is =
      let there = image_is (grown g es) image other rests.past (omega arith) (beside es part) permits in
      top_means p.slot other p.generation (record { view = stored.view; inputs = inputs }) image _ (pair_of p.slot rests.slot) is
      (at.number_is, ap (λ (v : View). let s : Stored = record { view = v; inputs = inputs } in s) (sym at.view_is))
      (subst (λ (r : List ℕ). IsOlder p.generation (parse_slot r)) (sym there) rests.older)

  more_text : (x : ℕ) (tail : List ℕ) → at.front ++ x ∷ (entry i ++ tail) ≡ at.front ++ x ∷ ((input at.start.version).spell i ++ 0 ∷ tail)
  more_text x tail = ap (λ (r : List ℕ). at.front ++ x ∷ r) (append_assoc (input_bytes i) (0 ∷ []) tail) ∙ ap (λ (r : List ℕ). at.front ++ x ∷ (r ++ 0 ∷ tail)) (sym spelt_so)

  means_before : (es : List Event) (image : ℕ → List ℕ) (tail : List ℕ) → IsPart (append_writes p i) es → PermitsBoth (grown g es) image → IsHeld (image p.slot)
      → image p.slot ≡ at.front ++ 0 ∷ tail → meaning image ≡ Some stored
  means_before es image tail part permits long is =
      means_open es image stored.inputs _ part permits (ap parse_slot is ∙ front_parses at.start stored.inputs at.front tail at.spelt (subst IsHeld is long))

  means_after : (es : List Event) (image : ℕ → List ℕ) (x : ℕ) (tail : List ℕ) → IsPart (append_writes p i) es → PermitsBoth (grown g es) image → IsHeld (image p.slot) → 0 < x
      → image p.slot ≡ at.front ++ x ∷ (entry i ++ tail) → meaning image ≡ Some (and_input stored i)
  means_after es image x tail part permits long on is =
      let all = is ∙ more_text x tail in
      means_open es image (stored.inputs ++ i ∷ []) _ part permits (ap parse_slot all ∙ more_parses at.start stored.inputs at.front i x tail at.spelt on fits_here (subst IsHeld all long))

  torn : (es : List Event) (image : ℕ → List ℕ) (x : ℕ) (tail : List ℕ) → IsPart (append_writes p i) es → PermitsBoth (grown g es) image → IsHeld (image p.slot)
      → image p.slot ≡ at.front ++ x ∷ (entry i ++ tail) → (meaning image ≡ Some stored) ⊎ (meaning image ≡ Some (and_input stored i))
  torn es image zero tail part permits long is = inl (means_before es image (entry i ++ tail) part permits long is)
  torn es image (suc n) tail part permits long is = inr (means_after es image (suc n) tail part permits long (omega arith) is)

  -- At each point of an append whatever a stop leaves means what was stored, or that and the input.
  pub append_means : (es : List Event) → IsPart (append_writes p i) es → MeansEither stored (and_input stored i) (grown g es)
  append_means es part image permits =
      let here = image_in (grown g es) image p.slot _ rests.slot refl permits in
      let is = safe es part in
      let long = image_held _ (image p.slot) is.1 here in
      elim (is.0 (image p.slot) here) [
        | inl e ↦ inl (means_before es image e.0 part permits long e.1)
        | inr e ↦ torn es image e.0 e.1 part permits long e.2
      ]

  -- Once all of its calls are done the journal is at rest with the input.
  pub append_rests : (es : List Event) → es ≡ done_events (append_writes p i) → IsAtRest (appended p i) (and_input stored i) (grown g es)
  append_rests es done =
      let part = all_is_part (append_writes p i) es done in
      let tail = drop (length (entry i)) at.rest in
      let front = at.front ++ 1 ∷ (input at.start.version).spell i in
      let text : at.front ++ 1 ∷ (entry i ++ tail) ≡ front ++ 0 ∷ tail = more_text 1 tail ∙ sym (append_assoc at.front (1 ∷ (input at.start.version).spell i) (0 ∷ tail)) in
      let end : slot_of (grown g es) p.slot ≡ settled (front ++ 0 ∷ tail) =
      at_end p.slot g (settled (at.front ++ 0 ∷ at.rest)) (append_writes p i) es holds (behind_on p.slot p.gate (entry i)) done
      ∙ behind_end p.slot p.gate at.front at.rest (entry i) at.gate_is ∙ ap settled text in
      let spelt = front_more at.start stored.inputs at.front i 1 at.spelt (omega arith) fits_here in
      let now_held : IsHeld (front ++ 0 ∷ tail) = (subst IsWithin end (safe es part).1).now in
      record {
        content = front ++ 0 ∷ tail;
        past = rests.past;
        slot = rests.slot;
        holds = end;
        held = now_held;
        head = subst (λ (h : Head). IsHead h (front ++ 0 ∷ tail)) (sym (head_is p.head rests.content rests.head (subst (IsHead Ajar) (sym at.holds) (front_head at.start stored.inputs at.front at.rest at.spelt))))
            (front_head at.start (stored.inputs ++ i ∷ []) front tail spelt);
        top = subst (IsTop p.generation (and_input stored i)) (sym (front_parses at.start (stored.inputs ++ i ∷ []) front tail spelt now_held))
            (at.number_is, ap (λ (v : View). let s : Stored = record { view = v; inputs = stored.inputs ++ i ∷ [] } in s) (sym at.view_is));
        grows = λ yes. record {
          start = at.start;
          front = front;
          rest = tail;
          version = at.version;
          number_is = at.number_is;
          view_is = at.view_is;
          holds = refl;
          gate_is = omega (arith, at.gate_is, length-append at.front (1 ∷ (input at.start.version).spell i), ap length spelt_so);
          spelt = spelt;
        };
        beside = beside es part;
        past_held = rests.past_held;
        past_head = rests.past_head;
        older = rests.older;
      }

-- ---- a change of slots

length-body : (s : Start) → length (body s) ≡ length ((view s.version).spell s.view) + 10
unfolding start generation version
length-body s =
    length-append (start.spell s) (0 ∷ []) ∙ (let e : length (start.spell s) + 1 ≡ length ((view s.version).spell s.view) + 10 = omega (arith, length-eight s.generation, length-append {A = ℕ}) in e)

is_next_generation : (n : ℕ) → n < last_generation → is_generation (n + 1) ≡ true
is_next_generation n below = rw (le-leb 1 (n + 1) (omega arith), le-leb (n + 1) last_generation (omega (arith, below))) refl

start_fits : (p : Position) (v : View) → p.generation < last_generation → IsRecordedView v → start.Fits (fresh_start p v)
unfolding start generation version
start_fits p v below recorded =
    ((omega (arith, below), is_next_generation p.generation below), (tt, (view_word Two).fit v (recorded, view_whole v)))

module _ (p : Position) (stored : Stored) (g : History) (v : View) (i : Input) (limited : p.limit < 2 ^ 64) (rests : IsAtRest p stored g) (has_room : need v i ≤ p.limit)
    (below : p.generation < last_generation) (recorded : IsRecordedView v) (storable : IsStorableInput i) where
  abbrev new_slot : ℕ
  new_slot = fresh_slot p

  abbrev first : Start
  first = fresh_start p v

  abbrev calls : List Write
  calls = turn_writes p v i

  first_fits : start.Fits first
  first_fits = start_fits p v below recorded

  new_apart : new_slot ≢ p.slot
  new_apart e = omega (arith, e, pair_of p.slot rests.slot)

  on_new : AreOn new_slot calls
  on_new = turn_on new_slot rests.past (start.spell first) (entry i) p.other

  calls_short : AreShort calls
  calls_short = turn_short new_slot rests.past (start.spell first) (entry i) p.other (omega (arith, has_room, limited, length-body first, length-append (input_bytes i) (0 ∷ [])))

  abbrev made_at : Slot → Type 0
  made_at s = IsMaking rests.past (start.spell first) (entry i) s × IsWithin s

  made : (es : List Event) → IsPart calls es → made_at (slot_of (grown g es) new_slot)
  made es part = at_point made_at new_slot g (settled rests.past) calls es rests.beside on_new
      (points_both (IsMaking rests.past (start.spell first) (entry i)) IsWithin _ calls (turn_points new_slot rests.past (start.spell first) (entry i) p.other rests.past_head)
      (points_within _ calls (settled_within rests.past rests.past_held) calls_short)) part

  still : (es : List Event) → IsPart calls es → slot_of (grown g es) p.slot ≡ settled rests.content
  still es part = at_other new_slot p.slot g calls es new_apart on_new part ∙ rests.holds

  -- the new slot is empty or older still
  means_old : (es : List Event) (image : ℕ → List ℕ) (q : Parsed) → IsPart calls es → PermitsBoth (grown g es) image → parse_slot (image new_slot) ≡ q → IsOlder p.generation q → meaning image ≡ Some stored
  means_old es image q part permits is older =
      let here = image_is (grown g es) image p.slot rests.content rests.slot (still es part) permits in
      top_means p.slot new_slot p.generation stored image (parse_slot rests.content) (pair_of p.slot rests.slot) (ap parse_slot here) rests.top (subst (IsOlder p.generation) (sym is) older)

  -- the new slot is open
  means_new : (es : List Event) (image : ℕ → List ℕ) (inputs : List Input) (gate : ℕ) → IsPart calls es → PermitsBoth (grown g es) image
      → parse_slot (image new_slot) ≡ Open (record { start = first; inputs = inputs; gate = gate }) → meaning image ≡ Some (record { view = v; inputs = inputs })
  means_new es image inputs gate part permits is =
      let there = image_is (grown g es) image p.slot rests.content rests.slot (still es part) permits in
      top_means new_slot p.slot (p.generation + 1) (record { view = v; inputs = inputs }) image _ (omega (arith, pair_of p.slot rests.slot)) is (refl, refl)
      (subst (λ (r : List ℕ). IsOlder (p.generation + 1) (parse_slot r)) (sym there) (older_more (parse_slot rests.content) p.generation stored rests.top))

  abbrev Goal : (ℕ → List ℕ) → Type 0
  Goal image = (meaning image ≡ Some stored) ⊎ ((meaning image ≡ Some (just_view v)) ⊎ (meaning image ≡ Some (and_input (just_view v) i)))

  means_view : (es : List Event) (image : ℕ → List ℕ) (x : ℕ) (tail : List ℕ) → IsPart calls es → PermitsBoth (grown g es) image → IsHeld (image new_slot) → 0 < x
      → image new_slot ≡ x ∷ (start.spell first ++ 0 ∷ tail) → meaning image ≡ Some (just_view v)
  means_view es image x tail part permits long on is =
      means_new es image [] _ part permits (ap parse_slot is ∙ front_parses first [] (x ∷ start.spell first) tail (fresh_front first x on first_fits) (subst IsHeld is long))

  entry_text : (x : ℕ) (tail : List ℕ) → (1 ∷ start.spell first) ++ x ∷ (entry i ++ tail) ≡ (1 ∷ start.spell first) ++ x ∷ (input_bytes i ++ 0 ∷ tail)
  entry_text x tail = ap (λ (r : List ℕ). (1 ∷ start.spell first) ++ x ∷ r) (append_assoc (input_bytes i) (0 ∷ []) tail)

  means_input : (es : List Event) (image : ℕ → List ℕ) (x : ℕ) (tail : List ℕ) → IsPart calls es → PermitsBoth (grown g es) image → IsHeld (image new_slot) → 0 < x
      → image new_slot ≡ (1 ∷ start.spell first) ++ x ∷ (entry i ++ tail) → meaning image ≡ Some (and_input (just_view v) i)
  means_input es image x tail part permits long on is =
      let all = is ∙ entry_text x tail in
      means_new es image (i ∷ []) _ part permits
      (ap parse_slot all ∙ more_parses first [] (1 ∷ start.spell first) i x tail (fresh_front first 1 (omega arith) first_fits) on (input_fits i storable) (subst IsHeld all long))

  gated : (es : List Event) (image : ℕ → List ℕ) (x : ℕ) (tail : List ℕ) → IsPart calls es → PermitsBoth (grown g es) image → IsHeld (image new_slot)
      → image new_slot ≡ x ∷ (start.spell first ++ 0 ∷ tail) → Goal image
  gated es image zero tail part permits long is = inl (means_old es image Empty part permits (ap parse_slot is ∙ closed_empty (start.spell first ++ 0 ∷ tail)) tt)
  gated es image (suc n) tail part permits long is = inr (inl (means_view es image (suc n) tail part permits long (omega arith) is))

  entered : (es : List Event) (image : ℕ → List ℕ) (x : ℕ) (tail : List ℕ) → IsPart calls es → PermitsBoth (grown g es) image → IsHeld (image new_slot)
      → image new_slot ≡ (1 ∷ start.spell first) ++ x ∷ (entry i ++ tail) → Goal image
  entered es image zero tail part permits long is = inr (inl (means_view es image 1 (entry i ++ tail) part permits long (omega arith) is))
  entered es image (suc n) tail part permits long is = inr (inr (means_input es image (suc n) tail part permits long (omega arith) is))

  shut : (es : List Event) (image : ℕ → List ℕ) (x y : ℕ) (rest : List ℕ) → IsPart calls es → PermitsBoth (grown g es) image → 0 < y → rests.past ≡ y ∷ rest → image new_slot ≡ x ∷ rest → Goal image
  shut es image x y rest part permits on was is = elim (own_gate x y rest on) [
    | inl none ↦ inl (means_old es image Empty part permits (ap parse_slot is ∙ none) tt)
    | inr same ↦ inl (means_old es image (parse_slot rests.past) part permits (ap parse_slot is ∙ same ∙ ap parse_slot (sym was)) rests.older)
  ]

  -- At each point of a change of slots whatever a stop leaves means what was stored, or the new view, or that and the input.
  pub turn_means : (es : List Event) → IsPart calls es → MeansOneOf stored (just_view v) (and_input (just_view v) i) (grown g es)
  turn_means es part image permits =
      let here = image_in (grown g es) image new_slot _ (omega arith) refl permits in
      let is = made es part in
      let long = image_held _ (image new_slot) is.1 here in
      elim (is.0 (image new_slot) here) as (λ _. Goal image) [
        | Making.Short short ↦ inl (means_old es image Empty part permits (short_empty (image new_slot) short) tt)
        | Making.Kept e ↦ inl (means_old es image (parse_slot rests.past) part permits (ap parse_slot e) rests.older)
        | Making.Shut x y rest on was e ↦ shut es image x y rest part permits on was e
        | Making.Behind tail e ↦ inl (means_old es image Empty part permits (ap parse_slot e ∙ closed_empty tail) tt)
        | Making.Gate x tail e ↦ gated es image x tail part permits long e
        | Making.Added x tail e ↦ entered es image x tail part permits long e
      ]

  -- Once all of its calls are done the journal is at rest in the other slot, with the new view and the input.
  pub turn_rests : (es : List Event) → es ≡ done_events calls → IsAtRest (turned p v i) (and_input (just_view v) i) (grown g es)
  turn_rests es done =
      let part = all_is_part calls es done in
      let at = turn_end new_slot rests.past (start.spell first) (entry i) p.other rests.past_head in
      let front = (1 ∷ start.spell first) ++ 1 ∷ input_bytes i in
      let text : (1 ∷ start.spell first) ++ 1 ∷ (entry i ++ at.0) ≡ front ++ 0 ∷ at.0 = entry_text 1 at.0 ∙ sym (append_assoc (1 ∷ start.spell first) (1 ∷ input_bytes i) (0 ∷ at.0)) in
      let end : slot_of (grown g es) new_slot ≡ settled (front ++ 0 ∷ at.0) =
      at_end new_slot g (settled rests.past) calls es rests.beside on_new done ∙ at.1 ∙ ap settled text in
      let spelt = front_more first [] (1 ∷ start.spell first) i 1 (fresh_front first 1 (omega arith) first_fits) (omega arith) (input_fits i storable) in
      let now_held : IsHeld (front ++ 0 ∷ at.0) = (subst IsWithin end (made es part).1).now in
      let back : 1 - (1 - p.slot) ≡ p.slot = omega (arith, rests.slot) in
      record {
        content = front ++ 0 ∷ at.0;
        past = rests.content;
        slot = omega arith;
        holds = end;
        held = now_held;
        head = front_head first (i ∷ []) front at.0 spelt;
        top = subst (IsTop (p.generation + 1) (and_input (just_view v) i)) (sym (front_parses first (i ∷ []) front at.0 spelt now_held)) (refl, refl);
        grows = λ yes. record {
          start = first;
          front = front;
          rest = at.0;
          version = refl;
          number_is = refl;
          view_is = refl;
          holds = refl;
          gate_is = omega (arith, length-append (start.spell first) (0 ∷ []), length-append (1 ∷ start.spell first) (1 ∷ input_bytes i));
          spelt = spelt;
        };
        beside = ap (slot_of (grown g es)) back ∙ still es part;
        past_held = rests.held;
        past_head = rests.head;
        older = older_more (parse_slot rests.content) p.generation stored rests.top;
      }
