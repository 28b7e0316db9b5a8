-- Where a journal stands over two slots that were read to their ends.
use Rattle.std.proofs.Common.{true≢false, ℕ, ◌≡◌, ◌==◌, ◌&&◌, nat_le, nat_lt, ◌+◌, ◌-◌, ◌<◌, ◌≤◌, true, false, Bool, List, [], ◌∷◌, length, take, Ok, Err, refl, sym, ap, ap₂, ◌∙◌, subst, arith, if◌then◌else◌}
use Rattle.std.proofs.lemmas.Bool.{eq-eqb, ne_eqb, lt-ltb, le-ltb}
use Rattle.f2b_base.specs.declared.input.Input.{Input}
use Rattle.journal_slots.specs.declared.head.Head.{Head}
use Rattle.journal_slots.specs.declared.head.Head.TheVariants.{Short, Ajar, Shut}
use Rattle.journal_slots.specs.Grammar.{Opened, Parsed, Empty, Open, parse_slot}
use Rattle.journal_slots.specs.Starts.{short_bytes, IsHead}
use Rattle.journal_slots.specs.Tops.{Stored, Newest, NoneOpen, NoJournal, top_of, stored_in, IsOlder}
use Rattle.journal_slots.proofs.RunLemmas.{not_closed}
use Rattle.journal_slots.proofs.SlotLemmas.{front_head}
use Rattle.journal_slots.proofs.TopLemmas.{newest}
use Rattle.record_codec.specs.declared.version.Version.{Version}
use Rattle.record_codec.specs.declared.version.Version.TheVariants.{One, Two}
use Rattle.slot_reader.specs.declared.checked.Checked.TheVariants.{Empty as EmptySlot, Open as OpenedSlot, Bad as BadSlot}
use Rattle.slot_reader.specs.declared.checked.OpenSlot.{OpenSlot}
use Rattle.slot_reader.specs.Readings.{IsChecked}
use Rattle.slot_reader.specs.Versions.{spelling}
use Rattle.slot_writes.specs.declared.position.Position.{Position}
use Rattle.slot_writes.specs.Entries.{fits, input_bytes}
use Rattle.slot_writes.specs.Rests.{IsTop, IsOpenAt, nothing_stored}
use Rattle.ban_journal.specs.declared.load_error.LoadError.TheVariants.{NotAJournal}
use Rattle.ban_journal.specs.Loads.{StandsOver, IsFound}
use Rattle.ban_journal.specs.Positions.{head_of, position_unopened, is_written_now, position_in, top_in, IsAtTop}

abbrev stored_of : Opened → Stored
stored_of o = record { view = o.start.view; inputs = o.inputs }

written_is_two : (version : Version) → is_written_now version ≡ true → version ≡ Two
written_is_two One is = absurd (true≢false (sym is))
written_is_two Two is = refl

-- ---- how a slot begins

-- a slot begins as its bytes tell
pub head_is : (head : Head) (bytes : List ℕ) → IsHead head bytes → head ≡ head_of bytes
head_is Short [] is = refl
head_is Short (gate ∷ bytes) is =
    let test : nat_lt (length bytes) short_bytes ≡ true = lt-ltb (length bytes) short_bytes (omega (arith, is)) in
    rw test refl
head_is Ajar [] is = absurd (let long = is.0 in omega (arith, long))
head_is Ajar (gate ∷ bytes) is =
    let test : nat_lt (length bytes) short_bytes ≡ false = le-ltb (length bytes) short_bytes (let long = is.0 in omega (arith, long)) in
    let same : gate ≡ is.1.0 = (let e : gate ∷ bytes ≡ is.1.0 ∷ is.1.1 = is.1.3 in cc) in
    let on : (gate == 0) ≡ false = not_closed gate (subst (λ (n : ℕ). 0 < n) (sym same) is.1.2) in
    rw test (rw on refl)
head_is Shut [] is = absurd (let long = is.0 in omega (arith, long))
head_is Shut (gate ∷ bytes) is =
    let test : nat_lt (length bytes) short_bytes ≡ false = le-ltb (length bytes) short_bytes (let long = is.0 in omega (arith, long)) in
    let same : gate ≡ 0 = (let e : gate ∷ bytes ≡ 0 ∷ is.1.0 = is.1.1 in cc) in
    let off : (gate == 0) ≡ true = eq-eqb gate 0 same in
    rw test (rw off refl)

-- ---- an open slot that was read to its end

module _ (now : List ℕ) (o : OpenSlot) (is : IsChecked now (OpenedSlot o)) where
  abbrev opened : Opened
  opened = record { start = is.0; inputs = is.1; gate = o.gate }

  parsed : parse_slot now ≡ Open opened
  parsed = is.4.means

  begins_ajar : IsHead Ajar now
  begins_ajar = subst (IsHead Ajar) (sym is.4.holds) (front_head is.0 is.1 (take o.gate now) is.4.rest is.4.spelt)

  is_top : IsTop o.generation (stored_of opened) (parse_slot now)
  is_top = subst (IsTop o.generation (stored_of opened)) (sym parsed) (is.2, refl)

  open_at : is_written_now (spelling o.version) ≡ true → IsOpenAt o.gate o.generation (stored_of opened) now
  open_at grows = record {
    start = is.0;
    front = take o.gate now;
    rest = is.4.rest;
    version = is.3 ∙ written_is_two (spelling o.version) grows;
    number_is = is.2;
    view_is = refl;
    holds = is.4.holds;
    gate_is = is.4.gate_is;
    spelt = is.4.spelt;
  }

  older_than : (number : ℕ) → o.generation < number → IsOlder number (parse_slot now)
  older_than number lt = subst (IsOlder number) (sym parsed) (let e = is.2 in omega (arith, e, lt))

older_empty : (number : ℕ) (p : Parsed) → p ≡ Empty → IsOlder number p
older_empty number p is = subst (IsOlder number) (sym is) tt

-- ---- the slot that counts

abbrev at_newest : ℕ → ℕ → OpenSlot → Head → Position
at_newest limit slot o other = record { limit = limit; slot = slot; generation = o.generation; grows = is_written_now (spelling o.version); gate = o.gate; head = Ajar; other = other }

abbrev standing : ℕ → ℕ → ℕ → ℕ → Bool → Head → Head → Position
standing limit slot gate number grows head other = record { limit = limit; slot = slot; generation = number; grows = grows; gate = gate; head = head; other = other }

same_standing : (limit slot gate : ℕ) {m n : ℕ} {x y : Bool} {a b c d : Head} → m ≡ n → x ≡ y → a ≡ b → c ≡ d → standing limit slot gate m x a c ≡ standing limit slot gate n y b d
same_standing limit slot gate {m} {n} {x} {y} {a} {b} {c} {d} number grows head other =
    ap (λ (k : ℕ). standing limit slot gate k x a c) number ∙ ap (λ (k : Bool). standing limit slot gate n k a c) grows
    ∙ ap (λ (k : Head). standing limit slot gate n y k c) head ∙ ap (λ (k : Head). standing limit slot gate n y b k) other

module _ (limit slot other : ℕ) (pair : slot + other ≡ 1) (fresh : 1 - slot ≡ other) (o : OpenSlot) (head : Head) (now : ℕ → List ℕ) (is : IsChecked (now slot) (OpenedSlot o)) (is_head : IsHead head (now other)) (older : IsOlder o.generation (parse_slot (now other))) where
  counts : top_in now ≡ Newest slot (opened (now slot) o is)
  counts =
      let parsed_by : ℕ → Parsed = λ k. parse_slot (now k) in
      let number : IsOlder (opened (now slot) o is).start.generation (parse_slot (now other)) = subst (λ (n : ℕ). IsOlder n (parse_slot (now other))) (sym is.2) older in
      newest slot other parsed_by (opened (now slot) o is) pair (parsed (now slot) o is) number

  stands_at : at_newest limit slot o head ≡ position_in limit now slot (opened (now slot) o is)
  stands_at =
      let beside : IsHead head (now (1 - slot)) = subst (λ (k : ℕ). IsHead head (now k)) (sym fresh) is_head in
      same_standing limit slot o.gate (sym is.2) (ap is_written_now (sym is.3)) (head_is Ajar (now slot) (begins_ajar (now slot) o is)) (head_is head (now (1 - slot)) beside)

  stands_newest : (stored : Stored) × StandsOver limit (at_newest limit slot o head) stored now
  stands_newest = (
    stored_of (opened (now slot) o is),
    record {
      at = subst (IsAtTop limit now (at_newest limit slot o head)) (sym counts) stands_at;
      means = ap stored_in counts;
      head = begins_ajar (now slot) o is;
      top = is_top (now slot) o is;
      grows = open_at (now slot) o is;
      other = subst (λ (k : ℕ). IsHead head (now k)) (sym fresh) is_head;
      older = subst (λ (k : ℕ). IsOlder o.generation (parse_slot (now k))) (sym fresh) older;
    },
  )

-- ---- beside an empty slot 0

module _ (limit : ℕ) (head : Head) (now : ℕ → List ℕ) (p : IsChecked (now 0) (EmptySlot head)) where
  pub second_bad : (number at : ℕ) → IsChecked (now 1) (BadSlot number at) → IsFound limit now (Err (NotAJournal 1 at))
  second_bad number at q = ap₂ top_of p.0 q

  pub none_found : (other : Head) → IsChecked (now 1) (EmptySlot other)
      → IsFound limit now (Ok (record { limit = limit; slot = 1; generation = 0; grows = false; gate = 0; head = other; other = head }))
  none_found other q =
      let none : top_in now ≡ NoneOpen = ap₂ top_of p.0 q.0 in
      let at_none : Position = record { limit = limit; slot = 1; generation = 0; grows = false; gate = 0; head = other; other = head } in
      let same : at_none ≡ position_unopened limit now = same_standing limit 1 0 refl refl (head_is other (now 1) q.1) (head_is head (now 0) p.1) in (
        nothing_stored,
        record {
          at = subst (IsAtTop limit now at_none) (sym none) same;
          means = ap stored_in none;
          head = q.1;
          top = subst (IsTop 0 nothing_stored) (sym q.0) (refl, refl);
          grows = λ e. absurd (true≢false (sym e));
          other = p.1;
          older = older_empty 0 (parse_slot (now 0)) p.0;
        },
      )

  pub second_found : (o : OpenSlot) → IsChecked (now 1) (OpenedSlot o) → IsFound limit now (Ok (at_newest limit 1 o head))
  second_found o q = stands_newest limit 1 0 refl refl o head now q p.1 (older_empty o.generation (parse_slot (now 0)) p.0)

pub ruleset beside_empty = (second_bad)

-- ---- beside an open slot 0

module _ (limit : ℕ) (a : OpenSlot) (now : ℕ → List ℕ) (p : IsChecked (now 0) (OpenedSlot a)) where
  pub same_bad : (number at : ℕ) → IsChecked (now 1) (BadSlot number at) → a.generation ≡ number → IsFound limit now (Err (NotAJournal 1 1))
  same_bad number at q same =
      let test : (p.0.generation == number) ≡ true = eq-eqb p.0.generation number (p.2 ∙ same) in
      ap₂ top_of (parsed (now 0) a p) q ∙ ap (λ (b : Bool). if b then NoJournal 1 1 else NoJournal 1 at) test

  pub other_bad : (number at : ℕ) → IsChecked (now 1) (BadSlot number at) → ¬ (a.generation ≡ number) → IsFound limit now (Err (NotAJournal 1 at))
  other_bad number at q other =
      let test : (p.0.generation == number) ≡ false = ne_eqb p.0.generation number (λ e. other (sym p.2 ∙ e)) in
      ap₂ top_of (parsed (now 0) a p) q ∙ ap (λ (b : Bool). if b then NoJournal 1 1 else NoJournal 1 at) test

  pub first_alone : (head : Head) → IsChecked (now 1) (EmptySlot head) → IsFound limit now (Ok (at_newest limit 0 a head))
  first_alone head q = stands_newest limit 0 1 refl refl a head now p q.1 (older_empty a.generation (parse_slot (now 1)) q.0)

  pub same_open : (b : OpenSlot) → IsChecked (now 1) (OpenedSlot b) → a.generation ≡ b.generation → IsFound limit now (Err (NotAJournal 1 1))
  same_open b q same =
      let test : (p.0.generation == q.0.generation) ≡ true = eq-eqb p.0.generation q.0.generation (p.2 ∙ same ∙ sym q.2) in
      ap₂ top_of (parsed (now 0) a p) (parsed (now 1) b q) ∙ rw test refl

  pub first_newest : (b : OpenSlot) → IsChecked (now 1) (OpenedSlot b) → b.generation < a.generation → IsFound limit now (Ok (at_newest limit 0 a Ajar))
  first_newest b q lt = stands_newest limit 0 1 refl refl a Ajar now p (begins_ajar (now 1) b q) (older_than (now 1) b q a.generation lt)

  pub second_newest : (b : OpenSlot) → IsChecked (now 1) (OpenedSlot b) → ¬ (a.generation ≡ b.generation) → a.generation ≤ b.generation → IsFound limit now (Ok (at_newest limit 1 b Ajar))
  second_newest b q other le = stands_newest limit 1 0 refl refl b Ajar now q (begins_ajar (now 0) a p) (older_than (now 0) a p b.generation (omega (arith, other, le)))

pub ruleset beside_open = (same_bad, other_bad, same_open)

pub first_bad : (limit number at : ℕ) (now : ℕ → List ℕ) → IsChecked (now 0) (BadSlot number at) → IsFound limit now (Err (NotAJournal 0 at))
first_bad limit number at now p = ap (λ (r : Parsed). top_of r (parse_slot (now 1))) p

-- ---- what fits

-- Where no slot is open nothing fits.
pub none_fits : (limit : ℕ) (now : ℕ → List ℕ) (p : Position) (i : Input) → IsAtTop limit now p NoneOpen → fits p i ≡ false
none_fits limit now p i at = ap (λ (q : Position). fits q i) at

-- Where the slot that counts is in version 1 nothing fits.
pub none_fits_one : (limit : ℕ) (now : ℕ → List ℕ) (p : Position) (i : Input) (slot : ℕ) (o : Opened) → IsAtTop limit now p (Newest slot o) → o.start.version ≡ One → fits p i ≡ false
none_fits_one limit now p i slot o at one =
    ap (λ (q : Position). fits q i) at ∙ ap (λ (version : Version). is_written_now version && nat_le (o.gate + 1 + length (input_bytes i) + 1) limit) one
