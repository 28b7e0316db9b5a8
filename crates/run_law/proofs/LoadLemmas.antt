-- What is loaded of slots that mean something stored: the journal is at rest there.
use Rattle.std.proofs.Common.{ℕ, zero, suc, ◌≡◌, ◌≢◌, ◌+◌, ◌-◌, ◌<◌, ◌≤◌, ◌==◌, ◌||◌, nat_lt, Bool, true, false, cond, List, [], ◌∷◌, ◌++◌, length, Some, None, Result, Ok, Err, inl, inr, refl, sym, ap, ◌∙◌, subst, append_assoc, length-append, arith}
use Rattle.std.proofs.lemmas.Bool.{eqb-true, eqb-false, ltb-true, ltb-false}
use Rattle.std.proofs.lemmas.Option.{same_Some}
use Rattle.f2b_base.specs.declared.input.Input.{Input}
use Rattle.f2b_model.specs.Lists.{AllOf}
use Rattle.f2b_model.specs.Storable.{IsStorableInput}
use Rattle.f2b_model.specs.Views.{back}
use Rattle.f2b_model.proofs.ListLemmas.{by_test}
use Rattle.f2b_world.specs.Told.{History}
use Rattle.journal_slots.specs.Fronts.{IsFront, IsRun}
use Rattle.journal_slots.specs.Grammar.{Opened, Parsed, Empty, Open, Bad, inputs_at, number_of, opened_at, parse_slot, parsed_of}
use Rattle.journal_slots.specs.Starts.{Start, IsHead, generation, short_bytes, start}
use Rattle.journal_slots.specs.Tops.{Stored, IsOlder, Top, NoneOpen, Newest, NoJournal, meaning, stored_in, top_of}
use Rattle.journal_slots.specs.declared.head.Head.TheVariants.{Ajar, Shut}
use Rattle.journal_slots.proofs.StartLemmas.{start_codec}
use Rattle.record_codec.specs.Inputs.{input}
use Rattle.record_codec.specs.Views.{IsRecordedView, view}
use Rattle.record_codec.specs.declared.version.Version.{Version}
use Rattle.record_codec.specs.declared.version.Version.TheVariants.{One, Two}
use Rattle.record_codec.proofs.InputLemmas.{input_codec}
use Rattle.record_fields.specs.Codec.{◌>>=◌, IsBytes, IsHeld}
use Rattle.record_fields.proofs.CodecLemmas.{IsBytes-tail, bind_ok, ok_is, split}
use Rattle.run_law.proofs.KeptLemmas.{empty_recorded}
use Rattle.ban_journal.specs.Positions.{head_of, is_written_now, position_in, position_unopened}
use Rattle.reconcile.specs.Loads.{Loaded, loaded, loaded_as, loaded_from, view_by}
use Rattle.run_law.specs.Stops.{IsSettled, held_in}
use Rattle.slot_writes.specs.Rests.{IsAtRest, IsTop, nothing_stored}
use Rattle.slot_writes.specs.declared.position.Position.{Position}

-- ---- an open slot has a front

-- the inputs that were read, each behind its gate, and the closed gate behind them
record IsRead (version : Version) (inputs : List Input) (rest bytes : List ℕ) : Type 0 where
  pub run : List ℕ
  pub tail : List ℕ
  pub holds : bytes ≡ run ++ rest
  pub runs : IsRun version inputs run
  pub closed : rest ≡ 0 ∷ tail

read_closed : (version : Version) (gate : ℕ) (bytes : List ℕ) (y : List Input × List ℕ) → gate ≡ 0 → ([], gate ∷ bytes) ≡ y → IsRead version y.0 y.1 (gate ∷ bytes)
unfolding IsRun
read_closed version gate bytes y shut is =
    subst (λ (z : List Input × List ℕ). IsRead version z.0 z.1 (gate ∷ bytes)) is (record { run = []; tail = bytes; holds = refl; runs = refl; closed = ap (λ (n : ℕ). n ∷ bytes) shut })

read_more : (version : Version) (gate : ℕ) (i : Input) (bytes more : List ℕ) (inputs : List Input) (rest : List ℕ) → 0 < gate → (input version).Fits i → bytes ≡ (input version).spell i ++ more
    → IsRead version inputs rest more → IsRead version (i ∷ inputs) rest (gate ∷ bytes)
unfolding IsRun
read_more version gate i bytes more inputs rest on fits is read = record {
  run = gate ∷ (input version).spell i ++ read.run;
  tail = read.tail;
  holds = ap (λ (r : List ℕ). gate ∷ r) (is ∙ ap (λ (r : List ℕ). (input version).spell i ++ r) read.holds ∙ sym (append_assoc ((input version).spell i) read.run rest));
  runs = (gate, read.run, on, fits, refl, read.runs);
  closed = read.closed;
}

open_gate : (gate : ℕ) → (gate == 0) ≡ false → 0 < gate
open_gate zero is = absurd (let e : true ≡ false = is in cc)
open_gate (suc n) is = omega arith

inputs_read : (version : Version) (n : ℕ) (bytes : List ℕ) (y : List Input × List ℕ) → IsBytes bytes → inputs_at version n bytes ≡ Ok y → IsRead version y.0 y.1 bytes
unfolding inputs_at
inputs_read version zero bytes y ok is = absurd cc
inputs_read version (suc n) [] y ok is = absurd cc
inputs_read version (suc n) (gate ∷ bytes) y ok is = elim (split (gate == 0) _ _ _ is) [
  | inl shut ↦ read_closed version gate bytes y (eqb-true gate 0 shut.0) (ok_is ([], gate ∷ bytes) y shut.1)
  | inr on ↦
      let a = bind_ok ((input version).read bytes) (λ x. inputs_at version n x.1 >>= λ r. Ok (x.0 ∷ r.0, r.1)) y on.1 in
      let b = bind_ok (inputs_at version n a.0.1) (λ r. Ok (a.0.0 ∷ r.0, r.1)) y a.2 in
      let p = (input_codec version).takes bytes a.0.0 a.0.1 (IsBytes-tail gate bytes ok) a.1 in
      subst (λ (z : List Input × List ℕ). IsRead version z.0 z.1 (gate ∷ bytes)) (ok_is (a.0.0 ∷ b.0.0, b.0.1) y b.2)
      (read_more version gate a.0.0 bytes a.0.1 b.0.0 b.0.1 (open_gate gate on.0) p.1 p.0 (inputs_read version n a.0.1 b.0 p.2 b.1))
]

-- what an open slot holds
record HasFront (o : Opened) (content : List ℕ) : Type 0 where
  pub front : List ℕ
  pub rest : List ℕ
  pub holds : content ≡ front ++ 0 ∷ rest
  pub gate_is : o.gate ≡ length front
  pub spelt : IsFront o.start o.inputs front

front_of : (gate : ℕ) (bytes : List ℕ) (s : Start) (inputs : List Input) (rest more : List ℕ) → 0 < gate → start.Fits s → bytes ≡ start.spell s ++ more → IsRead s.version inputs rest more
    → HasFront (record { start = s; inputs = inputs; gate = length bytes + 1 - length rest }) (gate ∷ bytes)
front_of gate bytes s inputs rest more on fits is read =
    let front = gate ∷ start.spell s ++ read.run in
    let parts : bytes ≡ (start.spell s ++ read.run) ++ rest = is ∙ ap (λ (r : List ℕ). start.spell s ++ r) read.holds ∙ sym (append_assoc (start.spell s) read.run rest) in
    let long : length bytes ≡ length (start.spell s ++ read.run) + length rest = ap length parts ∙ length-append (start.spell s ++ read.run) rest in
    record {
      front = front;
      rest = read.tail;
      holds = ap (λ (r : List ℕ). gate ∷ r) (parts ∙ ap (λ (r : List ℕ). (start.spell s ++ read.run) ++ r) read.closed);
      gate_is = omega (arith, long);
      spelt = record { gate = gate; run = read.run; is_open = on; fits = fits; holds = refl; runs = read.runs };
    }

opened_front : (gate : ℕ) (bytes : List ℕ) (o : Opened) → 0 < gate → IsBytes bytes → opened_at bytes ≡ Ok o → HasFront o (gate ∷ bytes)
unfolding opened_at
opened_front gate bytes o on ok is =
    let a = bind_ok (start.read bytes) (λ s. inputs_at s.0.version (length s.1 + 1) s.1 >>= λ r. Ok (record { start = s.0; inputs = r.0; gate = length bytes + 1 - length r.1 })) o is in
    let b = bind_ok (inputs_at a.0.0.version (length a.0.1 + 1) a.0.1) (λ r. Ok (record { start = a.0.0; inputs = r.0; gate = length bytes + 1 - length r.1 })) o a.2 in
    let p = start_codec.takes bytes a.0.0 a.0.1 ok a.1 in
    let made : Opened = record { start = a.0.0; inputs = b.0.0; gate = length bytes + 1 - length b.0.1 } in
    subst (λ (x : Opened). HasFront x (gate ∷ bytes)) (ok_is made o b.2)
    (front_of gate bytes a.0.0 b.0.0 b.0.1 a.0.1 on p.1 p.0 (inputs_read a.0.0.version (length a.0.1 + 1) a.0.1 b.0 p.2 b.1))

parsed_open : (number long : ℕ) (r : Result Opened ℕ) (o : Opened) → parsed_of number long r ≡ Open o → r ≡ Ok o
parsed_open number long (Ok x) o is = let same : x ≡ o = cc in ap (λ (y : Opened). Ok y) same
parsed_open number long (Err left) o is = absurd cc

neither : (a b : Bool) → (a || b) ≡ false → a ≡ false
neither true b is = is
neither false b is = refl

open_front : (content : List ℕ) (o : Opened) → IsBytes content → parse_slot content ≡ Open o → HasFront o content
unfolding parse_slot
open_front [] o ok is = absurd cc
open_front (gate ∷ bytes) o ok is = elim (split (gate == 0 || nat_lt (length bytes) short_bytes) _ _ _ is) [
  | inl none ↦ absurd (let e : Empty ≡ Open o = none.1 in cc)
  | inr some ↦
      opened_front gate bytes o (open_gate gate (neither (gate == 0) (nat_lt (length bytes) short_bytes) some.0)) (IsBytes-tail gate bytes ok)
      (parsed_open (number_of (generation.read bytes)) (length bytes + 1) (opened_at bytes) o some.1)
]

-- ---- what stands in it can be stored

start_recorded : (s : Start) → start.Fits s → IsRecordedView s.view
unfolding start view
start_recorded s fits = fits.1.1.0

run_storable : (version : Version) (inputs : List Input) (run : List ℕ) → IsRun version inputs run → AllOf IsStorableInput inputs
unfolding IsRun input
run_storable version [] run runs = tt
run_storable version (i ∷ inputs) run runs = (runs.3.0, run_storable version inputs runs.1 runs.5)

-- ---- the beginning of a slot

head_first : (closed : Bool) (gate : ℕ) (bytes : List ℕ) → (gate == 0) ≡ closed → 16 ≤ length bytes → IsHead (cond closed Shut Ajar) (gate ∷ bytes)
head_first true gate bytes is long = (omega (arith, long), (bytes, ap (λ (n : ℕ). n ∷ bytes) (eqb-true gate 0 is)))
head_first false gate bytes is long = (omega (arith, long), (gate, bytes, open_gate gate is, refl))

head_is : (bytes : List ℕ) → IsHead (head_of bytes) bytes
head_is [] = omega arith
head_is (gate ∷ bytes) = by_test (nat_lt (length bytes) short_bytes) _
    (λ e. rw e (omega (arith, ltb-true (length bytes) short_bytes e)))
    (λ e. rw e (head_first (gate == 0) gate bytes refl (ltb-false (length bytes) short_bytes e)))

-- ---- the journal at rest

module _ (limit : ℕ) (g : History) (settled : IsSettled g) (bytes : (slot : ℕ) → slot < 2 → IsBytes (held_in g slot)) (held : (slot : ℕ) → slot < 2 → IsHeld (held_in g slot)) where
  -- no slot is open
  rests_unopened : parse_slot (held_in g 0) ≡ Empty → parse_slot (held_in g 1) ≡ Empty → IsAtRest (position_unopened limit (held_in g)) nothing_stored g
  rests_unopened first second = record {
    content = held_in g 1;
    past = held_in g 0;
    slot = omega arith;
    holds = settled.each 1 (omega arith);
    held = held 1 (omega arith);
    head = head_is (held_in g 1);
    top = subst (IsTop 0 nothing_stored) (sym second) (refl, refl);
    grows = λ yes. absurd (let e : false ≡ true = yes in cc);
    beside = settled.each 0 (omega arith);
    past_held = held 0 (omega arith);
    past_head = head_is (held_in g 0);
    older = subst (IsOlder 0) (sym first) tt;
  }

  written_version : (v : Version) → is_written_now v ≡ true → v ≡ Two
  written_version One is = absurd (let e : false ≡ true = is in cc)
  written_version Two is = refl

  -- a slot counts
  rests_open : (slot : ℕ) (o : Opened) → slot < 2 → parse_slot (held_in g slot) ≡ Open o → IsOlder o.start.generation (parse_slot (held_in g (1 - slot)))
      → IsAtRest (position_in limit (held_in g) slot o) (record { view = o.start.view; inputs = o.inputs }) g
  rests_open slot o small is older =
      let stored : Stored = record { view = o.start.view; inputs = o.inputs } in
      let front = open_front (held_in g slot) o (bytes slot small) is in
      let other : 1 - slot < 2 = omega arith in
      record {
        content = held_in g slot;
        past = held_in g (1 - slot);
        slot = small;
        holds = settled.each slot small;
        held = held slot small;
        head = head_is (held_in g slot);
        top = subst (IsTop o.start.generation stored) (sym is) (refl, refl);
        grows = λ yes. record {
          start = o.start;
          front = front.front;
          rest = front.rest;
          version = written_version o.start.version yes;
          number_is = refl;
          view_is = refl;
          holds = front.holds;
          gate_is = front.gate_is;
          spelt = front.spelt;
        };
        beside = settled.each (1 - slot) other;
        past_held = held (1 - slot) other;
        past_head = head_is (held_in g (1 - slot));
        older = older;
      }

  -- what is loaded, where the slots mean something stored
  pub record Loads (stored : Stored) : Type 0 where
    pub position : Position
    pub is : loaded limit (held_in g) ≡ Ok (loaded_as stored position)
    pub rests : IsAtRest position stored g
    pub limited : position.limit ≡ limit
    pub recorded : IsRecordedView stored.view
    pub inputs : AllOf IsStorableInput stored.inputs

  tops : (p q : Parsed) → parse_slot (held_in g 0) ≡ p → parse_slot (held_in g 1) ≡ q → top_of (parse_slot (held_in g 0)) (parse_slot (held_in g 1)) ≡ top_of p q
  tops p q first second = λ i. top_of (first i) (second i)

  loads_at : (top : Top) (stored own : Stored) (position : Position) → top_of (parse_slot (held_in g 0)) (parse_slot (held_in g 1)) ≡ top → loaded_from limit (held_in g) top ≡ Ok (loaded_as own position)
      → IsAtRest position own g → position.limit ≡ limit → IsRecordedView own.view → AllOf IsStorableInput own.inputs → own ≡ stored → Loads stored
  loads_at top stored own position is from rests limited recorded inputs same =
      subst Loads same (record { position = position; is = ap (loaded_from limit (held_in g)) is ∙ from; rests = rests; limited = limited; recorded = recorded; inputs = inputs })

  loads_open : (slot : ℕ) (o : Opened) (stored : Stored) → slot < 2 → top_of (parse_slot (held_in g 0)) (parse_slot (held_in g 1)) ≡ Newest slot o → parse_slot (held_in g slot) ≡ Open o
      → IsOlder o.start.generation (parse_slot (held_in g (1 - slot))) → stored_in (Newest slot o) ≡ Some stored → Loads stored
  loads_open slot o stored small top is older means =
      let front = open_front (held_in g slot) o (bytes slot small) is in
      loads_at (Newest slot o) stored (record { view = o.start.view; inputs = o.inputs }) (position_in limit (held_in g) slot o) top refl (rests_open slot o small is older) refl
      (start_recorded o.start front.spelt.fits) (run_storable o.start.version o.inputs front.spelt.run front.spelt.runs) (same_Some _ stored means)

  -- both slots are open, and one is newer
  loads_newer : (a b : Opened) (stored : Stored) (newer : Bool) → nat_lt b.start.generation a.start.generation ≡ newer → a.start.generation ≢ b.start.generation
      → parse_slot (held_in g 0) ≡ Open a → parse_slot (held_in g 1) ≡ Open b → top_of (parse_slot (held_in g 0)) (parse_slot (held_in g 1)) ≡ cond newer (Newest 0 a) (Newest 1 b)
      → stored_in (cond newer (Newest 0 a) (Newest 1 b)) ≡ Some stored → Loads stored
  loads_newer a b stored true newer other first second top means =
      loads_open 0 a stored (omega arith) top first (subst (IsOlder a.start.generation) (sym second) (ltb-true b.start.generation a.start.generation newer)) means
  loads_newer a b stored false newer other first second top means =
      let past : a.start.generation ≤ b.start.generation = ltb-false b.start.generation a.start.generation newer in
      loads_open 1 b stored (omega arith) top second (subst (IsOlder b.start.generation) (sym first) (omega (arith, past, other))) means

  loads_apart : (a b : Opened) (stored : Stored) (same : Bool) → (a.start.generation == b.start.generation) ≡ same
      → parse_slot (held_in g 0) ≡ Open a → parse_slot (held_in g 1) ≡ Open b
      → top_of (parse_slot (held_in g 0)) (parse_slot (held_in g 1)) ≡ cond same (NoJournal 1 1) (cond (nat_lt b.start.generation a.start.generation) (Newest 0 a) (Newest 1 b))
      → stored_in (cond same (NoJournal 1 1) (cond (nat_lt b.start.generation a.start.generation) (Newest 0 a) (Newest 1 b))) ≡ Some stored → Loads stored
  loads_apart a b stored true same first second top means = absurd (let e : None ≡ Some stored = means in cc)
  loads_apart a b stored false same first second top means =
      loads_newer a b stored (nat_lt b.start.generation a.start.generation) refl (eqb-false a.start.generation b.start.generation same) first second top means

  none_bad : (same : Bool) (at : ℕ) (stored : Stored) → stored_in (cond same (NoJournal 1 1) (NoJournal 1 at)) ≡ Some stored → ⊥
  none_bad true at stored means = let e : None ≡ Some stored = means in cc
  none_bad false at stored means = let e : None ≡ Some stored = means in cc

  loads_by : (p q : Parsed) (stored : Stored) → parse_slot (held_in g 0) ≡ p → parse_slot (held_in g 1) ≡ q → stored_in (top_of p q) ≡ Some stored → Loads stored
  loads_by (Bad number at) q stored first second means = absurd (let e : None ≡ Some stored = means in cc)
  loads_by Empty Empty stored first second means =
      loads_at NoneOpen stored nothing_stored (position_unopened limit (held_in g)) (tops Empty Empty first second) refl (rests_unopened first second) refl empty_recorded tt (same_Some nothing_stored stored means)
  loads_by Empty (Open b) stored first second means =
      loads_open 1 b stored (omega arith) (tops Empty (Open b) first second) second (subst (IsOlder b.start.generation) (sym first) tt) means
  loads_by Empty (Bad number at) stored first second means = absurd (let e : None ≡ Some stored = means in cc)
  loads_by (Open a) Empty stored first second means =
      loads_open 0 a stored (omega arith) (tops (Open a) Empty first second) first (subst (IsOlder a.start.generation) (sym second) tt) means
  loads_by (Open a) (Open b) stored first second means =
      loads_apart a b stored (a.start.generation == b.start.generation) refl first second (tops (Open a) (Open b) first second) means
  loads_by (Open a) (Bad number at) stored first second means = absurd (none_bad (a.start.generation == number) at stored means)

  pub loads_stored : (stored : Stored) → meaning (held_in g) ≡ Some stored → Loads stored
  loads_stored stored means = loads_by (parse_slot (held_in g 0)) (parse_slot (held_in g 1)) stored refl refl means

-- ---- what is loaded of any bytes

-- what is loaded comes from a view and inputs that can be stored
pub record IsStoredFrom (l : Loaded) : Type 0 where
  pub stored : Stored
  pub recorded : IsRecordedView stored.view
  pub inputs : AllOf IsStorableInput stored.inputs
  pub state_is : l.state ≡ back (view_by stored)

abbrev given : Loaded → Result Loaded (ℕ × ℕ)
given l = Ok l

given_is : (k l : Loaded) → given k ≡ given l → k ≡ l
given_is k l is = cc

module _ (limit : ℕ) (slots : ℕ → List ℕ) (bytes : (slot : ℕ) → slot < 2 → IsBytes (slots slot)) (l : Loaded) where
  stored_open : (slot : ℕ) (o : Opened) → slot < 2 → parse_slot (slots slot) ≡ Open o → loaded_from limit slots (Newest slot o) ≡ Ok l → IsStoredFrom l
  stored_open slot o small is loads =
      let front = open_front (slots slot) o (bytes slot small) is in
      let own : Stored = record { view = o.start.view; inputs = o.inputs } in
      subst IsStoredFrom (given_is (loaded_as own (position_in limit slots slot o)) l loads) (record {
        stored = own;
        recorded = start_recorded o.start front.spelt.fits;
        inputs = run_storable o.start.version o.inputs front.spelt.run front.spelt.runs;
        state_is = refl;
      })

  stored_either : (a b : Opened) (same newer : Bool) → parse_slot (slots 0) ≡ Open a → parse_slot (slots 1) ≡ Open b
      → loaded_from limit slots (cond same (NoJournal 1 1) (cond newer (Newest 0 a) (Newest 1 b))) ≡ Ok l → IsStoredFrom l
  stored_either a b true newer first second loads = absurd (let e : Err (1, 1) ≡ Ok l = loads in cc)
  stored_either a b false true first second loads = stored_open 0 a (omega arith) first loads
  stored_either a b false false first second loads = stored_open 1 b (omega arith) second loads

  stored_none : (same : Bool) (at : ℕ) → loaded_from limit slots (cond same (NoJournal 1 1) (NoJournal 1 at)) ≡ Ok l → ⊥
  stored_none true at loads = let e : Err (1, 1) ≡ given l = loads in cc
  stored_none false at loads = let e : Err (1, at) ≡ given l = loads in cc

  stored_by : (p q : Parsed) → parse_slot (slots 0) ≡ p → parse_slot (slots 1) ≡ q → loaded_from limit slots (top_of p q) ≡ Ok l → IsStoredFrom l
  stored_by (Bad number at) q first second loads = absurd (let e : Err (0, at) ≡ Ok l = loads in cc)
  stored_by Empty Empty first second loads =
      subst IsStoredFrom (given_is (loaded_as nothing_stored (position_unopened limit slots)) l loads) (record { stored = nothing_stored; recorded = empty_recorded; inputs = tt; state_is = refl })
  stored_by Empty (Open b) first second loads = stored_open 1 b (omega arith) second loads
  stored_by Empty (Bad number at) first second loads = absurd (let e : Err (1, at) ≡ Ok l = loads in cc)
  stored_by (Open a) Empty first second loads = stored_open 0 a (omega arith) first loads
  stored_by (Open a) (Open b) first second loads =
      stored_either a b (a.start.generation == b.start.generation) (nat_lt b.start.generation a.start.generation) first second loads
  stored_by (Open a) (Bad number at) first second loads = absurd (stored_none (a.start.generation == number) at loads)

  pub loaded_stored : loaded limit slots ≡ Ok l → IsStoredFrom l
  loaded_stored loads = stored_by (parse_slot (slots 0)) (parse_slot (slots 1)) refl refl loads
