-- What the bytes of a front mean, whatever follows it.
use Rattle.std.proofs.Common.{ℕ, zero, suc, ◌≡◌, ◌+◌, ◌-◌, ◌<◌, ◌≤◌, ◌⊎◌, inl, inr, List, [], ◌∷◌, ◌++◌, length, Result, Ok, Err, length-append, refl, sym, ap, ap₂, ◌∙◌, append_assoc, append-nil, arith, subst}
use Rattle.std.proofs.lemmas.Bool.{le-ltb, lt-ltb}
use Rattle.std.proofs.Math.Dec.{eqb-suc-zero}
use Rattle.std.proofs.Math.Bool.{or-true}
use Rattle.f2b_base.specs.declared.input.Input.{Input}
use Rattle.record_codec.specs.Inputs.{input}
use Rattle.record_fields.specs.Codec.{◌>>=◌, IsHeld}
use Rattle.record_fields.proofs.CodecLemmas.{held_behind}
use Rattle.journal_slots.specs.declared.head.Head.TheVariants.{Ajar}
use Rattle.journal_slots.specs.Starts.{Start, start, generation, IsHead}
use Rattle.journal_slots.specs.Grammar.{Opened, Empty, Open, Bad, inputs_at, opened_at, number_of, parsed_of, parse_slot}
use Rattle.journal_slots.specs.Fronts.{IsRun, IsFront}
use Rattle.journal_slots.proofs.StartLemmas.{start_codec, start_long, number-start}
use Rattle.journal_slots.proofs.RunLemmas.{not_closed, with_front, run_reads, run_more, closed_gate, no_gate, bad_input}

-- ---- behind the slot's own gate

abbrev opened_by : Start → ℕ → Result (List Input × List ℕ) ℕ → Result Opened ℕ
opened_by s long read = read >>= λ r. Ok (record { start = s; inputs = r.0; gate = long + 1 - length r.1 })

opened_reads : (s : Start) (inputs : List Input) (run rest : List ℕ) → start.Fits s → IsRun s.version inputs run → IsHeld (start.spell s ++ (run ++ rest))
    → (m : ℕ) × (opened_at (start.spell s ++ (run ++ rest)) ≡ opened_by s (length (start.spell s ++ (run ++ rest))) (with_front inputs (inputs_at s.version (suc m) rest)))
unfolding opened_at
opened_reads s inputs run rest fits runs held =
    let long = length (start.spell s ++ (run ++ rest)) in
    let more = run_reads s.version (length (run ++ rest) + 1) inputs run rest (omega (arith, length-append run rest)) runs (held_behind (start.spell s) (run ++ rest) held) in
    (more.0, rw (start_codec.again s (run ++ rest) fits held) (ap (opened_by s long) more.1))

parse_open : (gate : ℕ) (bytes : List ℕ) → 0 < gate → 16 ≤ length bytes → parse_slot (gate ∷ bytes) ≡ parsed_of (number_of (generation.read bytes)) (length bytes + 1) (opened_at bytes)
unfolding parse_slot
parse_open gate bytes is_on long = rw (not_closed gate is_on, le-ltb (length bytes) 16 long) refl

opened_bad : (bytes : List ℕ) (left : ℕ) → start.read bytes ≡ Err left → opened_at bytes ≡ Err left
unfolding opened_at
opened_bad bytes left bad = rw bad refl

-- a front and what follows it, read
front_reads : (s : Start) (inputs : List Input) (front rest : List ℕ) (is : IsFront s inputs front) → 17 ≤ length (front ++ rest) → IsHeld (front ++ rest)
    → (m : ℕ) × (parse_slot (front ++ rest) ≡ parsed_of s.generation (length (front ++ rest)) (opened_by s (length (start.spell s ++ (is.run ++ rest))) (with_front inputs (inputs_at s.version (suc m) rest))))
front_reads s inputs front rest is enough held =
    let bytes = start.spell s ++ (is.run ++ rest) in
    let same : front ++ rest ≡ is.gate ∷ bytes = rw is.holds (ap (λ (r : List ℕ). is.gate ∷ r) (append_assoc (start.spell s) is.run rest)) in
    let long : length (front ++ rest) ≡ length bytes + 1 = ap length same ∙ omega arith in
    let bytes_held : IsHeld bytes = omega (arith, long, held) in
    let open_long : 16 ≤ length bytes = omega (arith, long, enough) in
    let read = opened_reads s inputs is.run rest is.fits is.runs bytes_held in
    let number = number-start s (is.run ++ rest) is.fits bytes_held in (
      read.0,
      ap parse_slot same ∙ parse_open is.gate bytes is.is_open open_long ∙ ap₂ (λ (n : ℕ) (r : Result Opened ℕ). parsed_of n (length bytes + 1) r) number read.1
          ∙ ap (λ (n : ℕ). parsed_of s.generation n (opened_by s (length bytes) (with_front inputs (inputs_at s.version (suc read.0) rest)))) (sym long),
    )

front_long : (s : Start) (inputs : List Input) (front : List ℕ) (is : IsFront s inputs front) → length front ≡ suc (length (start.spell s) + length is.run)
front_long s inputs front is = ap length is.holds ∙ ap suc (length-append (start.spell s) is.run)

-- Each image that begins with a front and a closed gate means the same.
pub front_parses : (s : Start) (inputs : List Input) (front tail : List ℕ) → IsFront s inputs front → IsHeld (front ++ 0 ∷ tail)
    → parse_slot (front ++ 0 ∷ tail) ≡ Open (record { start = s; inputs = inputs; gate = length front })
front_parses s inputs front tail is held =
    let rest = 0 ∷ tail in
    let long = length (start.spell s ++ (is.run ++ rest)) in
    let read = front_reads s inputs front rest is (omega (arith, length-append front rest, front_long s inputs front is, start_long s)) held in
    let closed = closed_gate s.version read.0 tail in
    let counted : long ≡ length (start.spell s) + (length is.run + length rest) = length-append (start.spell s) (is.run ++ rest) ∙ ap (λ (n : ℕ). length (start.spell s) + n) (length-append is.run rest) in
    let gate : long + 1 - length rest ≡ length front = omega (arith, counted, front_long s inputs front is) in
    read.1 ∙ ap (λ (r : Result (List Input × List ℕ) ℕ). parsed_of s.generation (length (front ++ rest)) (opened_by s long (with_front inputs r))) closed
    ∙ ap₂ (λ (is : List Input) (n : ℕ). Open (record { start = s; inputs = is; gate = n })) (append-nil inputs) gate

-- Where the bytes end behind a front the gate is missing.
pub front_ends : (s : Start) (inputs : List Input) (front : List ℕ) → IsFront s inputs front → 17 ≤ length front → IsHeld front → parse_slot front ≡ Bad s.generation (length front)
front_ends s inputs front is enough held =
    let same : front ++ [] ≡ front = append-nil front in
    let long = length (start.spell s ++ (is.run ++ [])) in
    let read = front_reads s inputs front [] is (subst (λ (r : List ℕ). 17 ≤ length r) (sym same) enough) (subst IsHeld (sym same) held) in
    ap parse_slot (sym same) ∙ read.1
    ∙ ap (λ (r : Result (List Input × List ℕ) ℕ). parsed_of s.generation (length (front ++ [])) (opened_by s long (with_front inputs r))) (no_gate s.version read.0)
    ∙ ap (λ (n : ℕ). Bad s.generation n) (let e : length (front ++ []) - 0 ≡ length front = omega (arith, ap length same) in e)

-- Where an input has no reading, its place is the slot's.
pub front_bad : (s : Start) (inputs : List Input) (front : List ℕ) (gate left : ℕ) (bytes : List ℕ) → IsFront s inputs front → 0 < gate → (input s.version).read bytes ≡ Err left → IsHeld (front ++ gate ∷ bytes)
    → parse_slot (front ++ gate ∷ bytes) ≡ Bad s.generation (length (front ++ gate ∷ bytes) - left)
front_bad s inputs front gate left bytes is is_on bad held =
    let rest = gate ∷ bytes in
    let long = length (start.spell s ++ (is.run ++ rest)) in
    let read = front_reads s inputs front rest is (omega (arith, length-append front rest, front_long s inputs front is, start_long s)) held in
    read.1 ∙ ap (λ (r : Result (List Input × List ℕ) ℕ). parsed_of s.generation (length (front ++ rest)) (opened_by s long (with_front inputs r))) (bad_input s.version read.0 gate left bytes is_on bad)

-- Where the start has no reading, its place is the slot's.
pub start_bad : (gate left : ℕ) (bytes : List ℕ) → 0 < gate → 16 ≤ length bytes → start.read bytes ≡ Err left
    → parse_slot (gate ∷ bytes) ≡ Bad (number_of (generation.read bytes)) (length bytes + 1 - left)
start_bad gate left bytes is_on long bad =
    parse_open gate bytes is_on long ∙ ap (parsed_of (number_of (generation.read bytes)) (length bytes + 1)) (opened_bad bytes left bad)

-- ---- fronts

-- a start alone
pub fresh_front : (s : Start) (gate : ℕ) → 0 < gate → start.Fits s → IsFront s [] (gate ∷ start.spell s)
unfolding IsRun
fresh_front s gate is_on fits = record { gate = gate; run = []; is_open = is_on; fits = fits; holds = ap (λ (r : List ℕ). gate ∷ r) (sym (append-nil (start.spell s))); runs = refl }

-- one input more
pub front_more : (s : Start) (inputs : List Input) (front : List ℕ) (i : Input) (gate : ℕ) → IsFront s inputs front → 0 < gate → (input s.version).Fits i
    → IsFront s (inputs ++ i ∷ []) (front ++ gate ∷ (input s.version).spell i)
front_more s inputs front i gate is is_on fits = record {
  gate = is.gate;
  run = is.run ++ gate ∷ (input s.version).spell i;
  is_open = is.is_open;
  fits = is.fits;
  holds = rw is.holds (ap (λ (r : List ℕ). is.gate ∷ r) (append_assoc (start.spell s) is.run (gate ∷ (input s.version).spell i)));
  runs = run_more s.version inputs i gate is.run is.runs is_on fits;
}

-- Once the gate of one input more is open, by any byte, the image means that too.
pub more_parses : (s : Start) (inputs : List Input) (front : List ℕ) (i : Input) (gate : ℕ) (tail : List ℕ) → IsFront s inputs front → 0 < gate → (input s.version).Fits i
    → IsHeld (front ++ gate ∷ ((input s.version).spell i ++ 0 ∷ tail))
    → parse_slot (front ++ gate ∷ ((input s.version).spell i ++ 0 ∷ tail)) ≡ Open (record { start = s; inputs = inputs ++ i ∷ []; gate = length (front ++ gate ∷ (input s.version).spell i) })
more_parses s inputs front i gate tail is is_on fits held =
    let one = (input s.version).spell i in
    let same : front ++ gate ∷ (one ++ 0 ∷ tail) ≡ (front ++ gate ∷ one) ++ 0 ∷ tail = sym (append_assoc front (gate ∷ one) (0 ∷ tail)) in
    ap parse_slot same ∙ front_parses s (inputs ++ i ∷ []) (front ++ gate ∷ one) tail (front_more s inputs front i gate is is_on fits) (subst IsHeld same held)

-- an open slot begins with an open gate, and is long
pub front_head : (s : Start) (inputs : List Input) (front tail : List ℕ) → IsFront s inputs front → IsHead Ajar (front ++ 0 ∷ tail)
front_head s inputs front tail is =
    let same : front ++ 0 ∷ tail ≡ is.gate ∷ (start.spell s ++ (is.run ++ 0 ∷ tail)) = rw is.holds (ap (λ (r : List ℕ). is.gate ∷ r) (append_assoc (start.spell s) is.run (0 ∷ tail))) in
    (omega (arith, length-append front (0 ∷ tail), front_long s inputs front is, start_long s), (is.gate, start.spell s ++ (is.run ++ 0 ∷ tail), is.is_open, same))

-- ---- slots that mean nothing

pub closed_empty : (bytes : List ℕ) → parse_slot (0 ∷ bytes) ≡ Empty
unfolding parse_slot
closed_empty bytes = refl

pub short_empty : (image : List ℕ) → length image ≤ 16 → parse_slot image ≡ Empty
unfolding parse_slot
short_empty [] short = refl
short_empty (x ∷ bytes) short = rw (lt-ltb (length bytes) 16 (omega (arith, short))) (rw or-true refl)

-- a slot's own gate counts or not, and nothing else of it counts
pub own_gate : (x y : ℕ) (bytes : List ℕ) → 0 < y → (parse_slot (x ∷ bytes) ≡ Empty) ⊎ (parse_slot (x ∷ bytes) ≡ parse_slot (y ∷ bytes))
unfolding parse_slot
own_gate zero y bytes is_on = inl refl
own_gate (suc n) y bytes is_on = inr (rw (not_closed y is_on, eqb-suc-zero n) refl)
