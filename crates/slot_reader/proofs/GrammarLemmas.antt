-- What a window over a slot tells of the whole slot.
use Rattle.std.proofs.Common.{ℕ, ◌≡◌, ◌+◌, ◌-◌, ◌<◌, ◌≤◌, ◌==◌, ◌||◌, nat_lt, false, List, [], ◌∷◌, ◌++◌, length, take, drop, Result, Ok, Err, length-append, sym, ap, ap₂, ◌∙◌, append_assoc, append-nil, subst, arith}
use Rattle.std.proofs.lemmas.Bool.{le-ltb, cond-false}
use Rattle.std.proofs.lemmas.List.{length-take, length-drop, drop_all, take-append-drop}
use Rattle.std.proofs.Math.Seq.{take-append_seam}
use Rattle.f2b_base.specs.declared.input.Input.{Input}
use Rattle.journal_slots.specs.declared.head.Head.TheVariants.{Short, Shut}
use Rattle.journal_slots.specs.Fronts.{IsFront}
use Rattle.journal_slots.specs.Grammar.{Opened, Empty, Open, Bad, inputs_at, opened_at, number_of, parsed_of, parse_slot}
use Rattle.journal_slots.specs.Starts.{Start, start, generation, IsHead}
use Rattle.journal_slots.proofs.RunLemmas.{not_closed}
use Rattle.journal_slots.proofs.StartLemmas.{start_codec}
use Rattle.journal_slots.proofs.SlotLemmas.{front_parses, front_ends, front_bad, start_bad, front_more, fresh_front, closed_empty}
use Rattle.record_codec.specs.Inputs.{input}
use Rattle.record_fields.specs.Codec.{IsHeld}
use Rattle.record_fields.proofs.CodecLemmas.{bind_ok, ok_is}
use Rattle.slot_reader.specs.Readings.{EndsAt}
use Rattle.slot_reader.specs.Windows.{Window, IsWithin, IsWhole, IsOver}
use Rattle.slot_reader.proofs.LeftRecords.{input_leaves}
use Rattle.slot_reader.proofs.LeftLemmas.{LeavesUpTo}
use Rattle.slot_reader.proofs.WindowLemmas.{behind, parts}

module _ (w : Window) (now : List ℕ) (over : IsOver w now) (within : IsWithin w) where
  -- what stands before the window is as long as its place says
  pub front_long : length (take w.place now) ≡ w.place
  front_long = omega (arith, length-take w.place now, over.long, within)

  -- where all that is left is shown nothing is behind
  pub none_behind : IsWhole w → behind w now ≡ []
  none_behind whole = drop_all (length w.bytes) (drop w.place now) (omega (arith, whole, over.long, length-drop w.place now))

  all_shown : IsWhole w → now ≡ take w.place now ++ w.bytes
  all_shown whole = parts w now over ∙ ap (λ (r : List ℕ). take w.place now ++ r) (ap (λ (r : List ℕ). w.bytes ++ r) (none_behind whole) ∙ append-nil w.bytes)

  module _ (first : Start) (inputs : List Input) (held : IsHeld now) (spelt : IsFront first inputs (take w.place now)) where
    -- an input at its front is the slot's next one, whatever follows
    pub input_more : (gate count : ℕ) (i : Input) (rest : List ℕ) → 0 < gate → (input first.version).Fits i → w.bytes ≡ gate ∷ (input first.version).spell i ++ rest → count ≡ length ((input first.version).spell i) + 1
        → IsFront first (inputs ++ i ∷ []) (take (w.place + count) now)
    input_more gate count i rest is_on fits shown count_is =
        let one = gate ∷ (input first.version).spell i in
        let front = take w.place now in
        let more = rest ++ behind w now in
        let text : now ≡ (front ++ one) ++ more =
        parts w now over ∙ ap (λ (r : List ℕ). front ++ r) (ap (λ (r : List ℕ). r ++ behind w now) shown ∙ append_assoc one rest (behind w now)) ∙ sym (append_assoc front one more) in
        let long : w.place + count ≡ length (front ++ one) = omega (arith, length-append front one, front_long, count_is) in
        let taken : take (w.place + count) now ≡ front ++ one = ap₂ (λ (k : ℕ) (r : List ℕ). take k r) long text ∙ take-append_seam (front ++ one) more in
        subst (IsFront first (inputs ++ i ∷ [])) (sym taken) (front_more first inputs front i gate spelt is_on fits)

    -- a closed gate at its front ends the slot
    pub input_closed : (rest : List ℕ) → w.bytes ≡ 0 ∷ rest → EndsAt w.place first inputs now
    input_closed rest shown =
        let front = take w.place now in
        let tail = rest ++ behind w now in
        let text : now ≡ front ++ 0 ∷ tail = parts w now over ∙ ap (λ (r : List ℕ). front ++ (r ++ behind w now)) shown in
        record {
          rest = tail;
          holds = text;
          gate_is = sym front_long;
          spelt = spelt;
          means = ap parse_slot text ∙ front_parses first inputs front tail spelt (subst IsHeld text held) ∙ ap (λ (n : ℕ). Open (record { start = first; inputs = inputs; gate = n })) front_long;
        }

    -- where the slot ends a gate is missing
    pub input_missing : 16 < length now → w.bytes ≡ [] → IsWhole w → parse_slot now ≡ Bad first.generation w.place
    input_missing big shown whole =
        let front = take w.place now in
        let text : now ≡ front = all_shown whole ∙ ap (λ (r : List ℕ). front ++ r) shown ∙ append-nil front in
        ap parse_slot text ∙ front_ends first inputs front spelt (omega (arith, ap length text, big)) (subst IsHeld text held) ∙ ap (Bad first.generation) front_long

    -- an input that has no reading, where all that is left is shown
    pub input_bad : (gate left : ℕ) (bytes : List ℕ) → 0 < gate → w.bytes ≡ gate ∷ bytes → (input first.version).read bytes ≡ Err left → IsWhole w → parse_slot now ≡ Bad first.generation (w.place + (length w.bytes - left))
    input_bad gate left bytes is_on shown bad whole =
        let front = take w.place now in
        let text : now ≡ front ++ gate ∷ bytes = all_shown whole ∙ ap (λ (r : List ℕ). front ++ r) shown in
        let few : left ≤ length bytes = subst (LeavesUpTo (length bytes)) bad ((input_leaves first.version).within bytes) in
        let at : length (front ++ gate ∷ bytes) - left ≡ w.place + (length w.bytes - left) = omega (arith, length-append front (gate ∷ bytes), front_long, ap length shown, few) in
        ap parse_slot text ∙ front_bad first inputs front gate left bytes spelt is_on bad (subst IsHeld text held) ∙ ap (Bad first.generation) at

  -- ---- at the slot's own gate

  module _ (at_front : w.place ≡ 0) where
    from_front : now ≡ w.bytes ++ behind w now
    from_front = parts w now over ∙ ap (λ (k : ℕ). take k now ++ (w.bytes ++ behind w now)) at_front

    pub start_shut : (rest : List ℕ) → w.bytes ≡ 0 ∷ rest → parse_slot now ≡ Empty
    start_shut rest shown = ap parse_slot (from_front ∙ ap (λ (r : List ℕ). r ++ behind w now) shown) ∙ closed_empty (rest ++ behind w now)

    pub shut_head : (rest : List ℕ) → w.bytes ≡ 0 ∷ rest → 16 < length now → IsHead Shut now
    shut_head rest shown big = (big, (rest ++ behind w now, from_front ∙ ap (λ (r : List ℕ). r ++ behind w now) shown))

    pub start_opens : (gate count : ℕ) (first : Start) (rest : List ℕ) → 0 < gate → start.Fits first → w.bytes ≡ gate ∷ start.spell first ++ rest → count ≡ length (start.spell first) + 1 → IsFront first [] (take (w.place + count) now)
    start_opens gate count first rest is_on fits shown count_is =
        let one = gate ∷ start.spell first in
        let text : now ≡ one ++ (rest ++ behind w now) = from_front ∙ ap (λ (r : List ℕ). r ++ behind w now) shown ∙ append_assoc one rest (behind w now) in
        let long : w.place + count ≡ length one = omega (arith, at_front, count_is) in
        let taken : take (w.place + count) now ≡ one = ap₂ (λ (k : ℕ) (r : List ℕ). take k r) long text ∙ take-append_seam one (rest ++ behind w now) in
        subst (IsFront first []) (sym taken) (fresh_front first gate is_on fits)

    pub start_is_bad : (gate left : ℕ) (bytes : List ℕ) → 0 < gate → w.bytes ≡ gate ∷ bytes → start.read bytes ≡ Err left → IsWhole w → 16 < length now → parse_slot now ≡ Bad (number_of (generation.read bytes)) (length w.bytes - left)
    start_is_bad gate left bytes is_on shown bad whole big =
        let text : now ≡ gate ∷ bytes = from_front ∙ ap (λ (r : List ℕ). w.bytes ++ r) (none_behind whole) ∙ append-nil w.bytes ∙ shown in
        let at : length bytes + 1 - left ≡ length w.bytes - left = omega (arith, ap length shown) in
        ap parse_slot text ∙ start_bad gate left bytes is_on (omega (arith, ap length text, big)) bad ∙ ap (Bad (number_of (generation.read bytes))) at

pub short_head : (now : List ℕ) → length now ≤ 16 → IsHead Short now
short_head now short = short

-- ---- the start

opened_start : (first : Start) (more bytes : List ℕ) (o : Opened) → start.read bytes ≡ Ok (first, more) → opened_at bytes ≡ Ok o → o.start ≡ first
unfolding opened_at
opened_start first more bytes o is e =
    let a = bind_ok (start.read bytes) _ o e in
    let same : a.0 ≡ (first, more) = ok_is a.0 (first, more) (sym a.1 ∙ is) in
    let b = bind_ok (inputs_at a.0.0.version (length a.0.1 + 1) a.0.1) _ o a.2 in
    sym (ap (λ (p : Opened). p.start) (ok_is _ o b.2)) ∙ ap (λ (s : Start × List ℕ). s.0) same

parsed_ok : (number long : ℕ) (r : Result Opened ℕ) (o : Opened) → parsed_of number long r ≡ Open o → r ≡ Ok o
parsed_ok number long (Ok p) o e = (let same : p ≡ o = cc in ap (λ (q : Opened). Ok q) same)
parsed_ok number long (Err left) o e = absurd (cc)

opened_is : (gate : ℕ) (bytes : List ℕ) (o : Opened) → 0 < gate → 16 ≤ length bytes → parse_slot (gate ∷ bytes) ≡ Open o → opened_at bytes ≡ Ok o
unfolding parse_slot
opened_is gate bytes o is_on long e =
    let test : (gate == 0 || nat_lt (length bytes) 16) ≡ false = rw (not_closed gate is_on) (le-ltb (length bytes) 16 long) in
    let r = parsed_of (number_of (generation.read bytes)) (length bytes + 1) (opened_at bytes) in
    parsed_ok (number_of (generation.read bytes)) (length bytes + 1) (opened_at bytes) o (sym (cond-false _ Empty r test) ∙ e)

-- A slot that is open begins with the start that its front spells.
pub start_same : (first : Start) (inputs : List Input) (place : ℕ) (now : List ℕ) (o : Opened) → IsHeld now → 16 < length now → IsFront first inputs (take place now) → parse_slot now ≡ Open o → o.start ≡ first
start_same first inputs place now o held big is parsed =
    let more = is.run ++ drop place now in
    let bytes = start.spell first ++ more in
    let text : now ≡ is.gate ∷ bytes =
    sym (take-append-drop place now) ∙ ap (λ (r : List ℕ). r ++ drop place now) is.holds ∙ ap (λ (r : List ℕ). is.gate ∷ r) (append_assoc (start.spell first) is.run (drop place now)) in
    let bytes_held : IsHeld bytes = omega (arith, held, ap length text) in
    opened_start first more bytes o (start_codec.again first more is.fits bytes_held) (opened_is is.gate bytes o is.is_open (omega (arith, big, ap length text)) (ap parse_slot (sym text) ∙ parsed))
