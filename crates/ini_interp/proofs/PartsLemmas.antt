-- The parts of a raw value, and its pieces.
use Rattle.std.proofs.Common.{◌≡◌, ◌≢◌, ℕ, zero, suc, ◌+◌, ◌-◌, ◌<◌, ◌≤◌, Bool, true, false, cond, List, [], ◌∷◌, ◌++◌, length, drop, take, map, get_or, Option, Some, None, refl, sym, ap, ◌∙◌, arith, add-one, add_assoc}
use Rattle.std.specs.List.{before_first, after_first, position_or_len, slice_range}
use Rattle.std.specs.Option.{MatchOption, IfNone, IfSome, unwrap_or}
use Rattle.std.proofs.Common.{length-append, length-drop}
use Rattle.std.proofs.lemmas.Bool.{ne_eqb}
use Rattle.std.proofs.lemmas.List.{get_or-drop, get_or-take, get_or_past, length-take-le, take-append-drop}
use Rattle.std.proofs.lemmas.Str.Pattern.{split_once_first, strip_prefix_char}
use lib.Dec.{eqb}
use Rattle.ini_interp.specs.declared.parts.Part.TheVariants.{Plain, Sign, Named, Lone}
use Rattle.ini_interp.specs.declared.parts.Cut.{Cut}
use Rattle.ini_interp.specs.Parts.{pieces_of, IsPercentCut, IsFirstCut, IsReferenceCut}
use Rattle.ini_interp.specs.References.{Piece, Byte, Percent, Reference, Stray, is_percent, is_open, is_close, referred, reference_or_stray, percent_piece, piece_at, pieces_from}

pub if_none : {X : Type 0} (r : Option X) {P : Type 0} → P → IfNone r P
if_none None p = p
if_none (Some x) p = tt

-- the byte behind the first `)` decides
pub referred_by : (bytes : List ℕ) (b : Bool) → eqb (get_or (after_first is_close bytes) 0 0) 115 ≡ b →
    referred bytes ≡ cond b (Some (before_first is_close bytes)) None
unfolding referred
referred_by bytes b e = ap (λ (t : Bool). cond t (Some (before_first is_close bytes)) None) e

-- no `)` at all
pub nothing_behind : (bytes : List ℕ) (n : ℕ) → n ≡ length bytes → get_or (drop (n + 1) bytes) 0 0 ≡ 0
nothing_behind bytes n e = get_or-drop (n + 1) bytes 0 0 ∙ get_or_past bytes (n + 1 + 0) 0 (omega arith)

pub unreferred_open : (bytes : List ℕ) → position_or_len is_close bytes ≡ length bytes → referred bytes ≡ None
unreferred_open bytes e = referred_by bytes false (ap (λ (x : ℕ). eqb x 115) (nothing_behind bytes _ e))

first_is_not : (xs : List ℕ) → ((rest : List ℕ) → xs ≢ 115 ∷ rest) → eqb (get_or xs 0 0) 115 ≡ false
first_is_not [] other = refl
first_is_not (x ∷ xs) other = ne_eqb x 115 (λ (e : x ≡ 115). other xs (ap (λ (y : ℕ). y ∷ xs) e))

pub unreferred_other : (bytes behind : List ℕ) → behind ≡ after_first is_close bytes → ((rest : List ℕ) → behind ≢ 115 ∷ rest) → referred bytes ≡ None
unreferred_other bytes behind e other = referred_by bytes false (ap (λ (xs : List ℕ). eqb (get_or xs 0 0) 115) (sym e) ∙ first_is_not behind other)

pub referred_name : (bytes name behind rest : List ℕ) → name ≡ before_first is_close bytes → behind ≡ after_first is_close bytes → behind ≡ 115 ∷ rest →
    referred bytes ≡ Some name
referred_name bytes name behind rest e f g =
    referred_by bytes true (ap (λ (xs : List ℕ). eqb (get_or xs 0 0) 115) (sym f ∙ g)) ∙ ap (λ (n : List ℕ). Some n) (sym e)

-- Pieces.

-- what belongs to the piece before is left out
pub pieces-drop : (at n : ℕ) (xs : List ℕ) → pieces_from at n xs ≡ pieces_from (at + n) 0 (drop n xs)
unfolding pieces_from
pieces-drop at zero xs = ap (λ (k : ℕ). pieces_from k 0 xs) (omega arith)
pieces-drop at (suc n) [] = refl
pieces-drop at (suc n) (x ∷ xs) = pieces-drop (at + 1) n xs ∙ ap (λ (k : ℕ). pieces_from k 0 (drop n xs)) (omega arith)

-- a percent sign stands before the text
pub pieces-percent : (at : ℕ) (xs : List ℕ) →
    pieces_from at 0 (37 ∷ xs) ≡ (percent_piece at xs).0 ∷ pieces_from (at + 1) (percent_piece at xs).1 xs
unfolding pieces_from piece_at
pieces-percent at xs = refl

-- no percent sign stands there
pub pieces-byte : (at x : ℕ) (xs : List ℕ) → eqb x 37 ≡ false → pieces_from at 0 (x ∷ xs) ≡ Byte x ∷ pieces_from (at + 1) 0 xs
unfolding pieces_from piece_at
pieces-byte at x xs e = ap (λ (b : Bool). (cond b (percent_piece at xs) (Byte x, 0)).0 ∷ pieces_from (at + 1) (cond b (percent_piece at xs) (Byte x, 0)).1 xs) e

pub pieces-plain : (at : ℕ) (front rest : List ℕ) → ((i : ℕ) → i < length front → get_or front i 0 ≢ 37) →
    pieces_from at 0 (front ++ rest) ≡ map Byte front ++ pieces_from (at + length front) 0 rest
pieces-plain at [] rest none = ap (λ (k : ℕ). pieces_from k 0 rest) (omega arith)
pieces-plain at (x ∷ front) rest none =
    pieces-byte at x (front ++ rest) (ne_eqb x 37 (none 0 (omega arith)))
    ∙ ap (λ (ps : List Piece). Byte x ∷ ps)
    (pieces-plain (at + 1) front rest (λ i h. none (suc i) (omega arith)) ∙ ap (λ (k : ℕ). map Byte front ++ pieces_from k 0 rest) (omega arith))

-- The part that a percent sign begins.

pub percent_cut : (text : List ℕ) (cut : Cut) (piece : ℕ → Piece) (skip : ℕ) → ((at : ℕ) → percent_piece at text ≡ (piece at, skip)) →
    ((at : ℕ) → pieces_of at cut.part ≡ piece at ∷ []) → cut.rest.now ≡ drop skip text → skip ≤ length text → IsPercentCut text cut
percent_cut text cut piece skip begins part rest within = record {
  part = λ at. part at ∙ ap (λ (p : Piece × ℕ). p.0 ∷ []) (sym (begins at));
  rest = λ at. rest ∙ ap (λ (p : Piece × ℕ). drop p.1 text) (sym (begins at));
  within = λ at. rw begins within;
}

pub percent_piece-sign : (at : ℕ) (rest : List ℕ) → percent_piece at (37 ∷ rest) ≡ (Percent, 1)
unfolding percent_piece
percent_piece-sign at rest = refl

pub percent_piece-open : (at : ℕ) (behind : List ℕ) → percent_piece at (40 ∷ behind) ≡ reference_or_stray at (referred behind)
unfolding percent_piece
percent_piece-open at behind = refl

pub percent_piece-other : (at : ℕ) (text : List ℕ) → ((rest : List ℕ) → text ≢ 37 ∷ rest) → ((rest : List ℕ) → text ≢ 40 ∷ rest) →
    percent_piece at text ≡ (Stray at, 0)
unfolding percent_piece
percent_piece-other at [] sign open_ = refl
percent_piece-other at (x ∷ xs) sign open_ =
    let no_sign = ne_eqb x 37 (λ (e : x ≡ 37). sign xs (ap (λ (y : ℕ). y ∷ xs) e)) in
    let no_open = ne_eqb x 40 (λ (e : x ≡ 40). open_ xs (ap (λ (y : ℕ). y ∷ xs) e)) in
    ap (λ (b : Bool). cond b (Percent, 1) (cond (eqb x 40) (reference_or_stray at (referred xs)) (Stray at, 0))) no_sign
    ∙ ap (λ (b : Bool). cond b (reference_or_stray at (referred xs)) (Stray at, 0)) no_open

three_more : (n : ℕ) → suc (n + 2) ≡ n + 3
three_more n = omega arith

two_more : (n : ℕ) → suc n + 2 ≡ suc (n + 2)
two_more n = omega arith

-- past `NAME)s`
past_name : (name rest : List ℕ) → drop (length name + 2) (name ++ 41 ∷ 115 ∷ rest) ≡ rest
past_name [] rest = refl
past_name (x ∷ name) rest = ap (λ (k : ℕ). drop k (x ∷ (name ++ 41 ∷ 115 ∷ rest))) (two_more (length name)) ∙ past_name name rest

pub sign_cut : (text : List ℕ) (cut : Cut) → text ≡ 37 ∷ cut.rest.now → cut.part ≡ Sign → IsPercentCut text cut
sign_cut text cut begins part = rw begins
    (percent_cut (37 ∷ cut.rest.now) cut (λ at. Percent) 1 (λ at. percent_piece-sign at cut.rest.now) (λ at. ap (pieces_of at) part) refl (omega arith))

pub lone_cut : (text : List ℕ) (cut : Cut) → ((at : ℕ) → percent_piece at text ≡ (Stray at, 0)) → cut.rest.now ≡ text → cut.part ≡ Lone → IsPercentCut text cut
lone_cut text cut begins rest part = percent_cut text cut (λ at. Stray at) 0 begins (λ at. ap (pieces_of at) part) rest (omega arith)

pub open_cut : (text behind : List ℕ) (lone : Cut) (found : Option Cut) → text ≡ 40 ∷ behind → lone.rest.now ≡ text → lone.part ≡ Lone →
    IfSome found (IsReferenceCut behind) → IfNone found (referred behind ≡ None) → IsPercentCut text (unwrap_or found lone)
open_cut text behind lone None begins rest part some none =
    lone_cut text lone (λ at. ap (percent_piece at) begins ∙ percent_piece-open at behind ∙ ap (reference_or_stray at) none) rest part
open_cut text behind lone (Some cut) begins rest part some none =
    percent_cut text cut (λ at. Reference some.name) (length some.name + 3)
    (λ at. ap (percent_piece at) begins ∙ percent_piece-open at behind ∙ ap (reference_or_stray at) some.referred_is)
    some.part
    (sym (past_name some.name cut.rest.now) ∙ ap (λ (xs : List ℕ). drop (length some.name + 2) xs) (sym some.text_is)
    ∙ ap (λ (k : ℕ). drop k (40 ∷ behind)) (three_more (length some.name)) ∙ ap (λ (xs : List ℕ). drop (length some.name + 3) xs) (sym begins))
    (rw (begins, some.text_is) (omega (arith, length-append {A = ℕ})))

-- The first part.

pub percent_shorter : (text behind : List ℕ) (cut : Cut) → text ≡ 37 ∷ behind → IsPercentCut behind cut → length cut.rest.now < length text
percent_shorter text behind cut begins percent = rw (begins, percent.rest 0) (omega (arith, length-drop {A = ℕ}))

pub percent_first : (text behind : List ℕ) (cut : Cut) → text ≡ 37 ∷ behind → IsPercentCut behind cut → IsFirstCut text cut
percent_first text behind cut begins percent at =
    let skip : ℕ = (percent_piece at behind).1 in
    let gone : at + 1 + skip ≡ at + (length text - length cut.rest.now) =
    rw (begins, percent.rest at) (omega (arith, length-drop skip behind, percent.within at)) in
    ap (pieces_from at 0) begins ∙ pieces-percent at behind
    ∙ ap (λ (ps : List Piece). (percent_piece at behind).0 ∷ ps)
    (pieces-drop (at + 1) skip behind ∙ ap (λ (k : ℕ). pieces_from k 0 (drop skip behind)) gone
    ∙ ap (pieces_from (at + (length text - length cut.rest.now)) 0) (sym (percent.rest at)))
    ∙ ap (λ (ps : List Piece). ps ++ pieces_from (at + (length text - length cut.rest.now)) 0 cut.rest.now) (sym (percent.part at))

-- no percent sign stands before the first, or before the end
none_before : (text : List ℕ) (found : Option ℕ) →
    MatchOption found ((i : ℕ) → i < length text → get_or text i 0 ≢ 37)
    (λ k. (k < length text) × (get_or text k 0 ≡ 37) × ((i : ℕ) → i < k → get_or text i 0 ≢ 37)) →
    (unwrap_or found (length text) ≤ length text) × ((i : ℕ) → i < unwrap_or found (length text) → get_or text i 0 ≢ 37)
none_before text None none = (omega arith, none)
none_before text (Some k) found = (omega (arith, found.0), found.2)

pub plain_first : (text front rest : List ℕ) (found : Option ℕ) (n : ℕ) →
    MatchOption found ((i : ℕ) → i < length text → get_or text i 0 ≢ 37)
    (λ k. (k < length text) × (get_or text k 0 ≡ 37) × ((i : ℕ) → i < k → get_or text i 0 ≢ 37)) →
    n ≡ unwrap_or found (length text) → front ≡ take n text → rest ≡ drop n text → (at : ℕ) →
    pieces_from at 0 text ≡ map Byte front ++ pieces_from (at + (length text - length rest)) 0 rest
plain_first text front rest found n searched n_is front_is rest_is at =
    let within : n ≤ length text = rw n_is (none_before text found searched).0 in
    let long : length front ≡ n = ap length front_is ∙ length-take-le n text within in
    let gone : length front ≡ length text - length rest = omega (arith, long, ap length rest_is, length-drop n text, within) in
    ap (pieces_from at 0) (sym (take-append-drop n text) ∙ ap (λ (xs : List ℕ). take n text ++ xs) (sym rest_is) ∙ ap (λ (xs : List ℕ). xs ++ rest) (sym front_is))
    ∙ pieces-plain at front rest
    (λ i h. rw (front_is, get_or-take n text i 0 (omega (arith, long, h))) ((none_before text found searched).1 i (rw (← n_is) (omega (arith, long, h)))))
    ∙ ap (λ (k : ℕ). map Byte front ++ pieces_from (at + k) 0 rest) gone

pub range_front : (text : List ℕ) (n : ℕ) → slice_range text 0 n ≡ take n text
range_front text n = ap (λ (k : ℕ). take k text) (omega arith)
