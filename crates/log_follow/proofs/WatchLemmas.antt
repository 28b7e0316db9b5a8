-- What a look does to a watch, case by case.
use Rattle.std.proofs.Common.{ℕ, zero, suc, ◌≡◌, ◌+◌, ◌-◌, ◌≤◌, min, Bool, true, false, List, [], ◌∷◌, ◌++◌, length, take, refl, sym, ap, ◌∙◌, arith, append_assoc, length-append}
use Rattle.std.specs.List.{flat_map}
use Rattle.std.proofs.lemmas.List.{length-take, take_min}
use Rattle.std.proofs.Math.Seq.{take-append-add}
use Rattle.f2b_base.specs.declared.jail.Place.{Place}
use Rattle.f2b_base.specs.declared.jail.Place.TheVariants.{Tail, Pos}
use Rattle.f2b_base.specs.declared.outside.FileLook.{FileLook}
use Rattle.log_follow.specs.Lines.{parts_of, rest_of, new_lines}
use Rattle.log_follow.specs.Watches.{Watch, IsPlace, begun, is_placed, base_position, base_head, position_in, reading_place, head_in, place_by, place_in, goes_on, sees, step_of, looked_on, looked_by, looked}
use Rattle.log_follow.specs.declared.step.Step.TheVariants.{Placed, Rotated}
use Rattle.log_follow.proofs.Theorems.{with_end, parts_and_rest}

-- The cases of a look.

by_tail : (base : Place) (w : Watch) (look : FileLook) → is_placed base ≡ false → looked_by base w look ≡ (begun (Pos look.size look.head), Placed)
by_tail Tail w look is = refl
by_tail (Pos position head) w look is = absurd (cc)

by_on : (base : Place) (w : Watch) (look : FileLook) → is_placed base ≡ true → looked_by base w look ≡ looked_on (goes_on w look) w look
by_on Tail w look is = absurd (cc)
by_on (Pos position head) w look is = refl

pub looked-tail : (w : Watch) (look : FileLook) → is_placed w.base ≡ false → looked w look ≡ (begun (Pos look.size look.head), Placed)
looked-tail w look is = by_tail w.base w look is

pub looked-other : (w : Watch) (look : FileLook) → is_placed w.base ≡ true → goes_on w look ≡ false → looked w look ≡ (begun (Pos 0 []), Rotated)
looked-other w look placed other = by_on w.base w look placed ∙ ap (λ (same : Bool). looked_on same w look) other

pub looked-same : (w : Watch) (look : FileLook) → is_placed w.base ≡ true → goes_on w look ≡ true → looked w look ≡ (sees look.bytes w, step_of (new_lines w.seen look.bytes))
looked-same w look placed same = by_on w.base w look placed ∙ ap (λ (same : Bool). looked_on same w look) same

-- Heads, positions and places.

-- of bytes that come behind others, the first of those are enough
take-front : (n : ℕ) (xs ys : List ℕ) → take n (take n xs ++ ys) ≡ take n (xs ++ ys)
take-front zero xs ys = refl
take-front (suc n) [] ys = refl
take-front (suc n) (x ∷ xs) ys = ap (λ (more : List ℕ). x ∷ more) (take-front n xs ys)

pub head_in-sees : (w : Watch) (bytes : List ℕ) → take 64 (head_in w ++ bytes) ≡ head_in (sees bytes w)
head_in-sees w bytes = take-front 64 (base_head w.base ++ w.seen) bytes ∙ ap (take 64) (append_assoc (base_head w.base) w.seen bytes)

-- a head that more bytes are joined to
pub joined-head : (n : ℕ) (head bytes : List ℕ) → length head ≤ n → head ++ take (min (n - length head) (length bytes)) bytes ≡ take n (head ++ bytes)
joined-head n head bytes short =
    let room : length head + (n - length head) ≡ n = omega arith in
    ap (λ (more : List ℕ). head ++ more) (take_min (n - length head) bytes)
    ∙ sym (take-append-add head bytes (n - length head))
    ∙ ap (λ (count : ℕ). take count (head ++ bytes)) room

-- the same of the slices that the code has
pub joined_by : (new joined head bytes part : List ℕ) (count : ℕ) → new ≡ joined ++ part → joined ≡ head → part ≡ take count bytes
    → count ≡ min (64 - length head) (length bytes) → length head ≤ 64 → new ≡ take 64 (head ++ bytes)
joined_by new joined head bytes part count all front back count_is short =
    all
    ∙ ap (λ (f : List ℕ). f ++ part) front
    ∙ ap (λ (b : List ℕ). head ++ b) (back ∙ ap (λ (k : ℕ). take k bytes) count_is)
    ∙ joined-head 64 head bytes short

pub length-joined : (head bytes : List ℕ) (from : ℕ) → length head ≡ min 64 from → length (take 64 (head ++ bytes)) ≡ min 64 (from + length bytes)
length-joined head bytes from is = omega (arith, length-take 64 (head ++ bytes), length-append head bytes)

-- the rest is no longer than all
pub length-rest_of : (seen : List ℕ) → length (rest_of seen) ≤ length seen
length-rest_of seen = omega (arith, ap length (parts_and_rest seen), length-append (flat_map with_end (parts_of seen)) (rest_of seen))

pub position_and_carry : (w : Watch) → position_in w + length (rest_of w.seen) ≡ reading_place w
position_and_carry w = omega (arith, length-rest_of w.seen)

place_at : (base : Place) (w : Watch) → is_placed base ≡ true → place_by base w ≡ Pos (position_in w) (take (min 64 (position_in w)) (head_in w))
place_at Tail w is = absurd (cc)
place_at (Pos position head) w is = refl

pub place_in-placed : (w : Watch) → is_placed w.base ≡ true → place_in w ≡ Pos (position_in w) (take (min 64 (position_in w)) (head_in w))
place_in-placed w is = place_at w.base w is

place_not : (base : Place) (w : Watch) → is_placed base ≡ false → place_by base w ≡ Tail
place_not Tail w is = refl
place_not (Pos position head) w is = absurd (cc)

pub place_in-tail : (w : Watch) → is_placed w.base ≡ false → place_in w ≡ Tail
place_in-tail w is = place_not w.base w is

head_by : (base : Place) (seen : List ℕ) → IsPlace base → length (take 64 (base_head base ++ seen)) ≡ min 64 (base_position base + length seen)
head_by Tail seen is = omega (arith, length-take 64 seen)
head_by (Pos position head) seen is = length-joined head seen position is

pub length-head_in : (w : Watch) → IsPlace w.base → length (head_in w) ≡ min 64 (reading_place w)
length-head_in w is = head_by w.base w.seen is
