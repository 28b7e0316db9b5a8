-- How a template is read from its first `<` on.
use Rattle.std.proofs.Common.{ℕ, suc, ◌≡◌, ◌+◌, ◌-◌, ◌<◌, ◌≤◌, inl, inr, Bool, true, false, ◌||◌, Some, None, List, [], ◌∷◌, ◌++◌, length, take, drop, refl, sym, ap, ap₂, ◌∙◌, arith, append-nil, append_assoc, length-append}
use Rattle.std.specs.Prelude.{◌==◌, nat_lt, nat_eq, codes, find, option_map}
use Rattle.std.specs.List.{list_any, slice_split, onto_first, ends_with, position_or_len, before_first, after_first}
use Rattle.std.specs.Str.{bytes_eq}
use Rattle.std.proofs.lemmas.Bool.{cases_Bool, or_parts, or_right, both_ways, lt-ltb, ltb-true, ltb-false, eqb-true}
use Rattle.std.proofs.Math.Seq.{drop-append-add}
use Rattle.std.proofs.lemmas.List.{drop-append-le}
use Rattle.std.proofs.lemmas.List.Folds.{list_any-append}
use Rattle.f2b_model.specs.declared.fill.Fill.{Fill}
use Rattle.f2b_model.specs.Lists.{AllOf}
use Rattle.f2b_model.specs.Render.{values, value_of, opens_group, front_value, part_value, filled, filled_after, filled_parts, rendered}
use Rattle.f2b_model.specs.RenderLaws.{IsWithout, BeginsNoTag}
use Rattle.f2b_model.proofs.SameLemmas.{bytes_eq-true}

-- ---- taking a text apart at each `<`

abbrev parts_of : List ℕ → List (List ℕ)
parts_of text = slice_split (λ b. b == 60) text

-- what stands before the first `<` joins the first part
parts_front : (xs ys first : List ℕ) (rest : List (List ℕ)) → IsWithout 60 xs → parts_of ys ≡ first ∷ rest → parts_of (xs ++ ys) ≡ (xs ++ first) ∷ rest
parts_front [] ys first rest without is = is
parts_front (x ∷ xs) ys first rest without is =
    let here = or_parts (x == 60) (list_any (λ b. b == 60) xs) without in
    rw (here.0, parts_front xs ys first rest here.1 is) refl

-- there is a first part, with which the text begins
first_part : (text : List ℕ) → (first : List ℕ) × (rest : List (List ℕ)) × (parts_of text ≡ first ∷ rest) × (tail : List ℕ) × (text ≡ first ++ tail)
first_part [] = ([], [], refl, [], refl)
first_part (x ∷ text) = elim (cases_Bool (x == 60)) [
  | inl y ↦ ([], parts_of text, rw y refl, x ∷ text, refl)
  | inr n ↦
      let more = first_part text in
      (x ∷ more.0, more.1, rw (n, more.2) refl, more.3, ap (λ t. x ∷ t) more.4)
]

-- ---- the name at the front of a part

place_of_end : (name ys : List ℕ) → IsWithout 62 name → position_or_len (λ b. b == 62) (name ++ 62 ∷ ys) ≡ length name
place_of_end [] ys without = refl
place_of_end (x ∷ name) ys without =
    let here = or_parts (x == 62) (list_any (λ b. b == 62) name) without in
    let later : position_or_len (λ b. b == 62) (name ++ 62 ∷ ys) ≡ length name = place_of_end name ys here.1 in
    rw (here.0, later) (omega arith)

take_front : (xs ys : List ℕ) → take (length xs) (xs ++ ys) ≡ xs
take_front [] ys = refl
take_front (x ∷ xs) ys = ap (λ t. x ∷ t) (take_front xs ys)

after_end : (name ys : List ℕ) → IsWithout 62 name → after_first (λ b. b == 62) (name ++ 62 ∷ ys) ≡ ys
after_end name ys without = ap (λ n. drop (n + 1) (name ++ 62 ∷ ys)) (place_of_end name ys without) ∙ drop-append-add name (62 ∷ ys) 1

front_named : (f : Fill) (name ys : List ℕ) → IsWithout 62 name → front_value f (name ++ 62 ∷ ys) ≡ value_of f name
front_named f name ys without =
    let less : nat_lt (length name) (length (name ++ 62 ∷ ys)) ≡ true = lt-ltb (length name) (length (name ++ 62 ∷ ys)) (omega (arith, length-append name (62 ∷ ys))) in
    rw (place_of_end name ys without, less) (ap (value_of f) (take_front name (62 ∷ ys)))

-- the name of a tag has no `<` and no `>`
known_clean : (entries : List (List ℕ × List ℕ)) (name value : List ℕ) → AllOf (λ (e : List ℕ × List ℕ). IsWithout 60 e.0 × IsWithout 62 e.0) entries
    → option_map (λ e. e.1) (find (λ e. bytes_eq e.0 name) entries) ≡ Some value → IsWithout 60 name × IsWithout 62 name
known_clean [] name value all is = absurd (let e : None ≡ Some value = is in cc)
known_clean (e ∷ entries) name value all is = elim (cases_Bool (bytes_eq e.0 name)) [
  | inl y ↦ let same : e.0 ≡ name = bytes_eq-true e.0 name y in rw (← same) all.0
  | inr n ↦ known_clean entries name value all.1 (rw n at is)
]

name_clean : (f : Fill) (name value : List ℕ) → value_of f name ≡ Some value → IsWithout 60 name × IsWithout 62 name
name_clean f name value is =
    known_clean (values f) name value ((refl, refl), ((refl, refl), ((refl, refl), ((refl, refl), ((refl, refl), ((refl, refl), ((refl, refl), ((refl, refl), tt)))))))) is

-- ---- what a `<` stands behind

-- a text that ends with one that has no `>` does so behind its last `>`
has_end : (xs ys : List ℕ) → list_any (λ b. b == 62) (xs ++ 62 ∷ ys) ≡ true
has_end xs ys = list_any-append (λ b. b == 62) xs (62 ∷ ys) ∙ or_right (list_any (λ b. b == 62) xs) true refl

ends_short : (xs ys s : List ℕ) → IsWithout 62 s → length ys < length s → ends_with nat_eq (xs ++ 62 ∷ ys) s ≡ false
ends_short xs ys s without short = elim (cases_Bool (ends_with nat_eq (xs ++ 62 ∷ ys) s)) [
  | inr n ↦ n
  | inl y ↦
      let from : length (xs ++ 62 ∷ ys) - length s ≤ length xs = omega (arith, length-append xs (62 ∷ ys)) in
      let is : s ≡ drop (length (xs ++ 62 ∷ ys) - length s) xs ++ 62 ∷ ys = bytes_eq-true s (drop (length (xs ++ 62 ∷ ys) - length s) (xs ++ 62 ∷ ys)) y ∙ drop-append-le (length (xs ++ 62 ∷ ys) - length s) xs (62 ∷ ys) from in
      absurd (both_ways (list_any (λ b. b == 62) s) without (ap (list_any (λ b. b == 62)) is ∙ has_end (drop (length (xs ++ 62 ∷ ys) - length s) xs) ys))
]

ends_too_long : (ys s : List ℕ) → length ys < length s → ends_with nat_eq ys s ≡ false
ends_too_long ys s short = elim (cases_Bool (ends_with nat_eq ys s)) [
  | inr n ↦ n
  | inl y ↦
      let all : length ys - length s ≡ 0 = omega (arith, short) in
      let is : s ≡ ys = bytes_eq-true s (drop (length ys - length s) ys) y ∙ ap (λ n. drop n ys) all in
      absurd (omega (arith, short, ap (length {A = ℕ}) is))
]

ends_behind : (xs ys s : List ℕ) → IsWithout 62 s → ends_with nat_eq (xs ++ 62 ∷ ys) s ≡ ends_with nat_eq ys s
ends_behind xs ys s without = elim (cases_Bool (nat_lt (length ys) (length s))) [
  | inl less ↦ let short : length ys < length s = ltb-true (length ys) (length s) less in ends_short xs ys s without short ∙ sym (ends_too_long ys s short)
  | inr most ↦
      let long : length s ≤ length ys = ltb-false (length ys) (length s) most in
      let places : length (xs ++ 62 ∷ ys) - length s ≡ length (xs ++ 62 ∷ []) + (length ys - length s) = omega (arith, long, length-append xs (62 ∷ ys), length-append xs (62 ∷ [])) in
      let same : drop (length (xs ++ 62 ∷ ys) - length s) (xs ++ 62 ∷ ys) ≡ drop (length ys - length s) ys =
      ap₂ (drop {A = ℕ}) places (sym (append_assoc xs (62 ∷ []) ys)) ∙ drop-append-add (xs ++ 62 ∷ []) ys (length ys - length s) in
      ap (bytes_eq s) same
]

opens_behind : (xs ys : List ℕ) → opens_group (xs ++ 62 ∷ ys) ≡ opens_group ys
opens_behind xs ys = ap₂ (λ (a b : Bool). a || b) (ends_behind xs ys (codes "(?") refl) (ends_behind xs ys (codes "(?P") refl)

-- parts are filled alike behind texts that open a group alike
filled_alike : (f : Fill) (before other : List ℕ) (parts : List (List ℕ)) → opens_group before ≡ opens_group other → filled_after f before parts ≡ filled_after f other parts
filled_alike f before other [] same = refl
filled_alike f before other (part ∷ parts) same = rw same refl

-- ---- the laws

pub plain_stays : (text : List ℕ) (f : Fill) → IsWithout 60 text → rendered text f ≡ text
unfolding rendered
plain_stays text f without =
    let parts : parts_of text ≡ (text ++ []) ∷ [] = ap parts_of (sym (append-nil text)) ∙ parts_front text [] [] [] without refl in
    ap (filled_parts f) parts ∙ append-nil (text ++ []) ∙ append-nil text

pub tag_filled : (before name rest value : List ℕ) (f : Fill) → IsWithout 60 before → opens_group before ≡ false → value_of f name ≡ Some value
    → rendered (before ++ 60 ∷ (name ++ 62 ∷ rest)) f ≡ before ++ (value ++ rendered rest f)
unfolding rendered
tag_filled before name rest value f without opens known =
    let clean = name_clean f name value known in
    let part = first_part rest in
    let first = part.0 in
    let more = part.1 in
    let behind : parts_of (name ++ 62 ∷ rest) ≡ (name ++ 62 ∷ first) ∷ more = parts_front name (62 ∷ rest) (62 ∷ first) more clean.0 (ap (onto_first 62) part.2) in
    let parts : parts_of (before ++ 60 ∷ (name ++ 62 ∷ rest)) ≡ before ∷ (name ++ 62 ∷ first) ∷ more =
    parts_front before (60 ∷ (name ++ 62 ∷ rest)) [] (parts_of (name ++ 62 ∷ rest)) without refl ∙ ap₂ (λ (x : List ℕ) (xs : List (List ℕ)). x ∷ xs) (append-nil before) behind in
    let here : part_value f before (name ++ 62 ∷ first) ≡ Some value = rw opens (front_named f name first clean.1 ∙ known) in
    ap (filled_parts f) parts
    ∙ ap (λ t. before ++ t) (ap₂ (λ (x y : List ℕ). x ++ y)
    (ap (λ v. filled v (name ++ 62 ∷ first)) here ∙ ap (λ t. value ++ t) (after_end name first clean.1))
    (filled_alike f (name ++ 62 ∷ first) first more (opens_behind name first))
    ∙ append_assoc value first (filled_after f first more)
    ∙ ap (λ ps. value ++ filled_parts f ps) (sym part.2))

-- a `<` without a tag stays
stays : (before rest : List ℕ) (f : Fill) → IsWithout 60 before → ((first tail : List ℕ) → rest ≡ first ++ tail → part_value f before first ≡ None) → rendered (before ++ 60 ∷ rest) f ≡ before ++ 60 ∷ rendered rest f
unfolding rendered
stays before rest f without none =
    let part = first_part rest in
    let parts : parts_of (before ++ 60 ∷ rest) ≡ before ∷ part.0 ∷ part.1 =
    parts_front before (60 ∷ rest) [] (parts_of rest) without refl ∙ ap₂ (λ (x : List ℕ) (xs : List (List ℕ)). x ∷ xs) (append-nil before) part.2 in
    ap (filled_parts f) parts
    ∙ ap (λ t. before ++ t) (ap (λ v. filled v part.0 ++ filled_after f part.0 part.1) (none part.0 part.3 part.4) ∙ ap (λ ps. 60 ∷ filled_parts f ps) (sym part.2))

pub group_stays : (before rest : List ℕ) (f : Fill) → IsWithout 60 before → opens_group before ≡ true → rendered (before ++ 60 ∷ rest) f ≡ before ++ 60 ∷ rendered rest f
group_stays before rest f without opens = stays before rest f without (λ first tail is. rw opens refl)

cut : (xs : List ℕ) → position_or_len (λ b. b == 62) xs < length xs → xs ≡ before_first (λ b. b == 62) xs ++ 62 ∷ after_first (λ b. b == 62) xs
cut [] less = absurd (omega (arith, less))
cut (x ∷ xs) less = elim (cases_Bool (x == 62)) [
  | inl y ↦ rw y (ap (λ b. b ∷ xs) (eqb-true x 62 y))
  | inr n ↦
      let fewer : 1 + position_or_len (λ b. b == 62) xs < length (x ∷ xs) = rw n at less in
      let next : 1 + position_or_len (λ b. b == 62) xs ≡ suc (position_or_len (λ b. b == 62) xs) = omega arith in
      let behind : suc (position_or_len (λ b. b == 62) xs) + 1 ≡ suc (position_or_len (λ b. b == 62) xs + 1) = omega arith in
      rw (n, next, behind) (ap (λ t. x ∷ t) (cut xs (omega (arith, fewer))))
]

no_value : (f : Fill) (first : List ℕ) → ((name ys : List ℕ) → first ≡ name ++ 62 ∷ ys → value_of f name ≡ None) → front_value f first ≡ None
no_value f first none = elim (cases_Bool (nat_lt (position_or_len (λ b. b == 62) first) (length first))) [
  | inr n ↦ rw n refl
  | inl y ↦ rw y (none (before_first (λ b. b == 62) first) (after_first (λ b. b == 62) first) (cut first (ltb-true (position_or_len (λ b. b == 62) first) (length first) y)))
]

pub other_stays : (before rest : List ℕ) (f : Fill) → IsWithout 60 before → BeginsNoTag f rest → rendered (before ++ 60 ∷ rest) f ≡ before ++ 60 ∷ rendered rest f
other_stays before rest f without none = stays before rest f without (λ first tail is. elim (cases_Bool (opens_group before)) [
  | inl y ↦ rw y refl
  | inr n ↦ rw n (no_value f first (λ name ys front. none name (ys ++ tail) (is ∙ ap (λ t. t ++ tail) front ∙ append_assoc name (62 ∷ ys) tail)))
])
