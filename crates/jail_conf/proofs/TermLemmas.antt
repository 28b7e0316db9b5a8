-- The terms of a time word, and their sum.
use Rattle.std.proofs.Common.{◌≡◌, ℕ, ◌+◌, ◌*◌, ◌-◌, ◌^◌, ◌<◌, ◌≤◌, zero, suc, min, nat_lt, mul-le-mul_left, Bool, true, false, cond, List, [], ◌∷◌, ◌++◌, length, Option, None, Some, refl, sym, ap, ◌∙◌, arith}
use Rattle.std.specs.Char.{is_ascii_digit, is_ascii_alphabetic}
use Rattle.std.specs.List.{list_all}
use Rattle.std.specs.Str.Parse.{digits_value}
use Rattle.std.proofs.lemmas.Bool.Decides.{nat_tests}
use Rattle.ini_interp.specs.Lines.{is_blank}
use Rattle.jail_conf.specs.Words.{number}
use Rattle.jail_conf.specs.Times.{Run, Digits, Letters, Gap, Stray, before_digits, before_letters, runs_of, without_gaps, pieces, with_digits, begins_with, unit_seconds, added, sum_of_terms, sum_of, saturated, plus}
use Rattle.jail_conf.proofs.NumberLemmas.{decimal}
use Rattle.jail_conf.proofs.RunLemmas.{digits_cut, letters_cut}

-- ---- texts that begin with no term

-- behind digits that stand before no letter there is no sum
digits_no_word : (digits : List ℕ) (first : ℕ) (runs : List Run) → sum_of_terms (Digits digits ∷ without_gaps (before_digits first runs)) ≡ None
digits_no_word digits first [] = refl
digits_no_word digits first (Digits text ∷ runs) = refl
digits_no_word digits first (Letters text ∷ runs) = refl
digits_no_word digits first (Gap ∷ runs) = refl
digits_no_word digits first (Stray ∷ runs) = refl

no_word : (digits text : List ℕ) → begins_with is_ascii_alphabetic text ≡ false → begins_with is_blank text ≡ false → sum_of_terms (Digits digits ∷ pieces text) ≡ None
no_word digits [] letter blank = refl
no_word digits (first ∷ text) letter blank = rw (letter, blank) (by (is_ascii_digit first))
  where
    by : (digit : Bool) → sum_of_terms (Digits digits ∷ without_gaps (cond digit (before_digits first (runs_of text)) (Stray ∷ runs_of text))) ≡ None
    by true = digits_no_word digits first (runs_of text)
    by false = refl

letters_no_term : (first : ℕ) (runs : List Run) → sum_of_terms (without_gaps (before_letters first runs)) ≡ None
letters_no_term first [] = refl
letters_no_term first (Digits text ∷ runs) = refl
letters_no_term first (Letters text ∷ runs) = refl
letters_no_term first (Gap ∷ runs) = refl
letters_no_term first (Stray ∷ runs) = refl

letters_no_sum : (first : ℕ) (runs : List Run) → sum_of (without_gaps (before_letters first runs)) ≡ None
letters_no_sum first [] = refl
letters_no_sum first (Digits text ∷ runs) = refl
letters_no_sum first (Letters text ∷ runs) = refl
letters_no_sum first (Gap ∷ runs) = refl
letters_no_sum first (Stray ∷ runs) = refl

-- a text that begins with no digit has no sum
pub no_digits : (text : List ℕ) → 0 < length text → begins_with is_ascii_digit text ≡ false → begins_with is_blank text ≡ false → sum_of_terms (pieces text) ≡ None
no_digits [] some digit blank = absurd (omega arith)
no_digits (first ∷ text) some digit blank = rw (digit, blank) (by (is_ascii_alphabetic first))
  where
    by : (letter : Bool) → sum_of_terms (without_gaps (cond letter (before_letters first (runs_of text)) (Stray ∷ runs_of text))) ≡ None
    by true = letters_no_term first (runs_of text)
    by false = refl

no_digits_sum : (text : List ℕ) → 0 < length text → begins_with is_ascii_digit text ≡ false → begins_with is_blank text ≡ false → sum_of (pieces text) ≡ None
no_digits_sum [] some digit blank = absurd (omega arith)
no_digits_sum (first ∷ text) some digit blank = rw (digit, blank) (by (is_ascii_alphabetic first))
  where
    by : (letter : Bool) → sum_of (without_gaps (cond letter (before_letters first (runs_of text)) (Stray ∷ runs_of text))) ≡ None
    by true = letters_no_sum first (runs_of text)
    by false = refl

-- digits with something behind them are no number of seconds
digits_first : (digits : List ℕ) (first : ℕ) (runs : List Run) →
    sum_of (Digits digits ∷ without_gaps (before_digits first runs)) ≡ sum_of_terms (Digits digits ∷ without_gaps (before_digits first runs))
digits_first digits first [] = refl
digits_first digits first (Digits text ∷ runs) = refl
digits_first digits first (Letters text ∷ runs) = refl
digits_first digits first (Gap ∷ runs) = refl
digits_first digits first (Stray ∷ runs) = refl

letters_first : (digits : List ℕ) (first : ℕ) (runs : List Run) →
    sum_of (Digits digits ∷ without_gaps (before_letters first runs)) ≡ sum_of_terms (Digits digits ∷ without_gaps (before_letters first runs))
letters_first digits first [] = refl
letters_first digits first (Digits text ∷ runs) = refl
letters_first digits first (Letters text ∷ runs) = refl
letters_first digits first (Gap ∷ runs) = refl
letters_first digits first (Stray ∷ runs) = refl

digits_and_more : (digits text : List ℕ) → 0 < length text → begins_with is_blank text ≡ false →
    sum_of (Digits digits ∷ pieces text) ≡ sum_of_terms (Digits digits ∷ pieces text)
digits_and_more digits [] some blank = absurd (omega arith)
digits_and_more digits (first ∷ text) some blank = rw blank (by (is_ascii_digit first) (is_ascii_alphabetic first))
  where
    runs : List Run
    runs = runs_of text

    by : (digit letter : Bool) → sum_of (Digits digits ∷ without_gaps (cond digit (before_digits first runs) (cond letter (before_letters first runs) (Stray ∷ runs))))
        ≡ sum_of_terms (Digits digits ∷ without_gaps (cond digit (before_digits first runs) (cond letter (before_letters first runs) (Stray ∷ runs))))
    by true letter = digits_first digits first runs
    by false true = letters_first digits first runs
    by false false = refl

-- ---- the first term

-- digits write a number, kept at the greatest
number_kept : (byte : ℕ) (digits : List ℕ) → list_all is_ascii_digit (byte ∷ digits) ≡ true →
    saturated (number (byte ∷ digits)) ≡ Some (min (digits_value 10 (byte ∷ digits)) (2 ^ 64 - 1))
number_kept byte digits all =
    ap (λ b. saturated (cond b (Some (digits_value 10 (byte ∷ digits))) None)) (decimal (byte ∷ digits) (omega arith) all)

-- where no digits are cut off there is no term
pub term-none : (text digits behind : List ℕ) → text ≡ digits ++ behind → list_all is_ascii_digit digits ≡ true → begins_with is_ascii_digit behind ≡ false →
    None ≡ saturated (number digits) → 0 < length text → begins_with is_blank text ≡ false → sum_of_terms (pieces text) ≡ None
term-none text [] behind whole all ends none some blank = no_digits text some (ap (begins_with is_ascii_digit) whole ∙ ends) blank
term-none text (byte ∷ digits) behind whole all ends none some blank =
    let number : saturated (number (byte ∷ digits)) ≡ Some (min (digits_value 10 (byte ∷ digits)) (2 ^ 64 - 1)) =
    number_kept byte digits all in
    absurd (no (none ∙ number))
  where
    no : {n : ℕ} → None ≡ Some n → ⊥
    no e = cc

-- digits, and the letters behind them
pub term-is : (text digits behind after word rest : List ℕ) → text ≡ digits ++ behind → list_all is_ascii_digit digits ≡ true → begins_with is_ascii_digit behind ≡ false →
    0 < length digits → pieces after ≡ pieces behind → begins_with is_blank after ≡ false →
    after ≡ word ++ rest → list_all is_ascii_alphabetic word ≡ true → begins_with is_ascii_alphabetic rest ≡ false →
    sum_of_terms (pieces text) ≡ added digits (unit_seconds word) (sum_of_terms (pieces rest))
term-is text [] behind after word rest whole all ends some same blank cut letters stops = absurd (omega arith)
term-is text (byte ∷ digits) behind after [] rest whole all ends some same blank cut letters stops =
    ap (λ t. sum_of_terms (pieces t)) whole ∙ (ap sum_of_terms (digits_cut (byte ∷ digits) behind all ends)
    ∙ (ap (λ runs. sum_of_terms (Digits (byte ∷ digits) ∷ runs)) (sym same)
    ∙ no_word (byte ∷ digits) after (ap (begins_with is_ascii_alphabetic) cut ∙ stops) blank))
term-is text (byte ∷ digits) behind after (letter ∷ word) rest whole all ends some same blank cut letters stops =
    ap (λ t. sum_of_terms (pieces t)) whole ∙ (ap sum_of_terms (digits_cut (byte ∷ digits) behind all ends)
    ∙ (ap (λ runs. sum_of_terms (Digits (byte ∷ digits) ∷ runs)) (sym same ∙ (ap pieces cut ∙ letters_cut (letter ∷ word) rest letters stops))))

-- ---- sums that stay at the greatest number

abbrev value_or : Option ℕ → ℕ
value_or None = 0
value_or (Some n) = n

-- what is added to equal sums
pub plus-same : (n : ℕ) (a b : Option ℕ) → saturated a ≡ saturated b → saturated (plus n a) ≡ saturated (plus n b)
plus-same n None None same = refl
plus-same n None (Some b) same = absurd (cc)
plus-same n (Some a) None same = absurd (cc)
plus-same n (Some a) (Some b) same =
    let equal : min a (2 ^ 64 - 1) ≡ min b (2 ^ 64 - 1) = ap value_or same in
    let more : min (n + a) (2 ^ 64 - 1) ≡ min (n + b) (2 ^ 64 - 1) = omega (arith, equal) in
    ap Some more

-- one number after the other, the first of them kept at the greatest
pub plus-plus : (kept n m : ℕ) (a : Option ℕ) → kept ≡ min (n + m) (2 ^ 64 - 1) → saturated (plus kept a) ≡ saturated (plus n (plus m a))
plus-plus kept n m None is = refl
plus-plus kept n m (Some a) is =
    let more : min (kept + a) (2 ^ 64 - 1) ≡ min (n + (m + a)) (2 ^ 64 - 1) = omega (arith, is) in
    ap Some more

-- nothing is added
pub plus-none : (a : Option ℕ) → plus 0 a ≡ a
plus-none None = refl
plus-none (Some a) = ap Some (omega arith)

-- a product of a number that was kept at the greatest, kept there too
times-kept : (value count seconds term rest : ℕ) → count ≡ min value (2 ^ 64 - 1) → 0 < seconds → term ≡ min (count * seconds) (2 ^ 64 - 1) →
    min (value * seconds + rest) (2 ^ 64 - 1) ≡ min (term + rest) (2 ^ 64 - 1)
times-kept value count seconds term rest is some product = by (nat_lt (2 ^ 64 - 1) value) refl
  where
    by : (b : Bool) → nat_lt (2 ^ 64 - 1) value ≡ b → min (value * seconds + rest) (2 ^ 64 - 1) ≡ min (term + rest) (2 ^ 64 - 1)
    by false small =
        let kept : count ≡ value = grind (arith, nat_tests, is, small) in
        let same : count * seconds ≡ value * seconds = ap (λ n. n * seconds) kept in
        omega (arith, same, product)
    by true great =
        let above : 2 ^ 64 - 1 < value = grind (arith, nat_tests, great) in
        let most : count ≡ 2 ^ 64 - 1 = omega (arith, is, above) in
        let full : count * seconds ≡ (2 ^ 64 - 1) * seconds = ap (λ n. n * seconds) most in
        let more : value * 1 ≤ value * seconds = mul-le-mul_left value some in
        omega (arith, full, more, above, product, some)

product-kept : (value count seconds term rest : ℕ) → count ≡ min value (2 ^ 64 - 1) → term ≡ min (count * seconds) (2 ^ 64 - 1) →
    min (value * seconds + rest) (2 ^ 64 - 1) ≡ min (term + rest) (2 ^ 64 - 1)
product-kept value count zero term rest is product = omega (arith, product)
product-kept value count (suc seconds) term rest is product = times-kept value count (suc seconds) term rest is (omega arith) product

-- a term of a known unit
pub term-sum : (digits word : List ℕ) (rest : Option ℕ) (count seconds term : ℕ) → unit_seconds word ≡ Some seconds →
    count ≡ min (digits_value 10 digits) (2 ^ 64 - 1) → term ≡ min (count * seconds) (2 ^ 64 - 1) →
    saturated (added digits (unit_seconds word) rest) ≡ saturated (plus term rest)
term-sum digits word None count seconds term unit is product = rw unit refl
term-sum digits word (Some rest) count seconds term unit is product =
    rw unit (ap Some (product-kept (digits_value 10 digits) count seconds term rest is product))

-- a first term whose word is a unit
pub term-adds : (text digits behind after word rest : List ℕ) (count seconds term : ℕ) → text ≡ digits ++ behind → list_all is_ascii_digit digits ≡ true → begins_with is_ascii_digit behind ≡ false →
    Some count ≡ saturated (number digits) → pieces after ≡ pieces behind → begins_with is_blank after ≡ false →
    after ≡ word ++ rest → list_all is_ascii_alphabetic word ≡ true → begins_with is_ascii_alphabetic rest ≡ false →
    Some seconds ≡ unit_seconds word → term ≡ min (count * seconds) (2 ^ 64 - 1) →
    saturated (sum_of_terms (pieces text)) ≡ saturated (plus term (sum_of_terms (pieces rest)))
term-adds text [] behind after word rest count seconds term whole all ends counted same blank cut letters stops unit product = absurd (cc)
term-adds text (byte ∷ digits) behind after word rest count seconds term whole all ends counted same blank cut letters stops unit product =
    let number : saturated (number (byte ∷ digits)) ≡ Some (min (digits_value 10 (byte ∷ digits)) (2 ^ 64 - 1)) =
    number_kept byte digits all in
    ap saturated (term-is text (byte ∷ digits) behind after word rest whole all ends (omega arith) same blank cut letters stops)
    ∙ term-sum (byte ∷ digits) word (sum_of_terms (pieces rest)) count seconds term (sym unit) (ap value_or (counted ∙ number)) product

-- and one whose word is none
pub term-no_unit : (text digits behind after word rest : List ℕ) (count : ℕ) → text ≡ digits ++ behind → list_all is_ascii_digit digits ≡ true → begins_with is_ascii_digit behind ≡ false →
    Some count ≡ saturated (number digits) → pieces after ≡ pieces behind → begins_with is_blank after ≡ false →
    after ≡ word ++ rest → list_all is_ascii_alphabetic word ≡ true → begins_with is_ascii_alphabetic rest ≡ false →
    None ≡ unit_seconds word → sum_of_terms (pieces text) ≡ None
term-no_unit text [] behind after word rest count whole all ends counted same blank cut letters stops unit = absurd (cc)
term-no_unit text (byte ∷ digits) behind after word rest count whole all ends counted same blank cut letters stops unit =
    term-is text (byte ∷ digits) behind after word rest whole all ends (omega arith) same blank cut letters stops
    ∙ ap (λ seconds. added (byte ∷ digits) seconds (sum_of_terms (pieces rest))) (sym unit)

-- ---- one term after the other

-- before the first
pub sum-start : (text left : List ℕ) → pieces left ≡ pieces text → saturated (plus 0 (sum_of_terms (pieces left))) ≡ saturated (sum_of_terms (pieces text))
sum-start text left same = ap saturated (plus-none (sum_of_terms (pieces left))) ∙ ap (λ runs. saturated (sum_of_terms runs)) same

-- one more
pub sum-more : (text left rest next : List ℕ) (seconds term kept : ℕ) → saturated (plus seconds (sum_of_terms (pieces left))) ≡ saturated (sum_of_terms (pieces text)) →
    saturated (sum_of_terms (pieces left)) ≡ saturated (plus term (sum_of_terms (pieces rest))) → pieces next ≡ pieces rest → kept ≡ min (seconds + term) (2 ^ 64 - 1) →
    saturated (plus kept (sum_of_terms (pieces next))) ≡ saturated (sum_of_terms (pieces text))
sum-more text left rest next seconds term kept before adds same is =
    ap (λ runs. saturated (plus kept (sum_of_terms runs))) same ∙ (plus-plus kept seconds term (sum_of_terms (pieces rest)) is
    ∙ (sym (plus-same seconds (sum_of_terms (pieces left)) (plus term (sum_of_terms (pieces rest))) adds) ∙ before))

-- behind a text that has no sum
pub sum-none : (text left : List ℕ) (seconds : ℕ) → saturated (plus seconds (sum_of_terms (pieces left))) ≡ saturated (sum_of_terms (pieces text)) →
    sum_of_terms (pieces left) ≡ None → None ≡ saturated (sum_of_terms (pieces text))
sum-none text left seconds before none = ap (λ sum. saturated (plus seconds sum)) (sym none) ∙ before

-- behind the last
pub sum-end : (text left : List ℕ) (seconds : ℕ) → saturated (plus seconds (sum_of_terms (pieces left))) ≡ saturated (sum_of_terms (pieces text)) →
    length left ≡ 0 → seconds < 2 ^ 64 → Some seconds ≡ saturated (sum_of_terms (pieces text))
sum-end text [] seconds before empty fits =
    let kept : seconds ≡ min (seconds + 0) (2 ^ 64 - 1) = omega (arith, fits) in
    ap Some kept ∙ before
sum-end text (byte ∷ left) seconds before empty fits = absurd (omega (arith, empty))

-- ---- a number of seconds, or terms

-- digits alone
pub sum-digits : (text front digits behind after : List ℕ) → pieces front ≡ pieces text → front ≡ digits ++ behind → list_all is_ascii_digit digits ≡ true →
    begins_with is_ascii_digit behind ≡ false → pieces after ≡ pieces behind → length after ≡ 0 → saturated (number digits) ≡ saturated (sum_of (pieces text))
sum-digits text front digits behind [] same whole all ends nothing none =
    by digits all (sym same ∙ (ap pieces whole ∙ (digits_cut digits behind all ends ∙ ap (with_digits digits) (sym nothing))))
  where
    by : (digits : List ℕ) → list_all is_ascii_digit digits ≡ true → pieces text ≡ with_digits digits [] → saturated (number digits) ≡ saturated (sum_of (pieces text))
    by [] all is = sym (ap (λ runs. saturated (sum_of runs)) is)
    by (byte ∷ digits) all is =
        ap (λ b. saturated (cond b (Some (digits_value 10 (byte ∷ digits))) None)) (decimal (byte ∷ digits) (omega arith) all)
        ∙ sym (ap (λ runs. saturated (sum_of runs)) is)
sum-digits text front digits behind (byte ∷ after) same whole all ends nothing none = absurd (omega (arith, none))

-- any other text
pub sum-terms : (text front digits behind after : List ℕ) → pieces front ≡ pieces text → begins_with is_blank front ≡ false → 0 < length front → front ≡ digits ++ behind →
    list_all is_ascii_digit digits ≡ true → begins_with is_ascii_digit behind ≡ false → pieces after ≡ pieces behind → begins_with is_blank after ≡ false → 0 < length after →
    saturated (sum_of_terms (pieces front)) ≡ saturated (sum_of (pieces text))
sum-terms text front [] behind after same blank some whole all ends cut clean more =
    let digit : begins_with is_ascii_digit front ≡ false = ap (begins_with is_ascii_digit) whole ∙ ends in
    ap saturated (no_digits front some digit blank ∙ (sym (no_digits_sum front some digit blank) ∙ ap sum_of same))
sum-terms text front (byte ∷ digits) behind after same blank some whole all ends cut clean more =
    let is : pieces front ≡ Digits (byte ∷ digits) ∷ pieces after =
    ap pieces whole ∙ (digits_cut (byte ∷ digits) behind all ends ∙ ap (λ runs. Digits (byte ∷ digits) ∷ runs) (sym cut)) in
    ap saturated (ap sum_of_terms is ∙ (sym (digits_and_more (byte ∷ digits) after more clean) ∙ (ap sum_of (sym is) ∙ ap sum_of same)))

-- nothing but blanks
pub sum-nothing : (text front : List ℕ) → pieces front ≡ pieces text → length front ≡ 0 → None ≡ saturated (sum_of (pieces text))
sum-nothing text [] same none = ap (λ runs. saturated (sum_of runs)) same
sum-nothing text (byte ∷ front) same none = absurd (omega (arith, none))
