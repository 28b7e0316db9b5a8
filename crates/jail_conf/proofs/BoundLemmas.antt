-- The bounds of values, by how their texts are read.
use Rattle.std.proofs.Common.{◌≡◌, ℕ, zero, suc, ◌+◌, ◌*◌, ◌%◌, ◌<◌, ◌≤◌, ◌==◌, Bool, true, false, cond, ◌&&◌, nat_le, nat_lt, List, [], ◌∷◌, length, take, drop, Option, None, Some, option_and_then, option_map, Result, Ok, Err, ℤ, pos, negsuc, refl, subst, ap, arith}
use Rattle.std.specs.Prelude.{neg_ℤ, codes, nat_eq}
use Rattle.std.specs.Char.{is_ascii_digit}
use Rattle.std.specs.List.{starts_with}
use Rattle.std.specs.Str.{bytes_eq}
use Rattle.std.proofs.NetLemmas.Options.{cond_some, and_then_some, map_some}
use Rattle.std.proofs.lemmas.Bool.{leb-true}
use Rattle.std.proofs.lemmas.Bool.Decides.{nat_tests}
use Rattle.std.proofs.lemmas.Option.{none-some}
use Rattle.f2b_model.specs.Lists.{AllOf}
use Rattle.f2b_model.specs.Storable.{IsBase, IsWithin, IsZone, longest_span}
use Rattle.ini_interp.specs.Lines.{trimmed}
use Rattle.jail_conf.specs.declared.conf_error.ConfKind.{ConfKind}
use Rattle.jail_conf.specs.declared.conf_error.ConfKind.TheVariants.{BadNumber, BadTime, BadZone}
use Rattle.jail_conf.specs.Numbers.{factor, most_multipliers, multipliers, number_between, number_dividers, thousandths}
use Rattle.jail_conf.specs.Then.{◌>>=◌, ◌>>◌, refuse_if, or_refuse, each}
use Rattle.jail_conf.specs.Times.{counted, counted_seconds, if_not_too_long, is_zero, jitter, magnitude, most_seconds, negated, pieces, seconds_from, signed, span, sum_of, time_word}
use Rattle.jail_conf.specs.Words.{if_between, if_from, number, words_by}
use Rattle.jail_conf.specs.Zones.{behind_name, hours, minutes, offset, seconds_of, zone, zone_of}
use Rattle.jail_conf.proofs.GoodLemmas.{bind_ok, then_ok, was_not_refused}

-- ---- results

pub both_hold : (x y : Bool) → (x && y) ≡ true → (x ≡ true) × (y ≡ true)
both_hold true y is = (refl, is)
both_hold false y is = absurd (cc)

-- what is not refused was there
pub was_there : {A E : Type 0} (refusal : E) (o : Option A) (x : A) → or_refuse refusal o ≡ Ok x → o ≡ Some x
was_there refusal None x is = absurd (cc)
was_there refusal (Some y) x is = let same : y ≡ x = cc is in ap Some same

-- what comes behind comes only where the first was not refused
pub first_ok : {A B E : Type 0} (first : Result A E) (next : Result B E) (value : B) → (first >> next) ≡ Ok value → (x : A) × (first ≡ Ok x)
first_ok (Ok x) next value is = (x, refl)
first_ok (Err refusal) next value is = absurd (cc)

module _ {X A E : Type 0} (P : A → Type 0) (read : X → Result A E) (good : (x : X) (value : A) → read x ≡ Ok value → P value) where
  -- it holds of each that is read
  pub each_good : (xs : List X) (values : List A) → each read xs ≡ Ok values → AllOf P values
  each_good [] [] is = tt
  each_good [] (value ∷ values) is = absurd (cc)
  each_good (x ∷ xs) values is =
      let first = bind_ok (read x) (λ value. each read xs >>= (λ others. Ok (value ∷ others))) values is in
      let rest = bind_ok (each read xs) (λ others. Ok (first.0 ∷ others)) values first.2 in
      let same : first.0 ∷ rest.0 ≡ values = cc rest.2 in
      subst (AllOf P) same (good x first.0 first.1, each_good xs rest.0 rest.1)

-- one for each
pub each_length : {X A E : Type 0} (read : X → Result A E) (xs : List X) (values : List A) → each read xs ≡ Ok values → length values ≡ length xs
each_length read [] [] is = refl
each_length read [] (value ∷ values) is = absurd (cc)
each_length read (x ∷ xs) values is =
    let first = bind_ok (read x) (λ value. each read xs >>= (λ others. Ok (value ∷ others))) values is in
    let rest = bind_ok (each read xs) (λ others. Ok (first.0 ∷ others)) values first.2 in
    let same : first.0 ∷ rest.0 ≡ values = cc rest.2 in
    let others : length rest.0 ≡ length xs = each_length read xs rest.0 rest.1 in
    subst (λ all. length all ≡ length (x ∷ xs)) same (omega (arith, others))

-- ---- numbers

if_between_is : (least most m n : ℕ) → if_between least most m ≡ Some n → IsWithin least most n
if_between_is least most m n is =
    let found = cond_some (nat_le least m && nat_le m most) m n is in
    let parts = both_hold (nat_le least m) (nat_le m most) found.0 in
    subst (IsWithin least most) found.1 (leb-true least m parts.0, leb-true m most parts.1)

among : (refusal : ConfKind) (least most : ℕ) (given : Option ℕ) (n : ℕ) → or_refuse refusal (option_and_then (if_between least most) given) ≡ Ok n →
    IsWithin least most n
among refusal least most given n is =
    and_then_some (if_between least most) given n (was_there refusal (option_and_then (if_between least most) given) n is)
    (λ m there within. if_between_is least most m n within)

pub number_is_within : (least most : ℕ) (text : List ℕ) (n : ℕ) → number_between least most text ≡ Ok n → IsWithin least most n
number_is_within least most text n is = among BadNumber least most (number (trimmed text)) n is

pub factor_is : (text : List ℕ) (n : ℕ) → factor text ≡ Ok n → IsWithin 1 1_000_000 n
factor_is text n is = among BadNumber 1 1_000_000 (thousandths (trimmed text)) n is

pub record AreGoodMultipliers (all : List ℕ) : Type 0 where
  pub each : AllOf (IsWithin 1 1_000_000) all
  pub few : length all ≤ 64

pub multipliers_are : (text : List ℕ) (all : List ℕ) → multipliers text ≡ Ok all → AreGoodMultipliers all
multipliers_are text all is =
    let words = words_by number_dividers text in
    let many : nat_lt most_multipliers (length words) ≡ false =
    was_not_refused (nat_lt most_multipliers (length words)) BadNumber (each (number_between 1 1_000_000) words) all is in
    let read = then_ok (refuse_if (nat_lt most_multipliers (length words)) BadNumber) _ all is in
    let same : length all ≡ length words = each_length (number_between 1 1_000_000) words all read in
    let below : length words ≤ 64 = grind (arith, nat_tests, many) in
    record {
      each = each_good (IsWithin 1 1_000_000) (number_between 1 1_000_000) (number_is_within 1 1_000_000) words all read;
      few = omega (arith, same, below);
    }

-- ---- times

-- no more than a hundred years, either way
abbrev pub IsTimeWord : ℤ → Type 0
IsTimeWord (pos seconds) = seconds ≤ longest_span
IsTimeWord (negsuc n) = n < longest_span

magnitude_is : (text : List ℕ) (n : ℕ) → magnitude text ≡ Some n → n ≤ longest_span
magnitude_is text n is =
    and_then_some if_not_too_long (sum_of (pieces text)) n is
    (λ m there fits. (let found = cond_some (nat_le m most_seconds) m n fits in subst (λ k. k ≤ longest_span) found.1 (leb-true m most_seconds found.0)))

negative_is : (seconds : ℕ) → seconds ≤ longest_span → IsTimeWord (neg_ℤ (pos seconds))
negative_is zero below = below
negative_is (suc n) below = omega (arith, below)

negated_is : (text : List ℕ) (word : ℤ) → negated text ≡ Some word → IsTimeWord word
negated_is [] word is = absurd (none-some word is)
negated_is (byte ∷ text) word is = by (is_ascii_digit byte) is
  where
    by : (digit : Bool) → cond digit (option_map (λ seconds. neg_ℤ (pos seconds)) (magnitude (byte ∷ text))) None ≡ Some word → IsTimeWord word
    by true is =
        map_some (λ seconds. neg_ℤ (pos seconds)) (magnitude (byte ∷ text)) word is
        (λ seconds there same. subst IsTimeWord same (negative_is seconds (magnitude_is (byte ∷ text) seconds there)))
    by false is = absurd (none-some word is)

signed_is : (text : List ℕ) (word : ℤ) → signed text ≡ Some word → IsTimeWord word
signed_is [] word is = absurd (none-some word is)
signed_is (byte ∷ text) word is = by (byte == 45) is
  where
    by : (minus : Bool) → cond minus (negated text) (option_map pos (magnitude (byte ∷ text))) ≡ Some word → IsTimeWord word
    by true is = negated_is text word is
    by false is =
        map_some pos (magnitude (byte ∷ text)) word is (λ seconds there same. subst IsTimeWord same (magnitude_is (byte ∷ text) seconds there))

time_word_is : (text : List ℕ) (word : ℤ) → time_word text ≡ Some word → IsTimeWord word
unfolding time_word
time_word_is text word is = signed_is (trimmed text) word is

counted_is : (word : ℤ) (n : ℕ) → IsTimeWord word → counted word ≡ Some n → n ≤ longest_span
counted_is (pos seconds) n below is = let same : seconds ≡ n = cc is in subst (λ k. k ≤ longest_span) same below
counted_is (negsuc m) n below is = absurd (none-some n is)

pub seconds_are : (least : ℕ) (text : List ℕ) (n : ℕ) → seconds_from least text ≡ Ok n → IsWithin least longest_span n
seconds_are least text n is =
    and_then_some (if_from least) (counted_seconds text) n (was_there BadTime (option_and_then (if_from least) (counted_seconds text)) n is)
    (λ m there from.
    (let found = cond_some (nat_le least m) m n from in
    let below : m ≤ longest_span =
    and_then_some counted (time_word text) m there (λ word read seconds. counted_is word m (time_word_is text word read) seconds) in
    subst (IsWithin least longest_span) found.1 (leb-true least m found.0, below)))

base_is : (word : ℤ) → IsTimeWord word → is_zero word ≡ false → IsBase word
base_is (pos seconds) below some = (grind (arith, nat_tests, some), below)
base_is (negsuc n) below some = below

pub span_is : (text : List ℕ) (word : ℤ) → span text ≡ Ok word → IsBase word
span_is text word is =
    let read = bind_ok (or_refuse BadTime (time_word text)) (λ word. refuse_if (is_zero word) BadTime >> Ok word) word is in
    let some : is_zero read.0 ≡ false = was_not_refused (is_zero read.0) BadTime (Ok read.0) word read.2 in
    let kept = then_ok (refuse_if (is_zero read.0) BadTime) (Ok read.0) word read.2 in
    let same : read.0 ≡ word = cc kept in
    subst IsBase same (base_is read.0 (time_word_is text read.0 (was_there BadTime (time_word text) read.0 read.1)) some)

pub jitter_is : (text : List ℕ) (n : ℕ) → jitter text ≡ Ok n → n ≤ 1_000_000
jitter_is text n is =
    let read = bind_ok (or_refuse BadTime (time_word text)) (λ word. or_refuse BadNumber (option_and_then (if_between 0 1_000_000) (counted word))) n is in
    (among BadNumber 0 1_000_000 (counted read.0) n read.2).1

-- ---- zones

abbrev IsOffset : ℕ → Type 0
IsOffset seconds = (seconds % 60 ≡ 0) × (seconds < 86_400)

seconds_of_is : (h m : Option ℕ) (n : ℕ) → ((k : ℕ) → h ≡ Some k → k ≤ 23) → ((k : ℕ) → m ≡ Some k → k ≤ 59) → seconds_of h m ≡ Some n → IsOffset n
seconds_of_is None m n few some is = absurd (none-some n is)
seconds_of_is (Some h) None n few some is = absurd (none-some n is)
seconds_of_is (Some h) (Some m) n few some is =
    let same : h * 3_600 + m * 60 ≡ n = cc is in
    let day : h ≤ 23 = few h refl in
    let hour : m ≤ 59 = some m refl in
    subst IsOffset same (omega arith, omega (arith, day, hour))

part_is : (most : ℕ) (given : Option ℕ) (n : ℕ) → option_and_then (if_between 0 most) given ≡ Some n → n ≤ most
part_is most given n is = and_then_some (if_between 0 most) given n is (λ m there within. (if_between_is 0 most m n within).1)

offset_is : (digits : List ℕ) (n : ℕ) → offset digits ≡ Some n → IsOffset n
offset_is digits n is = by (length digits == 4) is
  where
    by : (four : Bool) → cond four (seconds_of (hours digits) (minutes digits)) None ≡ Some n → IsOffset n
    by true is = seconds_of_is (hours digits) (minutes digits) n (part_is 23 (number (take 2 digits))) (part_is 59 (number (drop 2 digits))) is
    by false is = absurd (none-some n is)

west_is : (seconds : ℕ) → IsOffset seconds → IsZone (neg_ℤ (pos seconds))
west_is zero offset = offset
west_is (suc n) offset = (let whole = offset.0 in omega (arith, whole), let day = offset.1 in omega (arith, day))

behind_name_is : (text : List ℕ) (ahead : ℤ) → behind_name text ≡ Some ahead → IsZone ahead
behind_name_is [] ahead is = let same : pos 0 ≡ ahead = cc is in subst IsZone same (refl, omega arith)
behind_name_is (sign ∷ digits) ahead is = by (sign == 43) (sign == 45) is
  where
    by : (plus minus : Bool) → cond plus (option_map pos (offset digits)) (cond minus (option_map (λ seconds. neg_ℤ (pos seconds)) (offset digits)) None) ≡ Some ahead →
        IsZone ahead
    by true minus is = map_some pos (offset digits) ahead is (λ seconds there same. subst IsZone same (offset_is digits seconds there))
    by false true is =
        map_some (λ seconds. neg_ℤ (pos seconds)) (offset digits) ahead is (λ seconds there same. subst IsZone same (west_is seconds (offset_is digits seconds there)))
    by false false is = absurd (none-some ahead is)

zone_of_is : (text : List ℕ) (ahead : ℤ) → zone_of text ≡ Some ahead → IsZone ahead
zone_of_is text ahead is = by (bytes_eq text (codes "Z")) (starts_with nat_eq text (codes "UTC")) (starts_with nat_eq text (codes "GMT")) is
  where
    by : (z utc gmt : Bool) → cond z (Some (pos 0)) (cond utc (behind_name (drop 3 text)) (cond gmt (behind_name (drop 3 text)) None)) ≡ Some ahead → IsZone ahead
    by true utc gmt is = let same : pos 0 ≡ ahead = cc is in subst IsZone same (refl, omega arith)
    by false true gmt is = behind_name_is (drop 3 text) ahead is
    by false false true is = behind_name_is (drop 3 text) ahead is
    by false false false is = absurd (none-some ahead is)

pub zone_is : (text : List ℕ) (ahead : ℤ) → zone text ≡ Ok ahead → IsZone ahead
zone_is text ahead is = zone_of_is (trimmed text) ahead (was_there BadZone (zone_of (trimmed text)) ahead is)
