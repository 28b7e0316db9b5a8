-- The bounds of names and times that words spell.
use Rattle.std.proofs.Common.{◌≡◌, ◌≢◌, ℕ, zero, suc, ◌<◌, ◌≤◌, ◌==◌, Bool, true, false, cond, ◌&&◌, nat_le, List, [], ◌∷◌, length, None, Some, option_map, ℤ, pos, negsuc, int_le, unsigned_abs, refl, subst, arith}
use Rattle.std.specs.Prelude.{neg_ℤ}
use Rattle.std.specs.Char.{is_ascii_digit}
use Rattle.std.specs.List.{list_all}
use Rattle.std.proofs.NetLemmas.Options.{cond_some, and_then_some, map_some}
use Rattle.std.proofs.lemmas.Bool.{leb-true}
use Rattle.std.proofs.lemmas.Bool.Decides.{nat_tests}
use Rattle.std.proofs.lemmas.Option.{none-some}
use Rattle.f2b_model.specs.Storable.{longest_span, IsBase, IsJailName, IsSpanOfTime}
use Rattle.f2b_model.specs.Storable as model
use Rattle.ini_interp.specs.Lines.{trimmed}
use Rattle.jail_conf.specs.Jails.{is_jail_name, is_name_byte}
use Rattle.jail_conf.specs.Times.{if_not_too_long, magnitude, most_seconds, negated, pieces, signed, sum_of, time_word}

-- ---- names

both_hold : (x y : Bool) → (x && y) ≡ true → (x ≡ true) × (y ≡ true)
both_hold true y is = (refl, is)
both_hold false y is = absurd (cc)

same_byte : (byte : ℕ) → is_name_byte byte ≡ true → model.is_name_byte byte ≡ true
same_byte byte is = grind (arith, nat_tests, is)

same_bytes : (name : List ℕ) → list_all is_name_byte name ≡ true → list_all model.is_name_byte name ≡ true
same_bytes [] is = is
same_bytes (byte ∷ name) is =
    let parts = both_hold (is_name_byte byte) (list_all is_name_byte name) is in
    rw (same_byte byte parts.0) (same_bytes name parts.1)

pub name_is : (name : List ℕ) → is_jail_name name ≡ true → IsJailName name
name_is name is =
    let long = both_hold (nat_le 1 (length name)) (nat_le (length name) 64 && list_all is_name_byte name) is in
    let short = both_hold (nat_le (length name) 64) (list_all is_name_byte name) long.1 in
    record { long = (leb-true 1 (length name) long.0, leb-true (length name) 64 short.0); bytes = same_bytes name short.1 }

-- ---- times

-- no more than a hundred years, either way
abbrev pub IsTimeWord : ℤ → Type 0
IsTimeWord (pos seconds) = seconds ≤ longest_span
IsTimeWord (negsuc n) = n < longest_span

magnitude_is : (text : List ℕ) (n : ℕ) → magnitude text ≡ Some n → n ≤ longest_span
magnitude_is text n is =
    and_then_some if_not_too_long (sum_of (pieces text)) n is
    (λ m there fits. (let found = cond_some (nat_le m most_seconds) m n fits in subst (λ k. k ≤ longest_span) found.1 (leb-true m most_seconds found.0)))

negative_is : (seconds : ℕ) → seconds ≤ longest_span → IsTimeWord (neg_ℤ (pos seconds))
negative_is zero below = below
negative_is (suc n) below = omega (arith, below)

negated_is : (text : List ℕ) (word : ℤ) → negated text ≡ Some word → IsTimeWord word
negated_is [] word is = absurd (none-some word is)
negated_is (byte ∷ text) word is = by (is_ascii_digit byte) is
  where
    by : (digit : Bool) → cond digit (option_map (λ seconds. neg_ℤ (pos seconds)) (magnitude (byte ∷ text))) None ≡ Some word → IsTimeWord word
    by true is =
        map_some (λ seconds. neg_ℤ (pos seconds)) (magnitude (byte ∷ text)) word is
        (λ seconds there same. subst IsTimeWord same (negative_is seconds (magnitude_is (byte ∷ text) seconds there)))
    by false is = absurd (none-some word is)

signed_is : (text : List ℕ) (word : ℤ) → signed text ≡ Some word → IsTimeWord word
signed_is [] word is = absurd (none-some word is)
signed_is (byte ∷ text) word is = by (byte == 45) is
  where
    by : (minus : Bool) → cond minus (negated text) (option_map pos (magnitude (byte ∷ text))) ≡ Some word → IsTimeWord word
    by true is = negated_is text word is
    by false is =
        map_some pos (magnitude (byte ∷ text)) word is (λ seconds there same. subst IsTimeWord same (magnitude_is (byte ∷ text) seconds there))

pub time_word_is : (text : List ℕ) (word : ℤ) → time_word text ≡ Some word → IsTimeWord word
unfolding time_word
time_word_is text word is = signed_is (trimmed text) word is

pub span_is : (secs : ℤ) → IsTimeWord secs → int_le (pos 1) secs ≡ true → IsSpanOfTime (unsigned_abs secs)
span_is (pos n) below from = (leb-true 1 n from, below)
span_is (negsuc n) below from = absurd (let e : false ≡ true = from in cc)

pub base_is : (secs : ℤ) → IsTimeWord secs → secs ≢ pos 0 → IsBase secs
base_is (pos zero) below some = absurd (some refl)
base_is (pos (suc n)) below some = (omega arith, below)
base_is (negsuc n) below some = below
