-- The text of bytes: a character at the front is kept, and a byte that begins none becomes U+FFFD.
use Rattle.std.proofs.Common.{ℕ, zero, suc, ◌≡◌, ◌==◌, ◌+◌, ◌-◌, ◌<◌, true, false, List, [], ◌∷◌, ◌++◌, length, take, drop, refl, sym, ap, ◌∙◌, arith, append_assoc, append-nil, length-append}
use Rattle.std.proofs.lemmas.Bool.{false_from_ne_true, and_parts, ne_eqb}
use Rattle.std.proofs.lemmas.List.{take-append-drop, take_at, length-take, length-drop, drop-drop}
use Rattle.std.proofs.lemmas.Str.{IsUtf8-from_is_utf8, is_utf8-from_IsUtf8, IsUtf8-encode, IsUtf8-append, encode_same, length-encode, len_utf8_bounds}
use lib.Utf8.{scalar, scalars, encode, encodes}
use Rattle.std.specs.Char.{IsScalar, len_utf8}
use Rattle.std.specs.Str.{IsUtf8, is_utf8, IsValidUpTo, StartsWithNoChar}
use Rattle.log_follow.specs.Decoded.{front_length, decoded_behind, decoded, replacement}

-- How long the sequence at the front is.

front_by : (bytes : List ℕ) (n : ℕ) → 0 < n → n < 5 → is_utf8 (take n bytes) ≡ true → ((j : ℕ) → 0 < j → j < n → is_utf8 (take j bytes) ≡ false) → front_length bytes ≡ n
unfolding front_length
front_by bytes zero some few whole shorter = absurd (omega arith)
front_by bytes (suc zero) some few whole shorter = rw whole refl
front_by bytes (suc (suc zero)) some few whole shorter = rw (shorter 1 (omega arith) (omega arith), whole) refl
front_by bytes (suc (suc (suc zero))) some few whole shorter = rw (shorter 1 (omega arith) (omega arith), shorter 2 (omega arith) (omega arith), whole) refl
front_by bytes (suc (suc (suc (suc zero)))) some few whole shorter =
    rw (shorter 1 (omega arith) (omega arith), shorter 2 (omega arith) (omega arith), shorter 3 (omega arith) (omega arith), whole) refl
front_by bytes (suc (suc (suc (suc (suc n))))) some few whole shorter = absurd (omega arith)

no_front_by : (bytes : List ℕ) → ((j : ℕ) → 0 < j → is_utf8 (take j bytes) ≡ false) → front_length bytes ≡ 0
unfolding front_length
no_front_by bytes none = rw (none 1 (omega arith), none 2 (omega arith), none 3 (omega arith), none 4 (omega arith)) refl

-- fewer bytes than a character has are no text
short_utf8 : (c : ℕ) (rest cs : List ℕ) (j : ℕ) → 0 < j → j < length (encode c) → (encodes cs ≡ take j (encode c ++ rest)) → ⊥
short_utf8 c rest [] j some few is =
    let count : length (take j (encode c ++ rest)) ≡ 0 = sym (ap length is) in
    omega (arith, count, length-take j (encode c ++ rest), length-append (encode c) rest)
short_utf8 c rest (d ∷ ds) j some few is =
    let whole : encode d ++ (encodes ds ++ drop j (encode c ++ rest)) ≡ encode c ++ rest =
    sym (append_assoc (encode d) (encodes ds) (drop j (encode c ++ rest)))
    ∙ ap (λ (front : List ℕ). front ++ drop j (encode c ++ rest)) is
    ∙ take-append-drop j (encode c ++ rest) in
    let same : d ≡ c = (encode_same d c (encodes ds ++ drop j (encode c ++ rest)) rest whole).0 in
    omega (arith, ap (λ (x : ℕ). length (encode x)) same, ap length is, length-append (encode d) (encodes ds), length-take j (encode c ++ rest))

front_char : (c : ℕ) (rest : List ℕ) → IsScalar c → front_length (encode c ++ rest) ≡ length (encode c)
front_char c rest is =
    let bounds = len_utf8_bounds c in
    let count : length (encode c) ≡ len_utf8 c = length-encode c in
    let whole : take (length (encode c)) (encode c ++ rest) ≡ encode c = take_at (encode c) rest (length (encode c)) refl in
    front_by (encode c ++ rest) (length (encode c)) (omega (arith, bounds.0, count)) (omega (arith, bounds.1, count))
    (ap is_utf8 whole ∙ is_utf8-from_IsUtf8 (encode c) (IsUtf8-encode c is))
    (λ j some few. false_from_ne_true (is_utf8 (take j (encode c ++ rest))) (λ yes. let text = IsUtf8-from_is_utf8 (take j (encode c ++ rest)) yes in short_utf8 c rest text.0 j some few text.1.1))

-- where no character stands at the front
none_text : (byte : ℕ) (bytes cs : List ℕ) (j : ℕ) → 0 < j → StartsWithNoChar (byte ∷ bytes) → scalars cs ≡ true → encodes cs ≡ take j (byte ∷ bytes) → ⊥
none_text byte bytes [] j some none valid is =
    let count : length (take j (byte ∷ bytes)) ≡ 0 = sym (ap length is) in omega (arith, count, length-take j (byte ∷ bytes))
none_text byte bytes (c ∷ cs) j some none valid is =
    none c (encodes cs ++ drop j (byte ∷ bytes)) (and_parts (scalar c) (scalars cs) valid).0
    (sym (take-append-drop j (byte ∷ bytes))
    ∙ ap (λ (front : List ℕ). front ++ drop j (byte ∷ bytes)) (sym is)
    ∙ append_assoc (encode c) (encodes cs) (drop j (byte ∷ bytes)))

front_none : (byte : ℕ) (bytes : List ℕ) → StartsWithNoChar (byte ∷ bytes) → front_length (byte ∷ bytes) ≡ 0
front_none byte bytes none =
    no_front_by (byte ∷ bytes)
    (λ j some. false_from_ne_true (is_utf8 (take j (byte ∷ bytes))) (λ yes. let text = IsUtf8-from_is_utf8 (take j (byte ∷ bytes)) yes in none_text byte bytes text.0 j some none text.1.0 text.1.1))

-- The text.

behind-front : (front rest : List ℕ) → decoded_behind (length front) (front ++ rest) ≡ front ++ decoded_behind zero rest
behind-front [] rest = refl
behind-front (byte ∷ front) rest = ap (λ (text : List ℕ). byte ∷ text) (behind-front front rest)

first-kept : (byte : ℕ) (bytes : List ℕ) (n : ℕ) → front_length (byte ∷ bytes) ≡ suc n → decoded_behind zero (byte ∷ bytes) ≡ byte ∷ decoded_behind n bytes
first-kept byte bytes n is =
    let left : suc n - 1 ≡ n = omega arith in
    let some : (suc n == 0) ≡ false = ne_eqb (suc n) 0 (omega arith) in
    rw (is, some) (ap (λ (k : ℕ). byte ∷ decoded_behind k bytes) left)

front-kept : (front rest : List ℕ) → 0 < length front → front_length (front ++ rest) ≡ length front → decoded_behind zero (front ++ rest) ≡ front ++ decoded_behind zero rest
front-kept [] rest some is = absurd (omega arith)
front-kept (byte ∷ front) rest some is = first-kept byte (front ++ rest) (length front) is ∙ ap (λ (text : List ℕ). byte ∷ text) (behind-front front rest)

pub decoded-none : decoded [] ≡ []
unfolding decoded
decoded-none = refl

-- a character is kept
pub decoded-char : (c : ℕ) (rest : List ℕ) → IsScalar c → decoded (encode c ++ rest) ≡ encode c ++ decoded rest
unfolding decoded
decoded-char c rest is = let bounds = len_utf8_bounds c in front-kept (encode c) rest (omega (arith, bounds.0, length-encode c)) (front_char c rest is)

-- a byte that begins no character becomes U+FFFD
pub decoded-other : (byte : ℕ) (bytes : List ℕ) → StartsWithNoChar (byte ∷ bytes) → decoded (byte ∷ bytes) ≡ replacement ++ decoded bytes
unfolding decoded
decoded-other byte bytes none = rw (front_none byte bytes none) refl

-- text is kept
decoded-chars : (cs rest : List ℕ) → scalars cs ≡ true → decoded (encodes cs ++ rest) ≡ encodes cs ++ decoded rest
decoded-chars [] rest valid = refl
decoded-chars (c ∷ cs) rest valid =
    let parts = and_parts (scalar c) (scalars cs) valid in
    ap decoded (append_assoc (encode c) (encodes cs) rest)
    ∙ decoded-char c (encodes cs ++ rest) parts.0
    ∙ ap (λ (text : List ℕ). encode c ++ text) (decoded-chars cs rest parts.1)
    ∙ sym (append_assoc (encode c) (encodes cs) (decoded rest))

pub decoded-text : (text rest : List ℕ) → IsUtf8 text → decoded (text ++ rest) ≡ text ++ decoded rest
decoded-text text rest is =
    ap (λ (front : List ℕ). decoded (front ++ rest)) (sym is.1.1)
    ∙ decoded-chars is.0 rest is.1.0
    ∙ ap (λ (front : List ℕ). front ++ decoded rest) is.1.1

pub decoded_text : (text : List ℕ) → IsUtf8 text → decoded text ≡ text
decoded_text text is =
    ap decoded (sym (append-nil text)) ∙ decoded-text text [] is ∙ ap (λ (back : List ℕ). text ++ back) decoded-none ∙ append-nil text

-- What a search for the first fault gives.

-- no character stands behind the longest front that is text
no_char_behind : (bytes : List ℕ) (n : ℕ) → IsValidUpTo bytes n → StartsWithNoChar (drop n bytes)
no_char_behind bytes n valid = λ c rest is same.
    let bounds = len_utf8_bounds c in
    let whole : bytes ≡ (take n bytes ++ encode c) ++ rest =
    sym (take-append-drop n bytes) ∙ ap (λ (back : List ℕ). take n bytes ++ back) same ∙ sym (append_assoc (take n bytes) (encode c) rest) in
    let count : length (take n bytes ++ encode c) ≡ n + length (encode c) = omega (arith, length-append (take n bytes) (encode c), length-take n bytes, valid.short) in
    let front : take (n + length (encode c)) bytes ≡ take n bytes ++ encode c =
    ap (λ (b : List ℕ). take (n + length (encode c)) b) whole ∙ take_at (take n bytes ++ encode c) rest (n + length (encode c)) count in
    let text : IsUtf8 (take n bytes ++ encode c) = IsUtf8-append (take n bytes) (encode c) valid.front (IsUtf8-encode c is) in
    let longer : n < n + length (encode c) = omega (arith, bounds.0, length-encode c) in
    valid.longest (n + length (encode c)) longer (rw front text)

first_other : (bytes rest : List ℕ) → StartsWithNoChar bytes → 0 < length bytes → rest ≡ drop 1 bytes → decoded bytes ≡ replacement ++ decoded rest
first_other [] rest none some is = absurd (omega arith)
first_other (byte ∷ bytes) rest none some is = decoded-other byte bytes none ∙ ap (λ (b : List ℕ). replacement ++ decoded b) (sym is)

drop-next : (n : ℕ) (bytes : List ℕ) → drop (n + 1) bytes ≡ drop 1 (drop n bytes)
drop-next n bytes = sym (drop-drop 1 n bytes)

-- the text up to the first fault, U+FFFD, and the text behind the byte at fault
pub decoded-fault : (bytes : List ℕ) (n : ℕ) → IsValidUpTo bytes n → decoded bytes ≡ take n bytes ++ (replacement ++ decoded (drop (n + 1) bytes))
decoded-fault bytes n valid =
    ap decoded (sym (take-append-drop n bytes))
    ∙ decoded-text (take n bytes) (drop n bytes) valid.front
    ∙ ap (λ (text : List ℕ). take n bytes ++ text)
    (first_other (drop n bytes) (drop (n + 1) bytes) (no_char_behind bytes n valid) (omega (arith, length-drop n bytes, valid.short)) (drop-next n bytes))

-- one fault more: the text so far and that of the bytes behind it are the whole text
pub fault_step : (text pushed next all rest more part : List ℕ) (m n : ℕ) → m ≡ n → IsValidUpTo rest n → text ++ decoded rest ≡ all → part ≡ take m rest → pushed ≡ text ++ part
    → next ≡ pushed ++ replacement → more ≡ drop (m + 1) rest → next ++ decoded more ≡ all
fault_step text pushed next all rest more part m n same valid before front first second behind =
    ap (λ (t : List ℕ). t ++ decoded more) (second ∙ ap (λ (t : List ℕ). t ++ replacement) (first ∙ ap (λ (t : List ℕ). text ++ t) (front ∙ ap (λ (k : ℕ). take k rest) same)))
    ∙ append_assoc (text ++ take n rest) replacement (decoded more)
    ∙ append_assoc text (take n rest) (replacement ++ decoded more)
    ∙ ap (λ (b : List ℕ). text ++ (take n rest ++ (replacement ++ decoded b))) (behind ∙ ap (λ (k : ℕ). drop (k + 1) rest) same)
    ∙ ap (λ (t : List ℕ). text ++ t) (sym (decoded-fault rest n valid))
    ∙ before
