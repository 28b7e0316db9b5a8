-- Where a text is trimmed.
use Rattle.std.proofs.Common.{◌≡◌, ℕ, zero, suc, ◌+◌, ◌-◌, ◌<◌, ◌≤◌, true, false, not, List, length, get_or, take, drop, refl, sym, ap, subst, ◌∙◌, arith}
use Rattle.std.proofs.lemmas.Bool.Decides.{nat_tests}
use Rattle.std.proofs.lemmas.List.Sums.{prefix_len_is, suffix_len_is}
use Rattle.std.specs.Str.{IsUtf8, IsCharBoundary}
use Rattle.std.proofs.lemmas.Str.{IsCharBoundary-after_ascii, IsCharBoundary-start}
use Rattle.ini_interp.specs.Lines.{is_blank, trimmed_start, trimmed_end}
use Rattle.jail_conf.specs.Words.{last_word_len}

-- the first byte that is no blank
pub trimmed_start_at : (text : List ℕ) (place : ℕ) → place ≤ length text → ((k : ℕ) → k < place → is_blank (get_or text k 0) ≡ true) →
    (place < length text → is_blank (get_or text place 0) ≡ false) → drop place text ≡ trimmed_start text
unfolding trimmed_start
trimmed_start_at text place within blanks stop = ap (λ n. drop n text) (sym (prefix_len_is is_blank text place 0 within blanks stop))

-- the last byte that is no blank
pub trimmed_end_at : (text : List ℕ) (end : ℕ) → end ≤ length text → ((k : ℕ) → end ≤ k → k < length text → is_blank (get_or text k 0) ≡ true) →
    (0 < end → is_blank (get_or text (end - 1) 0) ≡ false) → take end text ≡ trimmed_end text
unfolding trimmed_end
trimmed_end_at text end within blanks stop =
    let count = suffix_len_is is_blank text end 0 within blanks stop in
    ap (λ n. take n text) (omega (arith, count))

-- a blank is ASCII
pub blank_is_ascii : (byte : ℕ) → is_blank byte ≡ true → byte < 128
blank_is_ascii byte blank = grind (arith, nat_tests)

-- the last word of a line, and what stands before it
pub last_word_at : (line : List ℕ) (start : ℕ) → start ≤ length line → ((k : ℕ) → start ≤ k → k < length line → is_blank (get_or line k 0) ≡ false) →
    (0 < start → is_blank (get_or line (start - 1) 0) ≡ true) → last_word_len line ≡ length line - start
last_word_at line start within word stop =
    suffix_len_is (λ byte. not (is_blank byte)) line start 0 within (λ k from below. let no = word k from below in rw no refl) (λ some. let yes = stop some in rw yes refl)

pub word_place : (line : List ℕ) (start : ℕ) → start ≤ length line → ((k : ℕ) → start ≤ k → k < length line → is_blank (get_or line k 0) ≡ false) →
    (0 < start → is_blank (get_or line (start - 1) 0) ≡ true) → start ≡ length line - last_word_len line
word_place line start within word stop = let count = last_word_at line start within word stop in omega (arith, count)

-- where it begins a character does
pub word_boundary : (line : List ℕ) (start : ℕ) → IsUtf8 line → start ≤ length line → (0 < start → is_blank (get_or line (start - 1) 0) ≡ true) → IsCharBoundary line start
word_boundary line zero text within stop = IsCharBoundary-start line text
word_boundary line (suc n) text within stop =
    let at : suc n - 1 ≡ n = omega arith in
    let blank : is_blank (get_or line n 0) ≡ true = ap (λ k. is_blank (get_or line k 0)) (sym at) ∙ stop (omega arith) in
    let next : n + 1 ≡ suc n = omega arith in
    subst (IsCharBoundary line) next (IsCharBoundary-after_ascii line n text (omega arith) (blank_is_ascii _ blank))
