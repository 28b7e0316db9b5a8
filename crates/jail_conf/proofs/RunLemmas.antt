-- The runs of a time word, one after the other from the left.
use Rattle.std.proofs.Common.{◌≡◌, ℕ, suc, ◌+◌, ◌≤◌, Bool, true, false, cond, ◌&&◌, List, [], ◌∷◌, ◌++◌, length, take, drop, take_while, refl, sym, ap, ◌∙◌, arith}
use Rattle.std.specs.Char.{is_ascii_digit, is_ascii_alphabetic}
use Rattle.std.specs.List.{list_all, prefix_len}
use Rattle.std.proofs.lemmas.Bool.{and_parts}
use Rattle.std.proofs.lemmas.Bool.Decides.{nat_tests}
use Rattle.std.proofs.lemmas.List.{take-append-drop}
use Rattle.std.proofs.lemmas.List.Folds.{length-prefix_len}
use Rattle.std.proofs.lemmas.List.Sums.{prefix_len-le-length}
use Rattle.ini_interp.specs.Lines.{is_blank}
use Rattle.jail_conf.specs.Times.{Run, Digits, Letters, Gap, Stray, before_digits, before_letters, runs_of, without_gaps, pieces, with_digits, with_letters, begins_with}

-- a letter is no digit, and a blank is neither
letter_no_digit : (byte : ℕ) → is_ascii_alphabetic byte ≡ true → is_ascii_digit byte ≡ false
letter_no_digit byte letter = grind (arith, nat_tests, letter)

blank_no_digit : (byte : ℕ) → is_blank byte ≡ true → is_ascii_digit byte ≡ false
blank_no_digit byte blank = grind (arith, nat_tests, blank)

blank_no_letter : (byte : ℕ) → is_blank byte ≡ true → is_ascii_alphabetic byte ≡ false
blank_no_letter byte blank = grind (arith, nat_tests, blank)

-- ---- one byte before other runs

letters_first : (byte first : ℕ) (runs : List Run) → before_digits byte (before_letters first runs) ≡ Digits (byte ∷ []) ∷ before_letters first runs
letters_first byte first [] = refl
letters_first byte first (Digits text ∷ runs) = refl
letters_first byte first (Letters text ∷ runs) = refl
letters_first byte first (Gap ∷ runs) = refl
letters_first byte first (Stray ∷ runs) = refl

digits_first : (byte first : ℕ) (runs : List Run) → before_letters byte (before_digits first runs) ≡ Letters (byte ∷ []) ∷ before_digits first runs
digits_first byte first [] = refl
digits_first byte first (Digits text ∷ runs) = refl
digits_first byte first (Letters text ∷ runs) = refl
digits_first byte first (Gap ∷ runs) = refl
digits_first byte first (Stray ∷ runs) = refl

-- a digit before a text that begins with none is a run of its own
digit_alone : (byte : ℕ) (text : List ℕ) → begins_with is_ascii_digit text ≡ false → before_digits byte (runs_of text) ≡ Digits (byte ∷ []) ∷ runs_of text
digit_alone byte [] other = refl
digit_alone byte (first ∷ text) other = rw other (by (is_ascii_alphabetic first) (is_blank first))
  where
    runs : List Run
    runs = runs_of text

    by : (letter blank : Bool) → before_digits byte (cond letter (before_letters first runs) (cond blank (Gap ∷ runs) (Stray ∷ runs)))
        ≡ Digits (byte ∷ []) ∷ cond letter (before_letters first runs) (cond blank (Gap ∷ runs) (Stray ∷ runs))
    by true blank = letters_first byte first runs
    by false true = refl
    by false false = refl

-- and so is a letter
letter_alone : (byte : ℕ) (text : List ℕ) → begins_with is_ascii_alphabetic text ≡ false → before_letters byte (runs_of text) ≡ Letters (byte ∷ []) ∷ runs_of text
letter_alone byte [] other = refl
letter_alone byte (first ∷ text) other = rw other (by (is_ascii_digit first) (is_blank first))
  where
    runs : List Run
    runs = runs_of text

    by : (digit blank : Bool) → before_letters byte (cond digit (before_digits first runs) (cond blank (Gap ∷ runs) (Stray ∷ runs)))
        ≡ Letters (byte ∷ []) ∷ cond digit (before_digits first runs) (cond blank (Gap ∷ runs) (Stray ∷ runs))
    by true blank = digits_first byte first runs
    by false true = refl
    by false false = refl

-- ---- the bytes at the front as one run

digits_run : (byte : ℕ) (digits rest : List ℕ) → is_ascii_digit byte ≡ true → list_all is_ascii_digit digits ≡ true → begins_with is_ascii_digit rest ≡ false →
    runs_of (byte ∷ digits ++ rest) ≡ Digits (byte ∷ digits) ∷ runs_of rest
digits_run byte [] rest digit all ends = rw digit (digit_alone byte rest ends)
digits_run byte (next ∷ digits) rest digit all ends =
    let parts = and_parts _ _ all in
    rw digit (ap (before_digits byte) (digits_run next digits rest parts.0 parts.1 ends))

letters_run : (byte : ℕ) (letters rest : List ℕ) → is_ascii_alphabetic byte ≡ true → list_all is_ascii_alphabetic letters ≡ true → begins_with is_ascii_alphabetic rest ≡ false →
    runs_of (byte ∷ letters ++ rest) ≡ Letters (byte ∷ letters) ∷ runs_of rest
letters_run byte [] rest letter all ends = rw (letter_no_digit byte letter, letter) (letter_alone byte rest ends)
letters_run byte (next ∷ letters) rest letter all ends =
    let parts = and_parts _ _ all in
    rw (letter_no_digit byte letter, letter) (ap (before_letters byte) (letters_run next letters rest parts.0 parts.1 ends))

-- blanks at the front are left out
blanks_gone : (blanks rest : List ℕ) → list_all is_blank blanks ≡ true → pieces (blanks ++ rest) ≡ pieces rest
blanks_gone [] rest all = refl
blanks_gone (byte ∷ blanks) rest all =
    let parts = and_parts _ _ all in
    rw (blank_no_digit byte parts.0, blank_no_letter byte parts.0, parts.0) (blanks_gone blanks rest parts.1)

-- the digits, and the letters, of a text that is cut behind them
pub digits_cut : (digits rest : List ℕ) → list_all is_ascii_digit digits ≡ true → begins_with is_ascii_digit rest ≡ false →
    pieces (digits ++ rest) ≡ with_digits digits (pieces rest)
digits_cut [] rest all ends = refl
digits_cut (byte ∷ digits) rest all ends = let parts = and_parts _ _ all in ap without_gaps (digits_run byte digits rest parts.0 parts.1 ends)

pub letters_cut : (letters rest : List ℕ) → list_all is_ascii_alphabetic letters ≡ true → begins_with is_ascii_alphabetic rest ≡ false →
    pieces (letters ++ rest) ≡ with_letters letters (pieces rest)
letters_cut [] rest all ends = refl
letters_cut (byte ∷ letters) rest all ends = let parts = and_parts _ _ all in ap without_gaps (letters_run byte letters rest parts.0 parts.1 ends)

-- ---- where a text is cut

module _ (test : ℕ → Bool) where
  front_all : (text : List ℕ) → list_all test (take (prefix_len test text) text) ≡ true
  front_all [] = refl
  front_all (byte ∷ text) = by (front_all text) (test byte) refl
    where
      by : list_all test (take (prefix_len test text) text) ≡ true → (b : Bool) → test byte ≡ b → list_all test (take (cond b (1 + prefix_len test text) 0) (byte ∷ text)) ≡ true
      by all true is =
          let more : 1 + prefix_len test text ≡ suc (prefix_len test text) = omega arith in
          ap (λ n. list_all test (take n (byte ∷ text))) more ∙ (ap (λ b. b && list_all test (take (prefix_len test text) text)) is ∙ all)
      by all false is = refl

  front_ends : (text : List ℕ) → begins_with test (drop (prefix_len test text) text) ≡ false
  front_ends [] = refl
  front_ends (byte ∷ text) = by (front_ends text) (test byte) refl
    where
      by : begins_with test (drop (prefix_len test text) text) ≡ false → (b : Bool) → test byte ≡ b → begins_with test (drop (cond b (1 + prefix_len test text) 0) (byte ∷ text)) ≡ false
      by ends true is =
          let more : 1 + prefix_len test text ≡ suc (prefix_len test text) = omega arith in
          ap (λ n. begins_with test (drop n (byte ∷ text))) more ∙ ends
      by ends false is = is

  -- a cut behind the bytes at the front that pass
  pub cut_all : (text : List ℕ) (n : ℕ) → n ≡ length (take_while test text) → list_all test (take n text) ≡ true
  cut_all text n is = ap (λ k. list_all test (take k text)) (is ∙ length-prefix_len test text) ∙ front_all text

  pub cut_ends : (text : List ℕ) (n : ℕ) → n ≡ length (take_while test text) → begins_with test (drop n text) ≡ false
  cut_ends text n is = ap (λ k. begins_with test (drop k text)) (is ∙ length-prefix_len test text) ∙ front_ends text

  pub cut_within : (text : List ℕ) (n : ℕ) → n ≡ length (take_while test text) → n ≤ length text
  cut_within text n is = let within = prefix_len-le-length test text in rw (is ∙ length-prefix_len test text) within

-- blanks that are cut off change no run
pub behind_blanks_same : (text : List ℕ) (n : ℕ) → n ≡ length (take_while is_blank text) → pieces (drop n text) ≡ pieces text
behind_blanks_same text n is =
    sym (blanks_gone (take n text) (drop n text) (cut_all is_blank text n is)) ∙ ap pieces (take-append-drop n text)
