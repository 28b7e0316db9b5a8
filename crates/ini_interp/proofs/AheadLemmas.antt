-- The lines that are still to come.
use Rattle.std.proofs.Common.{◌≡◌, ℕ, zero, suc, ◌+◌, ◌==◌, ◌≤◌, Bool, true, false, is_none, cond, List, [], ◌∷◌, ◌++◌, length, map, drop, Option, None, Some, Ok, Err, refl, sym, ap, ap₂, subst, ne_eqb, ◌∙◌, add-one, arith}
use Rattle.std.proofs.lemmas.Bool.{false_from_ne_true}
use Rattle.std.proofs.lemmas.Option.{none-some}
use Rattle.std.proofs.lemmas.Str.{is_utf8-from_IsUtf8, IsUtf8-from_is_utf8}
use Rattle.std.specs.Iterator.{AlwaysYields}
use Rattle.std.specs.List.{slice_split, onto_first}
use Rattle.std.specs.Str.{IsUtf8, is_utf8}
use Rattle.std.specs.Str.Lines.{lines, lines_of_parts}
use Rattle.std.specs.Str.Lossy.{utf8_valid_len}
use Rattle.ini_interp.specs.declared.error.IniError.{IniError}
use Rattle.ini_interp.specs.declared.error.IniError.TheVariants.{NoSection, NoDelimiter, Indent, NotUtf8, NoMemory}
use Rattle.ini_interp.specs.Files.{fault, first_fault, or_else, meaning_of, unless_at_fault, sections_of, file_of, UnlessNoMemory, IsFirstIllFormed, entries, open_lines, open_section}
use Rattle.ini_interp.specs.Lines.{Form, Nothing, Opens, Continues, Sets, Broken, form_of}
use Rattle.ini_interp.proofs.Named.{some_value}

drop-suc : {A : Type 0} (k : ℕ) (xs : List A) → drop (suc k) xs ≡ drop 1 (drop k xs)
drop-suc zero xs = refl
drop-suc (suc k) [] = refl
drop-suc (suc k) (x ∷ xs) = drop-suc k xs

module _ {S A B : Type 0} (steps : S → Option A → S → Type 0) (v : A → B) where
  -- an item that comes is the first of those ahead
  pub next_is : (all : List B) (k : ℕ) (s t : S) (x : A) → AlwaysYields steps v s (drop k all) → steps s (Some x) t → drop k all ≡ v x ∷ drop (k + 1) all
  next_is all k s t x ahead step = by (drop k all) refl ahead
    where
      by : (rest : List B) → drop k all ≡ rest → AlwaysYields steps v s rest → rest ≡ v x ∷ drop (k + 1) all
      by [] is ahead = absurd (ahead x t step)
      by (y ∷ rest) is ahead = ap₂ (λ first more. first ∷ more) (sym (ahead.1 x t step).0) (sym (rw add-one (drop-suc k all ∙ ap (drop 1) is)))

  -- and the others are ahead of what is left
  pub rest_is : (all : List B) (k : ℕ) (s t : S) (x : A) → AlwaysYields steps v s (drop k all) → steps s (Some x) t → AlwaysYields steps v t (drop (k + 1) all)
  rest_is all k s t x ahead step = by (drop k all) refl ahead
    where
      by : (rest : List B) → drop k all ≡ rest → AlwaysYields steps v s rest → AlwaysYields steps v t (drop (k + 1) all)
      by [] is ahead = absurd (ahead x t step)
      by (y ∷ rest) is ahead =
          let more : rest ≡ drop (k + 1) all = sym (rw add-one (drop-suc k all ∙ ap (drop 1) is)) in
          subst (AlwaysYields steps v t) more (ahead.1 x t step).1

  -- at the end nothing is ahead
  pub none_ahead : (rest : List B) (s t : S) → AlwaysYields steps v s rest → steps s None t → rest ≡ []
  none_ahead [] s t ahead step = refl
  none_ahead (y ∷ rest) s t ahead step = absurd (ahead.0 t step)

-- a text has no more lines than bytes
length-onto_first : (b : ℕ) (parts : List (List ℕ)) (n : ℕ) → length (lines_of_parts parts) ≤ n → length (lines_of_parts (onto_first b parts)) ≤ suc n
length-onto_first b [] n short = omega arith
length-onto_first b (part ∷ []) n short =
    let one : lines_of_parts ((b ∷ part) ∷ []) ≡ (b ∷ part) ∷ [] = ap (λ t. cond t [] ((b ∷ part) ∷ [])) (ne_eqb (length (b ∷ part)) 0 (λ none. absurd (omega arith))) in
    rw one (omega arith)
length-onto_first b (part ∷ next ∷ parts) n short = omega arith

length-parts : (parts : List (List ℕ)) (n : ℕ) → length (lines_of_parts parts) ≤ n → length (lines_of_parts ([] ∷ parts)) ≤ suc n
length-parts [] n short = omega arith
length-parts (part ∷ parts) n short = omega arith

pub length-lines : (bytes : List ℕ) → length (lines bytes) ≤ length bytes
length-lines [] = omega arith
length-lines (b ∷ bytes) = by (b == 10) (length-lines bytes)
  where
    by : (t : Bool) → length (lines bytes) ≤ length bytes → length (lines_of_parts (cond t ([] ∷ slice_split (λ b. b == 10) bytes) (onto_first b (slice_split (λ b. b == 10) bytes)))) ≤ suc (length bytes)
    by true short = length-parts (slice_split (λ b. b == 10) bytes) (length bytes) short
    by false short = length-onto_first b (slice_split (λ b. b == 10) bytes) (length bytes) short

-- What a line means for those behind it.

-- a line without a fault is passed
pub fault_behind : (before rest : List Form) (line : Form) → fault before line ≡ None → first_fault before (line ∷ rest) ≡ first_fault (before ++ line ∷ []) rest
fault_behind before rest line none = ap (λ o. or_else o (first_fault (before ++ line ∷ []) rest)) none

-- a line with a fault is the first one
pub fault_here : (before rest : List Form) (line : Form) (error : IniError) → fault before line ≡ Some error → first_fault before (line ∷ rest) ≡ Some error
fault_here before rest line error is = ap (λ o. or_else o (first_fault (before ++ line ∷ []) rest)) is

pub meaning_at_fault : (lines : List Form) (error : IniError) → first_fault [] lines ≡ Some error → meaning_of lines ≡ Err error
unfolding meaning_of
meaning_at_fault lines error is = ap (unless_at_fault lines) is

pub meaning_sound : (lines : List Form) → first_fault [] lines ≡ None → meaning_of lines ≡ Ok (sections_of lines)
unfolding meaning_of
meaning_sound lines is = ap (unless_at_fault lines) is

-- what is said of an error goes with what follows from it
pub unless_weaker : {A B : Type 0} (error : IniError) → (A → B) → UnlessNoMemory error A → UnlessNoMemory error B
unless_weaker (NoSection line) then claim = then claim
unless_weaker (NoDelimiter line) then claim = then claim
unless_weaker (Indent line) then claim = then claim
unless_weaker (NotUtf8 at) then claim = then claim
unless_weaker NoMemory then claim = claim

-- a file that is UTF-8, and one that is not
pub file_text : (text bytes : List ℕ) → (text ≡ bytes) × IsUtf8 bytes → file_of bytes ≡ meaning_of (map form_of (lines text))
unfolding file_of
file_text text bytes is =
    ap (λ b. cond b (meaning_of (map form_of (lines bytes))) (Err (NotUtf8 (utf8_valid_len bytes)))) (is_utf8-from_IsUtf8 bytes is.1)
    ∙ ap (λ t. meaning_of (map form_of (lines t))) (sym is.0)

pub file_not_text : (bytes : List ℕ) → ¬ (IsUtf8 bytes) → file_of bytes ≡ Err (NotUtf8 (utf8_valid_len bytes))
unfolding file_of
file_not_text bytes no_text =
    ap (λ b. cond b (meaning_of (map form_of (lines bytes))) (Err (NotUtf8 (utf8_valid_len bytes))))
    (false_from_ne_true (is_utf8 bytes) (λ is. no_text (IsUtf8-from_is_utf8 bytes is)))

-- The faults of lines are no faults of bytes.

none_is_none : {A : Type 0} (test : Bool) (error other : A) → (error ≡ other → ⊥) → cond test (Some error) None ≡ Some other → ⊥
none_is_none true error other differ is = differ (some_value error other is)
none_is_none false error other differ is = none-some _ is

fault_of_line : (before : List Form) (line : Form) (place : ℕ) → fault before line ≡ Some (NotUtf8 place) → ⊥
fault_of_line before Nothing place is = none-some _ is
fault_of_line before (Opens section) place is = none-some _ is
fault_of_line before (Continues value) place is =
    none_is_none (length (entries (open_lines before)) == 0) (Indent (length before + 1)) (NotUtf8 place) (λ same. cc) is
fault_of_line before (Sets name value) place is = none_is_none (is_none (open_section before)) (NoSection (length before + 1)) (NotUtf8 place) (λ same. cc) is
fault_of_line before Broken place is = let same = some_value (NoDelimiter (length before + 1)) (NotUtf8 place) is in cc

first_of_line : (before rest : List Form) (place : ℕ) → first_fault before rest ≡ Some (NotUtf8 place) → ⊥
first_of_line before [] place is = none-some _ is
first_of_line before (line ∷ rest) place is = by (fault before line) refl is (first_of_line (before ++ line ∷ []) rest place)
  where
    by : (o : Option IniError) → fault before line ≡ o → or_else o (first_fault (before ++ line ∷ []) rest) ≡ Some (NotUtf8 place) →
        (first_fault (before ++ line ∷ []) rest ≡ Some (NotUtf8 place) → ⊥) → ⊥
    by None here is later = later is
    by (Some error) here is later = fault_of_line before line place (here ∙ is)

meaning_of_lines : (lines : List Form) (place : ℕ) → meaning_of lines ≡ Err (NotUtf8 place) → ⊥
unfolding meaning_of
meaning_of_lines lines place is = by (first_fault [] lines) refl is
  where
    by : (o : Option IniError) → first_fault [] lines ≡ o → unless_at_fault lines o ≡ Err (NotUtf8 place) → ⊥
    by None none is = cc
    by (Some error) here is = let same : error ≡ NotUtf8 place = cc in first_of_line [] lines place (here ∙ ap Some same)

-- so they say nothing of bytes
pub well_formed : (bytes : List ℕ) (lines : List Form) (error : IniError) → UnlessNoMemory error (meaning_of lines ≡ Err error) → IsFirstIllFormed bytes error
well_formed bytes lines (NoSection line) claim = tt
well_formed bytes lines (NoDelimiter line) claim = tt
well_formed bytes lines (Indent line) claim = tt
well_formed bytes lines (NotUtf8 place) claim = absurd (meaning_of_lines lines place claim)
well_formed bytes lines NoMemory claim = tt
