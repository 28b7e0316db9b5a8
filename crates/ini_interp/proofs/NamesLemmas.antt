-- Names of files, and the lines on which they stand.
use Rattle.std.proofs.Common.{◌≡◌, ◌≢◌, ℕ, zero, suc, ◌+◌, ◌<◌, ◌≤◌, Bool, true, false, cond, not, ◌||◌, List, [], ◌∷◌, ◌++◌, length, take, get_or, Option, None, Some, refl, sym, ap, ◌∙◌, arith}
use Rattle.std.specs.List.{list_any, position_or_len, slice_split, onto_first, before_first, after_first}
use Rattle.std.proofs.lemmas.Bool.{ne_eqb}
use Rattle.std.proofs.lemmas.List.Splits.{slice_split_first}
use lib.Dec.{eqb}
use mathlib.Core.Bool.{or-true}
use Rattle.ini_interp.specs.Values.{is_slash}
use Rattle.ini_interp.specs.Merges.{directory, is_newline}

-- no slash stands in the name
pub no_slash : (name : List ℕ) → ((i : ℕ) → i < length name → get_or name i 0 ≢ 47) → list_any is_slash name ≡ false
no_slash [] none = refl
no_slash (x ∷ name) none =
    ap (λ (b : Bool). b || list_any is_slash name) (ne_eqb x 47 (none 0 (omega arith))) ∙ no_slash name (λ i h. none (suc i) (omega arith))

pub directory-none : (path : List ℕ) → ((i : ℕ) → i < length path → get_or path i 0 ≢ 47) → directory path ≡ []
directory-none [] none = refl
directory-none (x ∷ path) none = ap (λ (b : Bool). cond b (x ∷ directory path) []) (no_slash (x ∷ path) none)

-- a slash stands at this place
slash_at : (path : List ℕ) (n : ℕ) → n < length path → get_or path n 0 ≡ 47 → list_any is_slash path ≡ true
slash_at [] n within at = absurd (omega arith)
slash_at (x ∷ path) zero within at = ap (λ (y : ℕ). eqb y 47 || list_any is_slash path) at
slash_at (x ∷ path) (suc n) within at = ap (λ (b : Bool). eqb x 47 || b) (slash_at path n (omega arith) at) ∙ or-true (eqb x 47)

pub directory-at : (path : List ℕ) (n : ℕ) → n < length path → get_or path n 0 ≡ 47 → ((i : ℕ) → n < i → i < length path → get_or path i 0 ≢ 47) →
    directory path ≡ take n path ++ 47 ∷ []
directory-at [] n within at last = absurd (omega arith)
directory-at (x ∷ path) zero within at last =
    ap (λ (b : Bool). cond b (x ∷ directory path) []) (slash_at (x ∷ path) zero within at)
    ∙ ap (λ (l : List ℕ). x ∷ l) (directory-none path (λ i h. last (suc i) (omega arith) (omega arith))) ∙ ap (λ (y : ℕ). y ∷ []) at
directory-at (x ∷ path) (suc n) within at last =
    ap (λ (b : Bool). cond b (x ∷ directory path) []) (slash_at (x ∷ path) (suc n) within at)
    ∙ ap (λ (l : List ℕ). x ∷ l) (directory-at path n (omega arith) at (λ i h k. last (suc i) (omega arith) (omega arith)))

-- a text of one line
pub one_line : (text : List ℕ) → position_or_len is_newline text ≡ length text → slice_split is_newline text ≡ text ∷ []
one_line [] e = refl
one_line (x ∷ text) e = by (is_newline x) e (one_line text)
  where
    by : (b : Bool) → cond (not b) (1 + position_or_len is_newline text) 0 ≡ suc (length text) →
        (position_or_len is_newline text ≡ length text → slice_split is_newline text ≡ text ∷ []) →
        cond b ([] ∷ slice_split is_newline text) (onto_first x (slice_split is_newline text)) ≡ (x ∷ text) ∷ []
    by true h rest = absurd (omega (arith, h))
    by false h rest = ap (onto_first x) (rest (omega (arith, h)))

-- a line, and those behind it
pub more_lines : (text line rest : List ℕ) → position_or_len is_newline text < length text → line ≡ before_first is_newline text → rest ≡ after_first is_newline text →
    slice_split is_newline text ≡ line ∷ slice_split is_newline rest
more_lines text line rest within line_is rest_is =
    slice_split_first is_newline text 0 within
    ∙ ap (λ (l : List ℕ). l ∷ slice_split is_newline (after_first is_newline text)) (sym line_is)
    ∙ ap (λ (l : List ℕ). line ∷ slice_split is_newline l) (sym rest_is)
