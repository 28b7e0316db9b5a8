-- The directory of a path, where a search found the last slash.
use Rattle.std.proofs.Common.{ℕ, ◌≡◌, ◌+◌, ◌-◌, ◌<◌, false, List, [], ◌∷◌, length, take, get_or, refl, sym, ap, subst, ◌∙◌, arith}
use Rattle.std.specs.Prelude.{bytes_eq, codes}
use Rattle.std.specs.Cmp.Lexicographic.{bytes_decides}
use Rattle.std.proofs.lemmas.Bool.{eqb-true}
use Rattle.std.proofs.lemmas.List.{length-take-le}
use Rattle.memchr.specs.Find.{Nowhere, NoneAfter, Passes, is_byte}
use Rattle.log_follow.specs.Globs.{to_slash}
use Rattle.run_law.specs.Paths.{directory}
use Rattle.log_follow.proofs.ExpandLemmas.{to_last, to_none}
use Rattle.f2b_model.proofs.ListLemmas.{by_test}

first_byte : (path : List ℕ) → 0 < length path → get_or path 0 0 ≡ 47 → take 1 path ≡ 47 ∷ []
first_byte [] some is = absurd (let no : ⊥ = omega (arith, some) in no)
first_byte (byte ∷ path) some is = ap (λ (b : ℕ). b ∷ []) is

-- the slash alone
pub directory_root : (path : List ℕ) (k : ℕ) → k ≡ 0 → NoneAfter (Passes (is_byte 47) path) 0 (length path) k → Passes (is_byte 47) path k → directory path ≡ 47 ∷ []
directory_root path k first after ends =
    let P : ℕ → Type 0 = λ n. Passes (is_byte 47) path n in
    let slash : get_or path 0 0 ≡ 47 = eqb-true (get_or path 0 0) 47 (subst P first ends) in
    let whole : to_slash path ≡ 47 ∷ [] = to_last path k after ends ∙ ap (λ (n : ℕ). take (n + 1) path) first ∙ first_byte path (omega (arith, after.high, first)) slash in
    rw whole refl

-- what stands before the slash
pub directory_below : (path : List ℕ) (k : ℕ) → 0 < k → NoneAfter (Passes (is_byte 47) path) 0 (length path) k → Passes (is_byte 47) path k → directory path ≡ take k path
directory_below path k below after ends =
    let whole : to_slash path ≡ take (k + 1) path = to_last path k after ends in
    let long : length (take (k + 1) path) ≡ k + 1 = length-take-le (k + 1) path (omega (arith, after.high)) in
    let other : bytes_eq (to_slash path) (codes "/") ≡ false =
    by_test (bytes_eq (to_slash path) (codes "/")) _
    (λ is. absurd (let one : take (k + 1) path ≡ codes "/" = sym whole ∙ (bytes_decides (to_slash path) (codes "/")).0 is in
    let count : length (take (k + 1) path) ≡ 1 = ap length one in
    let no : ⊥ = omega (arith, count, long, below) in no))
    (λ not. not) in
    let count : length (to_slash path) - 1 ≡ k = (let n : length (to_slash path) ≡ k + 1 = ap length whole ∙ long in omega (arith, n)) in
    rw other (ap (λ (n : ℕ). take n path) count)

-- nothing
pub directory_none : (path : List ℕ) → Nowhere (Passes (is_byte 47) path) 0 (length path) → directory path ≡ []
directory_none path none = rw (to_none path none) refl
