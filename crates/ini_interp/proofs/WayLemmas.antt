-- A way on which no file stands twice is not longer than there are files.
use Rattle.std.proofs.Common.{◌≡◌, ◌≢◌, ℕ, zero, suc, ◌+◌, ◌-◌, ◌<◌, ◌≤◌, not, ◌||◌, Bool, true, false, cond, List, [], ◌∷◌, ◌++◌, length, filter, Option, None, Some, refl, sym, ap, ◌∙◌, arith}
use Rattle.std.proofs.lemmas.Bool.{false≢true}
use Rattle.std.proofs.lemmas.Slice.Eq.{bytes_eq-Decides}
use Rattle.std.specs.List.{list_any}
use Rattle.std.specs.Str.{bytes_eq}
use Rattle.ini_interp.specs.Frames.{IsWay}
use Rattle.ini_interp.specs.Merges.{Files, is_among}
use Rattle.ini_interp.specs.Sections.{value_of}

-- a name that is not another's
other_way : (p q : List ℕ) → bytes_eq p q ≡ false → bytes_eq q p ≡ false
other_way p q apart = by (bytes_eq q p) refl
  where
    by : (b : Bool) → bytes_eq q p ≡ b → bytes_eq q p ≡ false
    by true same = absurd (false≢true (sym apart ∙ (bytes_eq-Decides p q).1 (sym ((bytes_eq-Decides q p).0 same))))
    by false same = same

-- the files but for those of one path
abbrev without_path : List ℕ → Files → Files
without_path p files = filter (λ e. not (bytes_eq p e.0)) files

no_longer : (p : List ℕ) (files : Files) → length (without_path p files) ≤ length files
no_longer p [] = omega arith
no_longer p (e ∷ es) = by (bytes_eq p e.0) (no_longer p es)
  where
    by : (b : Bool) → length (without_path p es) ≤ length es → length (cond (not b) (e ∷ without_path p es) (without_path p es)) ≤ suc (length es)
    by true rest = omega (arith, rest)
    by false rest = omega (arith, rest)

shorter : (p : List ℕ) (files : Files) → value_of p files ≢ None → length (without_path p files) < length files
shorter p [] there = absurd (there refl)
shorter p (e ∷ es) there = by (bytes_eq p e.0) there (no_longer p es) (shorter p es)
  where
    by : (b : Bool) → cond b (Some e.1) (value_of p es) ≢ None → length (without_path p es) ≤ length es →
        (value_of p es ≢ None → length (without_path p es) < length es) → length (cond (not b) (e ∷ without_path p es) (without_path p es)) < suc (length es)
    by true found bound rest = omega (arith, bound)
    by false found bound rest = omega (arith, rest found)

value_of-without : (p q : List ℕ) (files : Files) → bytes_eq q p ≡ false → value_of q (without_path p files) ≡ value_of q files
value_of-without p q [] apart = refl
value_of-without p q (e ∷ es) apart = by (bytes_eq p e.0) refl (value_of-without p q es apart)
  where
    by : (b : Bool) → bytes_eq p e.0 ≡ b → value_of q (without_path p es) ≡ value_of q es →
        value_of q (cond (not b) (e ∷ without_path p es) (without_path p es)) ≡ cond (bytes_eq q e.0) (Some e.1) (value_of q es)
    by true same rest =
        rest ∙ ap (λ (t : Bool). cond t (Some e.1) (value_of q es)) (sym apart ∙ ap (bytes_eq q) ((bytes_eq-Decides p e.0).0 same))
    by false same rest = ap (cond (bytes_eq q e.0) (Some e.1)) rest

-- neither of two tests
neither : (a b : Bool) → (a || b) ≡ false → (a ≡ false) × (b ≡ false)
neither true b e = absurd (false≢true (sym e))
neither false b e = (refl, e)

way-without : (p : List ℕ) (files : Files) (way : List (List ℕ)) → IsWay files way → is_among way p ≡ false → IsWay (without_path p files) way
way-without p files [] stands apart = tt
way-without p files (q ∷ way) stands apart =
    let each = neither (bytes_eq p q) (is_among way p) apart in
    (stands.0, (λ none. stands.1 (sym (value_of-without p q files (other_way p q each.0)) ∙ none)), way-without p files way stands.2 each.1)

pub way_within : (files : Files) (way : List (List ℕ)) → IsWay files way → length way ≤ length files
way_within files [] stands = omega arith
way_within files (p ∷ way) stands =
    omega (arith, way_within (without_path p files) way (way-without p files way stands.2 stands.0), shorter p files stands.1)
