-- Names in ASCII lower case.
use Rattle.std.proofs.Common.{◌≡◌, ◌≢◌, ℕ, zero, suc, ◌<◌, Bool, true, false, List, [], ◌∷◌, length, get_or, refl, sym, ap, ap₂, arith}
use Rattle.std.proofs.lemmas.Slice.Eq.{bytes_eq-Decides}
use Rattle.std.proofs.lemmas.Str.Ascii.{lowercase-lowercase}
use Rattle.std.specs.Char.{to_ascii_lowercase}
use Rattle.std.specs.Str.{bytes_eq, str_to_ascii_lowercase}

-- a text each of whose bytes is that of the name in lower case
pub lowercase_is : (name text : List ℕ) → length text ≡ length name →
    ((k : ℕ) → k < length name → to_ascii_lowercase (get_or name k 0) ≡ get_or text k 0) → str_to_ascii_lowercase name ≡ text
lowercase_is [] [] same each = refl
lowercase_is [] (t ∷ text) same each = absurd (omega arith)
lowercase_is (n ∷ name) [] same each = absurd (omega arith)
lowercase_is (n ∷ name) (t ∷ text) same each =
    ap₂ (λ first rest. first ∷ rest) (each zero (omega arith)) (lowercase_is name text (omega arith) (λ k below. each (suc k) (omega arith)))

pub byte_lowercase : (name : List ℕ) (k : ℕ) → k < length name → get_or (str_to_ascii_lowercase name) k 0 ≡ to_ascii_lowercase (get_or name k 0)
byte_lowercase [] k below = absurd (omega arith)
byte_lowercase (n ∷ name) zero below = refl
byte_lowercase (n ∷ name) (suc k) below = byte_lowercase name k (omega arith)

pub length-lowercase : (name : List ℕ) → length (str_to_ascii_lowercase name) ≡ length name
length-lowercase [] = refl
length-lowercase (n ∷ name) = ap suc (length-lowercase name)

-- lowered twice is lowered once
pub lowercase-again : (name : List ℕ) → str_to_ascii_lowercase (str_to_ascii_lowercase name) ≡ str_to_ascii_lowercase name
lowercase-again [] = refl
lowercase-again (n ∷ name) = ap₂ (λ first rest. first ∷ rest) (lowercase-lowercase n) (lowercase-again name)

pub same_bytes : (one other : List ℕ) → one ≡ other → true ≡ bytes_eq one other
same_bytes one other same = sym ((bytes_eq-Decides one other).1 same)

pub other_bytes : (one other : List ℕ) → one ≢ other → false ≡ bytes_eq one other
other_bytes one other differ = by (bytes_eq one other) refl
  where
    by : (b : Bool) → bytes_eq one other ≡ b → false ≡ b
    by true is = absurd (differ ((bytes_eq-Decides one other).0 is))
    by false is = refl
