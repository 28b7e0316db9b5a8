-- Text that is added at the end of another.
use Rattle.std.specs.Prelude.{◌≡◌, ℕ, List, ◌++◌, Result, Ok}

-- the result is a text, and the new text is the old one with it at the end
pub record IsAdded {E : Type 0} (result : Result (List ℕ) E) (old new : List ℕ) : Type 0 where
  pub text : List ℕ
  pub given : result ≡ Ok text
  pub added : new ≡ old ++ text
