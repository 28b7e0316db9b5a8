-- What is at the front of bytes: a value and the length of its spelling, or the place of the first field that has no reading.
use Rattle.std.specs.Prelude.{◌≡◌, ℕ, ◌-◌, List, length, take, Result, Ok, Err}
use Rattle.record_codec.specs.declared.read_error.ReadError.{ReadError}
use Rattle.record_codec.specs.declared.read_error.ReadError.TheVariants.{Bad, NoMemory}

-- the value and the length of its spelling, or the place of the first field that has no reading
abbrev pub front_of : {A : Type 0} → List ℕ → Result (A × List ℕ) ℕ → Result (A × ℕ) ℕ
front_of bytes (Ok x) = Ok (x.0, length bytes - length x.1)
front_of bytes (Err left) = Err (length bytes - left)

-- the answer is this value, or this place, unless memory ran out
abbrev pub Answers : {X : Type 0} → Result X ReadError → Result X ℕ → Type 0
Answers (Ok x) front = front ≡ Ok x
Answers (Err NoMemory) front = Unit {0}
Answers (Err (Bad at)) front = front ≡ Err at

-- the value's spelling is at the front of the bytes, and that is its length
pub record IsAtFront {A : Type 0} (spell : A → List ℕ) (bytes : List ℕ) (x : A × ℕ) : Type 0 where
  pub len : x.1 ≡ length (spell x.0)
  pub spelt : take x.1 bytes ≡ spell x.0
