-- A codec: how the values of a type are spelt, how they are read, and which values have a spelling. A reader gives a value and the bytes
-- after it, or how many bytes are left where the first field begins that has no reading.
use Rattle.std.specs.Prelude.{◌≡◌, ℕ, ◌+◌, ◌-◌, ◌<◌, ◌≤◌, ◌^◌, Bool, true, ◌==◌, min, List, [], ◌∷◌, ◌++◌, length, slice_index, Option, Some, None, Result, Ok, Err, if◌then◌else◌}
use Rattle.record_fields.specs.declared.fault.Fault.{Fault}
use Rattle.record_fields.specs.declared.fault.Fault.TheVariants as faults

-- what comes of a result, where it is no error
infixl 10 ◌>>=◌
abbrev pub ◌>>=◌ : {A B : Type 0} → Result A ℕ → (A → Result B ℕ) → Result B ℕ
(Ok x) >>= f = f x
(Err left) >>= f = Err left

-- a reader
abbrev pub Reads : Type 0 → Type 0
Reads A = List ℕ → Result (A × List ℕ) ℕ

pub record Codec (A : Type 0) : Type 1 where
  pub spell : A → List ℕ
  pub read : Reads A
  -- the value has a spelling
  pub Fits : A → Type 0

-- ---- what a codec promises

abbrev pub IsBytes : List ℕ → Type 0
IsBytes bytes = (i : ℕ) → slice_index bytes i < 256

-- as many bytes as a machine can hold
abbrev pub IsHeld : List ℕ → Type 0
IsHeld bytes = length bytes < 2 ^ 64

-- What is read is spelt so, each byte of it, and has a spelling; what is spelt so is read, whatever follows; no spelling is empty.
pub record IsCodec {A : Type 0} (c : Codec A) : Type 0 where
  pub takes : (bytes : List ℕ) (x : A) (rest : List ℕ) → IsBytes bytes → c.read bytes ≡ Ok (x, rest) →
      (bytes ≡ c.spell x ++ rest) × c.Fits x × IsBytes rest
  pub again : (x : A) (rest : List ℕ) → c.Fits x → IsHeld (c.spell x ++ rest) → c.read (c.spell x ++ rest) ≡ Ok (x, rest)
  pub some : (x : A) → 1 ≤ length (c.spell x)

-- ---- codecs of codecs

-- one field, and then another one, which may depend on it
abbrev pub and_then : {A B : Type 0} → Codec A → (A → Codec B) → Codec (A × B)
and_then first next = record {
  spell = λ x. first.spell x.0 ++ (next x.0).spell x.1;
  read = λ bytes. first.read bytes >>= λ a. (next a.0).read a.1 >>= λ b. Ok ((a.0, b.0), b.1);
  Fits = λ x. first.Fits x.0 × (next x.0).Fits x.1;
}

-- one field, and then another one
abbrev pub both : {A B : Type 0} → Codec A → Codec B → Codec (A × B)
both first next = and_then first (λ _. next)

-- a value of these parts
abbrev pub made : {A B : Type 0} → (A → B) → (B → A) → Codec A → Codec B
made make parts codec = record {
  spell = λ b. codec.spell (parts b);
  read = λ bytes. codec.read bytes >>= λ a. Ok (make a.0, a.1);
  Fits = λ b. codec.Fits (parts b);
}

-- the same, with another word for the values that have a spelling
abbrev pub fit : {A : Type 0} → (A → Type 0) → Codec A → Codec A
fit Fits codec = record { spell = codec.spell; read = codec.read; Fits = Fits }

-- a value that passes a test, or the field is at fault
abbrev pub checked : {A : Type 0} → (A → Bool) → Codec A → Codec A
checked test codec = record {
  spell = codec.spell;
  read = λ bytes. codec.read bytes >>= λ a. if test a.0 then Ok a else Err (length bytes);
  Fits = λ x. codec.Fits x × (test x ≡ true);
}

-- one byte for each value
abbrev pub coded : {A : Type 0} → (A → ℕ) → (ℕ → Option A) → (A → Type 0) → Codec A
coded code decode Fits = record {
  spell = λ a. code a ∷ [];
  read = λ bytes. elim bytes [
    | [] ↦ Err 0
    | b ∷ rest ↦ elim (decode b) [ Some a ↦ Ok (a, rest) | None ↦ Err (length rest + 1) ]
  ];
  Fits = Fits;
}

-- ---- a byte that says what follows

-- a value that is made of what a codec reads
abbrev pub as_made : {P A : Type 0} → (P → A) → Codec P → Reads A
as_made make codec bytes = codec.read bytes >>= λ x. Ok (make x.0, x.1)

-- what follows a byte, by that byte, and what was left with it
abbrev pub Cases : Type 0 → Type 0
Cases A = ℕ → ℕ → Reads A

abbrev pub no_case : {A : Type 0} → Cases A
no_case b left bytes = Err left

-- where the byte is k, this follows
abbrev pub case : {A : Type 0} → ℕ → Reads A → Cases A → Cases A
case k read others b left bytes = if b == k then read bytes else others b left bytes

abbrev pub field : {A : Type 0} → Cases A → Reads A
field cases [] = Err 0
field cases (b ∷ bytes) = cases b (length bytes + 1) bytes

-- an option: 0, or 1 and the value
abbrev pub option_spelling : {A : Type 0} → Codec A → Option A → List ℕ
option_spelling codec None = 0 ∷ []
option_spelling codec (Some x) = 1 ∷ codec.spell x

abbrev pub IsOption : {A : Type 0} → Codec A → Option A → Type 0
IsOption codec None = Unit {0}
IsOption codec (Some x) = codec.Fits x

abbrev pub option_of : {A : Type 0} → Codec A → Codec (Option A)
option_of codec = record {
  spell = option_spelling codec;
  read = field (case 0 (λ bytes. Ok (None, bytes)) (case 1 (as_made (λ x. Some x) codec) no_case));
  Fits = IsOption codec;
}

-- ---- what a function gives

abbrev pub Fails : {Y : Type 0} → Fault → Result Y ℕ → Type 0
Fails faults.NoMemory read = Unit {0}
Fails (faults.Left left) read = read ≡ Err left

-- What a function returned, seen by view, is what reading gives, unless memory ran out.
abbrev pub Gives : {X Y : Type 0} → (X → Y) → Result X Fault → Result Y ℕ → Type 0
Gives view (Ok x) read = read ≡ Ok (view x)
Gives view (Err fault) read = Fails fault read

-- how many bytes there are, or the greatest number of 64 bits where there are more
unfoldable pub capped : List ℕ → ℕ
capped bytes = min (length bytes) (2 ^ 64 - 1)
