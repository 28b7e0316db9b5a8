-- One result after another, up to the first refusal: in a `do` block the order of the lines is the order in which refusals are told.
use Rattle.std.specs.Prelude.{◌≡◌, List, [], ◌∷◌, Bool, Option, None, Some, Result, Ok, Err, if◌then◌else◌}
use Rattle.jail_conf.specs.declared.fail.Fail.{Fail}
use Rattle.jail_conf.specs.declared.fail.Fail.TheVariants.{Refused, NoMemory}

infixl 10 ◌>>=◌
infixl 10 ◌>>◌
abbrev pub ◌>>=◌ : {A B E : Type 0} → Result A E → (A → Result B E) → Result B E
◌>>=◌ (Ok x) next = next x
◌>>=◌ (Err refusal) next = Err refusal

-- the first is looked at for its refusal alone
abbrev pub ◌>>◌ : {A B E : Type 0} → Result A E → Result B E → Result B E
◌>>◌ (Ok x) next = next
◌>>◌ (Err refusal) next = Err refusal

-- nothing to tell
abbrev pub Fine : Type 0
Fine = Unit {0}

abbrev pub refuse_if : {E : Type 0} → Bool → E → Result Fine E
refuse_if holds refusal = if holds then Err refusal else Ok tt

-- what there is, or else a refusal
abbrev pub or_refuse : {A E : Type 0} → E → Option A → Result A E
or_refuse refusal None = Err refusal
or_refuse refusal (Some x) = Ok x

-- each of them in turn
abbrev pub each : {X A E : Type 0} → (X → Result A E) → List X → Result (List A) E
each read [] = Ok []
each read (x ∷ xs) = do
  first ← read x
  others ← each read xs
  Ok (first ∷ others)

-- what code gives is what is defined, or want of memory
abbrev pub Gives : {A E : Type 0} → Result A E → Result A (Fail E) → Type 0
Gives defined (Ok x) = defined ≡ Ok x
Gives defined (Err (Refused refusal)) = defined ≡ Err refusal
Gives defined (Err NoMemory) = Unit {0}
