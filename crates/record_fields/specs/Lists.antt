-- Lists of items behind their number.
use Rattle.std.specs.Prelude.{◌≡◌, ℕ, zero, suc, ◌-◌, Bool, true, not, ◌==◌, nat_le, List, [], ◌∷◌, ◌++◌, length, slice_get, Option, Some, None, Ok, Err, if◌then◌else◌}
use Rattle.std.specs.List.{flat_map, list_any}
use Rattle.record_fields.specs.Codec.{◌>>=◌, Reads, Codec}
use Rattle.record_fields.specs.Numbers.{digits, number_at}

-- whether there are no more of them than there may be; where nothing is said, memory alone bounds them
abbrev pub is_few : Option ℕ → ℕ → Bool
is_few None n = true
is_few (Some most) n = nat_le n most

-- Items one after the other: each has to be allowed behind those before it, or it is at fault.
unfoldable pub items_at : {A : Type 0} → (List A → A → Bool) → Reads A → List A → ℕ → Reads (List A)
items_at allowed read before zero bytes = Ok ([], bytes)
items_at allowed read before (suc n) bytes = read bytes >>= λ first.
    if allowed before first.0 then (items_at allowed read (before ++ first.0 ∷ []) n first.1 >>= λ others. Ok (first.0 ∷ others.0, others.1))
    else Err (length bytes)

-- each item is allowed behind those before it
abbrev pub AreAllowed : {A : Type 0} → (List A → A → Bool) → List A → List A → Type 0
AreAllowed allowed before [] = Unit {0}
AreAllowed allowed before (x ∷ xs) = (allowed before x ≡ true) × AreAllowed allowed (before ++ x ∷ []) xs

-- each item meets P
abbrev pub Each : {A : Type 0} → (A → Type 0) → List A → Type 0
Each P [] = Unit {0}
Each P (x ∷ xs) = P x × Each P xs

unfoldable pub list_at : {A : Type 0} → Option ℕ → (List A → A → Bool) → Reads A → Reads (List A)
list_at most allowed read bytes = number_at bytes >>= λ n. if is_few most n.0 then items_at allowed read [] n.0 n.1 else Err (length bytes)

unfoldable pub list_of : {A : Type 0} → (A → List ℕ) → List A → List ℕ
list_of spell xs = digits 10 (length xs) ++ flat_map spell xs

-- the items of a list that can be spelt: few enough, each with a spelling, and each allowed behind those before it
pub record AreListed {A : Type 0} (most : Option ℕ) (allowed : List A → A → Bool) (Fits : A → Type 0) (xs : List A) : Type 0 where
  pub few : is_few most (length xs) ≡ true
  pub each : Each Fits xs
  pub all_allowed : AreAllowed allowed [] xs

abbrev pub listed : {A : Type 0} → Option ℕ → (List A → A → Bool) → Codec A → Codec (List A)
listed most allowed codec = record {
  spell = list_of codec.spell;
  read = list_at most allowed codec.read;
  Fits = AreListed most allowed codec.Fits;
}

-- ---- which items are allowed

-- any item
abbrev pub any : {A : Type 0} → List A → A → Bool
any before x = true

-- one that is not the same as one before it
abbrev pub is_new : {A : Type 0} → (A → A → Bool) → List A → A → Bool
is_new same before x = not (list_any (λ y. same y x) before)

-- the last of them passes the test, or there is none
abbrev pub last_passes : {A : Type 0} → (A → Bool) → Option A → Bool
last_passes test None = true
last_passes test (Some y) = test y

-- one that may stand right behind the last one
abbrev pub is_behind : {A : Type 0} → (A → A → Bool) → List A → A → Bool
is_behind may before x = last_passes (λ y. may y x) (slice_get before (length before - 1))

-- ---- as many items as there are definitions, each by its own

unfoldable pub each_at : {D A : Type 0} → (D → Reads A) → List D → Reads (List A)
each_at read [] bytes = Ok ([], bytes)
each_at read (d ∷ ds) bytes = read d bytes >>= λ first. each_at read ds first.1 >>= λ others. Ok (first.0 ∷ others.0, others.1)

unfoldable pub each_list_at : {D A : Type 0} → (D → Reads A) → List D → Reads (List A)
each_list_at read ds bytes = number_at bytes >>= λ n. if n.0 == length ds then each_at read ds n.1 else Err (length bytes)

abbrev pub EachBy : {D A : Type 0} → (D → A → Type 0) → List D → List A → Type 0
EachBy P [] [] = Unit {0}
EachBy P (d ∷ ds) (x ∷ xs) = P d x × EachBy P ds xs
EachBy P _ _ = ⊥

abbrev pub each_of : {D A : Type 0} → (A → List ℕ) → (D → Codec A) → List D → Codec (List A)
each_of spell codec ds = record {
  spell = list_of spell;
  read = each_list_at (λ d. (codec d).read) ds;
  Fits = EachBy (λ d. (codec d).Fits) ds;
}
