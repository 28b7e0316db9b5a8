-- What a stop leaves of the bytes of a slot while it is written.
use Rattle.std.specs.Prelude.{ℕ, ◌≡◌, ◌<◌, ◌≤◌, ◌⊎◌, List, ◌∷◌, ◌++◌, length}
use Rattle.f2b_world.specs.Slots.{Slot, Permits}

-- it ends at the closed gate behind the front
abbrev pub EndsAt : List ℕ → List ℕ → Type 0
EndsAt front image = (tail : List ℕ) × (image ≡ front ++ 0 ∷ tail)

-- any byte stands behind the front, and then these bytes
abbrev pub HasGate : List ℕ → List ℕ → List ℕ → Type 0
HasGate front bytes image = (gate : ℕ) × (tail : List ℕ) × (image ≡ front ++ gate ∷ (bytes ++ tail))

-- each image that a stop may leave is one of these
abbrev pub Leaves : (List ℕ → Type 0) → Slot → Type 0
Leaves P s = (image : List ℕ) → Permits s image → P image

-- bytes are put behind the closed gate at the front's end
abbrev pub IsBehind : List ℕ → Slot → Type 0
IsBehind front = Leaves (EndsAt front)

-- the gate at the front's end is opened
abbrev pub IsOpening : List ℕ → List ℕ → Slot → Type 0
IsOpening front back = Leaves (λ image. (gate : ℕ) × (image ≡ front ++ gate ∷ back))

-- bytes are put behind a closed gate, and then it is opened
abbrev pub IsAdding : List ℕ → List ℕ → Slot → Type 0
IsAdding front bytes = Leaves (λ image. EndsAt front image ⊎ HasGate front bytes image)

-- What a stop leaves of a slot that is written anew: something short; what was there; the same with another byte at 0; a closed gate; any
-- byte and the new body; or an input's gate behind that.
pub data Making (bytes body entry image : List ℕ) : Type 0 where
  Short : length image ≤ 16 → Making bytes body entry image
  Kept : image ≡ bytes → Making bytes body entry image
  Shut : (x y : ℕ) (rest : List ℕ) → 0 < y → bytes ≡ y ∷ rest → image ≡ x ∷ rest → Making bytes body entry image
  Behind : (tail : List ℕ) → image ≡ 0 ∷ tail → Making bytes body entry image
  Gate : (x : ℕ) (tail : List ℕ) → image ≡ x ∷ (body ++ 0 ∷ tail) → Making bytes body entry image
  Added : (x : ℕ) (tail : List ℕ) → image ≡ (1 ∷ body) ++ x ∷ (entry ++ tail) → Making bytes body entry image

abbrev pub IsMaking : List ℕ → List ℕ → List ℕ → Slot → Type 0
IsMaking bytes body entry = Leaves (Making bytes body entry)
