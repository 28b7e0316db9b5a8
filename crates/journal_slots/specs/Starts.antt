-- What stands behind a slot's own gate: its generation, the version of its spelling, and a view.
use Rattle.std.specs.Prelude.{ℕ, ◌≡◌, ◌<◌, ◌≤◌, ◌^◌, ◌&&◌, ◌==◌, nat_le, Bool, List, ◌∷◌, length, Option, Some, None, if◌then◌else◌}
use Rattle.std.specs.Int.{w64}
use Rattle.f2b_base.specs.declared.view.View.{View}
use Rattle.journal_slots.specs.declared.head.Head.{Head}
use Rattle.journal_slots.specs.declared.head.Head.TheVariants.{Short, Ajar, Shut}
use Rattle.record_codec.specs.declared.version.Version.{Version}
use Rattle.record_codec.specs.declared.version.Version.TheVariants.{One, Two}
use Rattle.record_codec.specs.Views.{view}
use Rattle.record_fields.specs.Addresses.{fixed_at, eight}
use Rattle.record_fields.specs.Codec.{Codec, both, and_then, made, checked, coded}

-- the greatest generation
abbrev pub last_generation : ℕ
last_generation = 2 ^ 62

-- a slot of at most so many bytes is empty
abbrev pub short_bytes : ℕ
short_bytes = 16

-- eight bytes, high ones first
abbrev pub eight_bytes : Codec ℕ
eight_bytes = record { spell = eight; read = λ bytes. fixed_at w64 (length bytes) bytes; Fits = λ n. n < 2 ^ 64 }

abbrev pub is_generation : ℕ → Bool
is_generation n = nat_le 1 n && nat_le n last_generation

-- 1 to 2 ^ 62
unfoldable pub generation : Codec ℕ
generation = checked is_generation eight_bytes

abbrev pub version_byte : Version → ℕ
version_byte One = 1
version_byte Two = 2

abbrev pub version_of : ℕ → Option Version
version_of b = if b == 1 then Some One else if b == 2 then Some Two else None

abbrev pub IsVersion : Version → Type 0
IsVersion v = Unit {0}

unfoldable pub version : Codec Version
version = coded version_byte version_of IsVersion

-- what a slot begins with, behind its gate
pub record Start : Type 0 where
  pub generation : ℕ
  pub version : Version
  pub view : View

unfoldable pub start : Codec Start
start = made (λ x. record { generation = x.0; version = x.1.0; view = x.1.1 }) (λ s. (s.generation, (s.version, s.view)))
    (both generation (and_then version view))

-- how the bytes of a slot begin
abbrev pub IsHead : Head → List ℕ → Type 0
IsHead Short bytes = length bytes ≤ short_bytes
IsHead Ajar bytes = (short_bytes < length bytes) × ((gate : ℕ) × (rest : List ℕ) × (0 < gate) × (bytes ≡ gate ∷ rest))
IsHead Shut bytes = (short_bytes < length bytes) × ((rest : List ℕ) × (bytes ≡ 0 ∷ rest))
