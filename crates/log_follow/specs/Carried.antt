-- What is kept of a line that is not yet whole.
use Rattle.std.specs.Prelude.{ℕ, ◌≡◌, nat_lt, if◌then◌else◌, List, length}
use Rattle.log_follow.specs.Lines.{rest_of}
use Rattle.log_follow.specs.declared.carry.Carry.{Carry}
use Rattle.log_follow.specs.declared.carry.Carry.TheVariants.{Kept, Long}

-- the bytes, and of more than 65,536 bytes only how many there are
unfoldable pub carry_of : List ℕ → Carry
carry_of rest = if nat_lt 65536 (length rest) then Long (length rest) else Kept rest

-- how many bytes it stands for
abbrev pub length_of : Carry → ℕ
length_of (Kept bytes) = length bytes
length_of (Long count) = count

-- it is what is kept behind the last LF of these bytes
abbrev pub Carries : Carry → List ℕ → Type 0
Carries carry seen = carry ≡ carry_of (rest_of seen)
