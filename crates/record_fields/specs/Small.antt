-- Flags, moments, spans of time and counts.
use Rattle.std.specs.Prelude.{ℕ, ◌-◌, ◌^◌, Bool, true, false, ◌==◌, Option, Some, None, if◌then◌else◌}
use Rattle.f2b_base.specs.Limits.{last_moment}
use Rattle.record_fields.specs.Codec.{Codec, coded}
use Rattle.record_fields.specs.Numbers.{at_most, between}

-- a second of the time that is told
abbrev pub moment : Codec ℕ
moment = at_most last_moment

-- how long something lasts that lasts: at most the most seconds that a word of time can mean
abbrev pub span : Codec ℕ
span = between 1 3153600000

-- a count of 32 bits
abbrev pub count : Codec ℕ
count = at_most (2 ^ 32 - 1)

abbrev pub flag_code : Bool → ℕ
flag_code false = 0
flag_code true = 1

abbrev pub flag_of : ℕ → Option Bool
flag_of b = if b == 0 then Some false else if b == 1 then Some true else None

abbrev pub flag : Codec Bool
flag = coded flag_code flag_of (λ _. Unit {0})
