-- A walk over the active bans, by serial.
use Rattle.std.specs.Prelude.{ℕ, Bool, nat_le}
use Rattle.f2b_base.specs.declared.ban.Ban.{Ban}

-- whether a ban's serial is at least this one
abbrev pub is_from : ℕ → Ban → Bool
is_from serial b = nat_le serial b.serial
