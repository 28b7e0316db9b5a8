-- When a ban ends.
use Rattle.std.specs.Prelude.{ℕ, ◌+◌, min}
use Rattle.f2b_base.specs.declared.ban.BanRule.{BanRule}
use Rattle.f2b_base.specs.declared.ban.Span.{Span}
use Rattle.f2b_base.specs.declared.ban.Span.TheVariants.{Secs, Never as Endless}
use Rattle.f2b_base.specs.declared.ban.Until.{Until}
use Rattle.f2b_base.specs.declared.ban.Until.TheVariants.{Never, At}
use Rattle.f2b_base.specs.Limits.{last_moment}
use Rattle.f2b_base.specs.Span.{span_of}

-- the end of what begins at a moment and lasts a span
abbrev pub until_after : ℕ → Span → Until
until_after at Endless = Never
until_after at (Secs secs) = At (min last_moment (at + secs))

-- the end of a ban that begins at a moment, by its rule, the count of past bans, the last reading's word and the ban's serial
abbrev pub until_of : BanRule → ℕ → ℕ → ℕ → ℕ → Until
until_of rule at count word serial = until_after at (span_of rule count word serial)
