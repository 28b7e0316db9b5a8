-- How long a ban lasts.
use Rattle.std.specs.Prelude.{ℕ, ◌+◌, ◌*◌, ◌/◌, ◌%◌, ◌^◌, ◌≤◌, min, max, not, ◌||◌, ◌==◌, List, [], ◌∷◌, length, slice_index, All, ℤ, pos, negsuc, ◌≤ℤ◌, if◌then◌else◌}
use Rattle.rand_pcg.specs.Lcg.{started, increment_of}
use Rattle.rand_pcg.specs.Pcg.{multiplier_64, pcg32}
use Rattle.f2b_base.specs.declared.ban.BanRule.{BanRule}
use Rattle.f2b_base.specs.declared.ban.Span.{Span}
use Rattle.f2b_base.specs.declared.ban.Span.TheVariants.{Secs, Never}

-- the first word of the generator with this state and stream
unfoldable pub first_word : ℕ → ℕ → ℕ
first_word state stream = (pcg32 (started 64 multiplier_64 state (increment_of 64 stream))).0

-- what is added at random: nothing where `most` is 0, and else 0 to `most`, by the first word
abbrev pub jitter : ℕ → ℕ → ℕ → ℕ
jitter word serial most = if most == 0 then 0 else first_word word serial % (most + 1)

-- how many times as long a ban is: by the multipliers, of which the last stands for all later bans, or doubling up to 20 times
unfoldable pub growth : List ℕ → ℕ → ℕ
growth [] count = 2 ^ min count 20
growth (m ∷ ms) count = slice_index (m ∷ ms) (min count (length ms))

-- a span so many times as long, by a factor in thousandths, at least 1 and at most `maxtime`
abbrev pub grown : ℕ → ℕ → ℕ → ℕ → ℕ
grown base times factor maxtime = min maxtime (max 1 (base * times * factor / 1000))

-- the span before anything is added: a first ban, and each under a rule that does not grow, has the base
unfoldable pub plain_span : BanRule → ℕ → ℕ → ℕ
plain_span rule base count =
    if not rule.increment || count == 0 then base
    else grown base (growth rule.multipliers count) rule.factor rule.maxtime

-- the span by its base
abbrev pub span_at : BanRule → ℕ → ℕ → ℕ → ℤ → Span
span_at rule count word serial (pos base) =
    Secs (plain_span rule base count + jitter word serial rule.rndtime)
span_at rule count word serial (negsuc n) = Never

-- the span of the ban with that serial, by the count of past bans and the word of the last reading
unfoldable pub span_of : BanRule → ℕ → ℕ → ℕ → Span
span_of rule count word serial = span_at rule count word serial rule.base

-- the upper bounds of a rule, within which each span is a number of seconds
pub record IsRule (rule : BanRule) : Type 0 where
  pub base : rule.base ≤ℤ pos 3153600000
  pub factor : rule.factor ≤ 1000000
  pub multipliers : All (λ m. m ≤ 1000000) rule.multipliers
  pub maxtime : rule.maxtime ≤ 3153600000
  pub rndtime : rule.rndtime ≤ 1000000
