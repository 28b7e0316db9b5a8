-- The first of two options that has a value.
use Rattle.std.proofs.Common.{◌≡◌, Option, Some, None, is_some, true, false, true≢false, refl, sym}
use Rattle.std.specs.Option.{option_or}

pub option_or-none : {A : Type 0} (a b : Option A) → is_some a ≡ false → option_or a b ≡ b
option_or-none None b h = refl
option_or-none (Some x) b h = absurd (true≢false h)

pub option_or-some : {A : Type 0} (a b : Option A) → is_some a ≡ true → option_or a b ≡ a
option_or-some None b h = absurd (true≢false (sym h))
option_or-some (Some x) b h = refl
