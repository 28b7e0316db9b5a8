-- The place of a child among others, for the bodies alone.
use Rattle.std.specs.Prelude.{ℕ, nat_lt, List}
use Rattle.std.specs.List.{position_or_len}
use Rattle.child_table.specs.declared.child.Child.{Child}

-- behind all that have no greater number
abbrev pub place_for : ℕ → List Child → ℕ
place_for job cs = position_or_len (λ (c : Child). nat_lt job c.job) cs
