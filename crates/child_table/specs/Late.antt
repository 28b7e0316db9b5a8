-- When a child has run for as long as it may.
use Rattle.std.specs.Prelude.{ℕ, ◌+◌, nat_le, Bool}
use Rattle.child_table.specs.declared.child.Child.{Child}

-- its time is over from that many seconds after its start on
abbrev pub is_late : ℕ → Child → Bool
is_late now c = nat_le (c.since + c.timeout) now
