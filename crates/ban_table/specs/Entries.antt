-- Past entries as callers see them.
use Rattle.std.specs.Prelude.{ℕ, ◌<◌, List, [], ◌∷◌}
use Rattle.f2b_base.specs.declared.ban.Past.{Past}

-- the entries, and for how many there is room
pub record Entries : Type 0 where
  pub items : List Past
  pub room : ℕ

-- the first entry, if there is one, ended after a limit
abbrev pub IsFirstAfter : ℕ → List Past → Type 0
IsFirstAfter limit [] = Unit {0}
IsFirstAfter limit (p ∷ ps) = limit < p.end
