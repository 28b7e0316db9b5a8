-- The place of a jail among the others.
use Rattle.std.specs.Prelude.{ℕ, suc, cond, List, [], ◌∷◌, bytes_eq}
use Rattle.jail_rooms.specs.declared.jail.Jail.{Jail}

-- the place of the first jail of a name, or how many there are
abbrev pub jail_place : List ℕ → List Jail → ℕ
jail_place name [] = 0
jail_place name (j ∷ js) = cond (bytes_eq j.definition.name name) 0 (suc (jail_place name js))
