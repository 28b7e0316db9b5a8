-- An item of a definition: its name, how its text is read, and what holds where it is not there.
use Rattle.std.specs.Prelude.{ℕ, List}
use Rattle.jail_conf.specs.Readers.{Reader}

pub record Item (A : Type 0) : Type 0 where
  pub name : List ℕ
  pub reading : Reader A
  pub default : A

abbrev pub item : {A : Type 0} → List ℕ → Reader A → A → Item A
item name reading default = record { name = name; reading = reading; default = default }
