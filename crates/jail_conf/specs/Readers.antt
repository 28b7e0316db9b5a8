-- How the text of an item is read.
use Rattle.std.specs.Prelude.{ℕ, List, Result, Ok}
use Rattle.jail_conf.specs.declared.conf_error.ConfKind.{ConfKind}

-- a reading gives a value, or says what is wrong
abbrev pub Reader : Type 0 → Type 0
Reader A = List ℕ → Result A ConfKind

-- the text as it is
abbrev pub as_written : Reader (List ℕ)
as_written text = Ok text
