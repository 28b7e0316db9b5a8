-- Which numbers of connections are in use: a list with `true` at each place whose number is.
use Rattle.std.specs.Prelude.{ℕ, Bool, true, false, ◌≡◌, ◌<◌, List, replicate, position, slice_get, slice_set, not, Option, Some}
use Rattle.f2b_world.specs.declared.answer.Accept.{Accept}
use Rattle.f2b_world.specs.declared.answer.Accept.TheVariants.{Conn}

-- the numbers of connections are below this
abbrev pub most_connections : ℕ
most_connections = 16

-- the most bytes of a socket's path
abbrev pub most_path : ℕ
most_path = 103

-- nobody is connected
abbrev pub none_in_use : List Bool
none_in_use = replicate most_connections false

-- the number is in use
abbrev pub IsInUse : List Bool → ℕ → Type 0
IsInUse uses conn = slice_get uses conn ≡ Some true

-- the number may be given to a client, and is in use by none
abbrev pub IsUnused : List Bool → ℕ → Type 0
IsUnused uses conn = slice_get uses conn ≡ Some false

-- the lowest number that is not in use
abbrev pub first_unused : List Bool → Option ℕ
first_unused uses = position not uses

-- the uses once a number is in use
abbrev pub begun : List Bool → ℕ → List Bool
begun uses conn = slice_set uses conn true

-- the uses once a number is not in use any more: what is no number of a connection is none before either
abbrev pub ended : List Bool → ℕ → List Bool
ended uses conn = slice_set uses conn false

-- A client is accepted under a number that was not in use. It is in use then, and no other one changes.
pub record IsAccepted (old : List Bool) (conn : ℕ) (new : List Bool) : Type 0 where
  pub below : conn < most_connections
  pub unused : IsUnused old conn
  pub used : new ≡ begun old conn

-- where a client is accepted it is so, and else none changes
abbrev pub Accepts : List Bool → Accept → List Bool → Type 0
Accepts old (Conn conn) new = IsAccepted old conn new
Accepts old _ new = new ≡ old
