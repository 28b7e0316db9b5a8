-- The address of the host of a match.
use Rattle.std.specs.Prelude.{ℕ, List, Option, Some, None}
use Rattle.f2b_base.specs.declared.addr.Addr.{Addr}
use Rattle.f2b_base.specs.Addresses.{read_addr}

-- the text of the first group that took part, IPv4 before IPv6, is read
abbrev pub host_of : Option (List ℕ) → Option (List ℕ) → Option Addr
host_of (Some ip4) ip6 = read_addr ip4
host_of None (Some ip6) = read_addr ip6
host_of None None = None
