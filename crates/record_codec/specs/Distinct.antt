-- A number for each address.
use Rattle.std.specs.Prelude.{ℕ, ◌+◌, ◌*◌, ◌^◌}
use Rattle.f2b_base.specs.declared.addr.Addr.{Addr}
use Rattle.f2b_base.specs.declared.addr.Addr.TheVariants.{V4, V6}

-- an IPv4 address is told by its place in ::ffff:0:0/96, where no IPv6 address is
abbrev pub addr_key : Addr → ℕ
addr_key (V4 n) = 0xffff * 2 ^ 32 + n
addr_key (V6 n) = n
