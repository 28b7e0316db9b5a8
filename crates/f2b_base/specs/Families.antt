-- Families of addresses.
use Rattle.std.specs.Prelude.{Bool, true, false}
use Rattle.f2b_base.specs.declared.addr.Family.{Family}
use Rattle.f2b_base.specs.declared.addr.Family.TheVariants.{Both, Inet4, Inet6}

-- whether two families are one
abbrev pub same_family : Family → Family → Bool
same_family Both Both = true
same_family Inet4 Inet4 = true
same_family Inet6 Inet6 = true
same_family _ _ = false
