-- Families of addresses, and when two lanes, two actions or two lanes that are up are one.
use Rattle.std.specs.Prelude.{Bool, true, false, ◌==◌, ◌&&◌, bytes_eq}
use Rattle.f2b_base.specs.declared.addr.Addr.{Addr}
use Rattle.f2b_base.specs.declared.addr.Addr.TheVariants.{V4, V6}
use Rattle.f2b_base.specs.declared.addr.Family.{Family}
use Rattle.f2b_base.specs.declared.addr.Family.TheVariants.{Both, Inet4, Inet6}
use Rattle.f2b_base.specs.Families.{same_family}
use Rattle.f2b_base.specs.declared.jail.ActionDef.{ActionDef}
use Rattle.f2b_base.specs.declared.job.LaneId.{LaneId}
use Rattle.f2b_base.specs.declared.job.UpLane.{UpLane}

-- whether an address is of a family: each is of Both
abbrev pub in_family : Family → Addr → Bool
in_family Both addr = true
in_family Inet4 (V4 number) = true
in_family Inet4 (V6 number) = false
in_family Inet6 (V4 number) = false
in_family Inet6 (V6 number) = true

-- whether two lanes are one: a lane is a jail, the name of an action and a family
abbrev pub same_lane : LaneId → LaneId → Bool
same_lane a b = bytes_eq a.jail b.jail && (bytes_eq a.action b.action && same_family a.family b.family)

-- whether two actions are one, in name, family, texts and timeout
abbrev pub same_action : ActionDef → ActionDef → Bool
same_action a b =
    bytes_eq a.name b.name
    && (same_family a.family b.family
    && (bytes_eq a.start b.start
    && (bytes_eq a.stop b.stop
    && (bytes_eq a.ban b.ban
    && (bytes_eq a.unban b.unban
    && (bytes_eq a.check b.check && a.timeout == b.timeout))))))

-- whether two lanes that are up are one, in jail and action
abbrev pub same_up : UpLane → UpLane → Bool
same_up a b = bytes_eq a.jail b.jail && same_action a.action b.action
