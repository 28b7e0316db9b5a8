-- The middle state: what still matters of a state, and the state that holds just that.
use Rattle.std.specs.Prelude.{Bool, true, false, not, ◌&&◌, ◌||◌, nat_lt, map, filter}
use Rattle.f2b_base.specs.declared.addr.Addr.{Addr}
use Rattle.f2b_base.specs.declared.addr.Addr.TheVariants.{V4, V6}
use Rattle.f2b_base.specs.declared.ban.Ban.{Ban}
use Rattle.f2b_base.specs.declared.ban.Failure.{Failure}
use Rattle.f2b_base.specs.declared.ban.Past.{Past}
use Rattle.f2b_model.specs.declared.jail_now.JailNow.{JailNow}
use Rattle.f2b_model.specs.Lists.{in_order}
use Rattle.f2b_model.specs.Full.{is_recent}
use Rattle.f2b_model.specs.State.{Jail, JailsOf, map_jails, JailsState, open_of, active_of, kept_of}

-- IPv4 before IPv6, then by number
abbrev pub addr_before : Addr → Addr → Bool
addr_before (V4 a) (V4 b) = nat_lt a b
addr_before (V4 a) (V6 b) = true
addr_before (V6 a) (V4 b) = false
addr_before (V6 a) (V6 b) = nat_lt a b

-- by address, then time
abbrev pub comes_before : Failure → Failure → Bool
comes_before f g = addr_before f.addr g.addr || (not (addr_before g.addr f.addr) && nat_lt f.time g.time)

-- the middle state
abbrev pub JailsNow : Type 0
JailsNow = JailsOf JailNow

-- what still matters of a jail: recent open failures in order, active bans, kept ends
abbrev pub jail_now : Jail → JailNow
jail_now j = record {
  definition = j.definition;
  idle = j.idle;
  total_failed = j.total_failed;
  total_banned = j.total_banned;
  moment = j.moment;
  watches = j.watches;
  failures = in_order comes_before (filter (is_recent j.moment j.definition.findtime) (open_of j.failures));
  bans = active_of j.bans;
  past = kept_of j.endings;
}

-- the middle state of a state
abbrev pub jails_now_of : JailsState → JailsNow
jails_now_of s = map_jails jail_now s

-- the jail whose lists hold just what still matters
abbrev pub jail_from : JailNow → Jail
jail_from j = record {
  definition = j.definition;
  idle = j.idle;
  total_failed = j.total_failed;
  total_banned = j.total_banned;
  moment = j.moment;
  watches = j.watches;
  failures = map (λ (f : Failure). record { failure = f; is_open = true }) j.failures;
  bans = map (λ (b : Ban). record { ban = b; is_active = true }) j.bans;
  endings = map (λ (p : Past). record { past = p; is_kept = true }) j.past;
}

-- the state of a middle state
abbrev pub jails_from : JailsNow → JailsState
jails_from n = map_jails jail_from n
