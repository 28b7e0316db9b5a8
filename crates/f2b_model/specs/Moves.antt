-- The moves of a step on one jail with whole lists.
use Rattle.std.specs.Prelude.{ℕ, suc, ◌+◌, ◌-◌, ◌^◌, min, Bool, true, false, cond, not, ◌&&◌, ◌==◌, nat_lt, nat_le, List, [], ◌∷◌, ◌++◌, length, filter, ℤ}
use Rattle.std.specs.List.{list_any}
use Rattle.f2b_base.specs.declared.addr.Addr.{Addr}
use Rattle.f2b_base.specs.declared.addr.Cidr.{Cidr}
use Rattle.f2b_base.specs.declared.ban.Ban.{Ban}
use Rattle.f2b_base.specs.declared.ban.Failure.{Failure}
use Rattle.f2b_base.specs.declared.jail.JailDef.{JailDef}
use Rattle.f2b_base.specs.declared.jail.Place.{Place}
use Rattle.f2b_base.specs.declared.ban.Past.{Past}
use Rattle.f2b_base.specs.Addresses.{same_addr}
use Rattle.f2b_model.specs.Full.{is_of, is_full}
use Rattle.f2b_model.specs.Lists.{in_order}
use Rattle.f2b_model.specs.Matches.{matches_of}
use Rattle.f2b_model.specs.Until.{until_of}
use Rattle.f2b_model.specs.Watches.{watches_of, with_place}
use Rattle.f2b_model.specs.State.{Jail, open_of, active_of, kept_of, forget, stop, drop_ends}

-- one more, but the greatest u64 stays
abbrev pub plus_one_capped : ℕ → ℕ
plus_one_capped n = min (n + 1) (2 ^ 64 - 1)

-- at most the greatest u32
abbrev pub up_to_32 : ℕ → ℕ
up_to_32 n = min n (2 ^ 32 - 1)

-- whether a ban is the address's
abbrev pub ban_of : Addr → Ban → Bool
ban_of addr b = same_addr b.addr addr

-- whether a past entry is the address's
abbrev pub past_of : Addr → Past → Bool
past_of addr p = same_addr p.addr addr

-- whether some of the bans is the address's
abbrev pub is_banned : Addr → List Ban → Bool
is_banned addr bans = list_any (ban_of addr) bans

-- whether a failure of the address is less than `findtime` from a time, before or after
abbrev pub is_near_to : Addr → ℕ → ℕ → Failure → Bool
is_near_to addr time findtime g = is_of addr g && (nat_lt time (g.time + findtime) && nat_lt g.time (time + findtime))

-- whether a failure is so near to another one of its address
abbrev pub is_near : ℕ → Failure → Failure → Bool
is_near findtime f g = is_near_to f.addr f.time findtime g

-- a jail and the next serial
pub record JailAndSerial (J : Type 0) : Type 0 where
  pub jail : J
  pub next : ℕ

-- at most `at`, and less than `findtime` before it
abbrev pub is_timely : ℕ → ℕ → ℕ → Bool
is_timely at findtime time = nat_le time at && nat_lt at (time + findtime)

-- A failure counts where its address is not banned and it is timely.
abbrev pub counts : ℕ → JailDef → List Ban → Failure → Bool
counts at d bans f = not (is_banned f.addr bans) && is_timely at d.findtime f.time

-- a failure is counted
abbrev pub counted : ℕ → Failure → Jail → Jail
counted at f j = record j {
  total_failed = plus_one_capped j.total_failed;
  moment = at;
  failures = j.failures ++ record { failure = f; is_open = true } ∷ [];
}

-- by time
abbrev pub earlier : Failure → Failure → Bool
earlier f g = nat_lt f.time g.time

-- what the ban shows that a found failure begins: the lines of the failures that led to it, by time
abbrev pub shown : ℕ → Failure → Jail → List ℕ
shown at f j = matches_of j.definition.maxmatches (in_order earlier (filter (is_near j.definition.findtime f) (open_of (counted at f j).failures)))

-- the ban that begins now
abbrev pub new_ban : JailDef → List Past → ℕ → ℕ → ℕ → Addr → ℕ → Ban
new_ban d past at word serial addr failures =
    let count = up_to_32 (length (filter (past_of addr) past)) in
    record { serial = serial; addr = addr; begin = at; until = until_of d.rule at count word serial; count = count; failures = up_to_32 failures }

-- a ban begins and forgets the address's open failures
abbrev pub begun : ℕ → ℕ → ℕ → Addr → ℕ → Jail → Jail
begun at word serial addr failures j = record j {
  total_banned = plus_one_capped j.total_banned;
  failures = forget (is_of addr) j.failures;
  bans = j.bans ++ record { ban = new_ban j.definition (kept_of j.endings) at word serial addr failures; is_active = true } ∷ [];
}

-- after a failure was counted: its address is banned where it is full
abbrev pub judged : ℕ → ℕ → ℕ → Failure → Jail → JailAndSerial Jail
judged at word serial f j =
    cond (is_full j.definition.findtime j.definition.maxretry f.addr (open_of j.failures))
    (record { jail = begun at word serial f.addr (length (filter (is_near j.definition.findtime f) (open_of j.failures))) j; next = suc serial })
    (record { jail = j; next = serial })

-- a found failure: it may count, and its address is then banned where it is full
abbrev pub found : ℕ → ℕ → ℕ → Failure → Jail → JailAndSerial Jail
found at word serial f j =
    cond (counts at j.definition (active_of j.bans) f) (judged at word serial f (counted at f j)) (record { jail = j; next = serial })

-- a ban by command, of an address that is not banned
abbrev pub banned : ℕ → ℕ → ℕ → Addr → Jail → JailAndSerial Jail
banned at word serial addr j =
    cond (is_banned addr (active_of j.bans)) (record { jail = j; next = serial }) (record { jail = begun at word serial addr 0 j; next = suc serial })

-- the end of an address's ban at a moment, where it is banned
abbrev pub ended : Addr → ℕ → Jail → Jail
ended addr moment j =
    cond (is_banned addr (active_of j.bans))
    (record j { bans = stop (ban_of addr) j.bans; endings = j.endings ++ record { past = record { addr = addr; end = moment }; is_kept = true } ∷ [] })
    j

-- whether a past entry's end is at most `at - purge`, which none is where `at` is less than `purge`
abbrev pub is_stale : ℕ → ℕ → Past → Bool
is_stale at purge p = nat_le (p.end + purge) at

-- past entries that are over for long are dropped
abbrev pub dropped : ℕ → ℕ → Jail → Jail
dropped at purge j = record j { endings = drop_ends (is_stale at purge) j.endings }

-- other limits forget all open failures of the jail
abbrev pub limited : ℕ → ℕ → Jail → Jail
limited findtime maxretry j =
    cond ((findtime == j.definition.findtime) && (maxretry == j.definition.maxretry)) j
    (record j { definition = record (j.definition) { findtime = findtime; maxretry = maxretry }; failures = forget (λ f. true) j.failures })

-- another span of the bans to come
abbrev pub spanned : ℤ → JailDef → JailDef
spanned secs d = record d { rule = record (d.rule) { base = secs } }

-- whether two masks are one
abbrev pub same_cidr : Cidr → Cidr → Bool
same_cidr a b = same_addr a.base b.base && (a.bits == b.bits)

-- a mask of addresses that are never banned: it is added at the end unless it is there, or each equal one is taken out
abbrev pub ignored : Cidr → Bool → JailDef → JailDef
ignored cidr true d = record d { ignore = cond (list_any (same_cidr cidr) d.ignore) d.ignore (d.ignore ++ cidr ∷ []) }
ignored cidr false d = record d { ignore = filter (λ (c : Cidr). not (same_cidr cidr c)) d.ignore }

-- the log of a path was followed to a place
abbrev pub followed : List ℕ → Place → Jail → Jail
followed path place j = record j { watches = with_place path place j.watches }

-- a jail that a configuration keeps, under its new definition
abbrev pub kept : JailDef → Jail → Jail
kept d j = record (limited d.findtime d.maxretry j) { definition = d; idle = false; watches = watches_of d.watches j.watches }

-- a jail that a configuration adds
abbrev pub fresh : JailDef → Jail
fresh d = record {
  definition = d;
  idle = false;
  total_failed = 0;
  total_banned = 0;
  moment = 0;
  watches = watches_of d.watches [];
  failures = [];
  bans = [];
  endings = [];
}
