-- The moves of a step on a jail's middle state: its lists are pruned, so each move is one that code can make.
use Rattle.std.specs.Prelude.{ℕ, suc, false, cond, List, not, ◌&&◌, ◌==◌, [], ◌∷◌, ◌++◌, length, filter}
use Rattle.f2b_base.specs.declared.addr.Addr.{Addr}
use Rattle.f2b_base.specs.declared.ban.Failure.{Failure}
use Rattle.f2b_base.specs.declared.jail.JailDef.{JailDef}
use Rattle.f2b_base.specs.declared.jail.Place.{Place}
use Rattle.f2b_model.specs.Lists.{placed}
use Rattle.f2b_model.specs.Matches.{matches_of}
use Rattle.f2b_model.specs.Full.{is_of, is_full, is_recent}
use Rattle.f2b_model.specs.Watches.{watches_of, with_place}
use Rattle.f2b_model.specs.declared.jail_now.JailNow.{JailNow}
use Rattle.f2b_model.specs.Nows.{comes_before}
use Rattle.f2b_model.specs.Moves.{plus_one_capped, ban_of, is_banned, is_near, JailAndSerial, counts, new_ban, is_stale}

-- a failure is counted: it goes in, and what is no longer recent goes
abbrev pub counted_now : ℕ → Failure → JailNow → JailNow
counted_now at f j = record j {
  total_failed = plus_one_capped j.total_failed;
  moment = at;
  failures = filter (is_recent at j.definition.findtime) (placed comes_before f j.failures);
}

-- what the ban shows that a found failure begins: the lines of the failures that led to it, which stand by time
abbrev pub shown_now : ℕ → Failure → JailNow → List ℕ
shown_now at f j = matches_of j.definition.maxmatches (filter (is_near j.definition.findtime f) (counted_now at f j).failures)

-- a ban begins, and the address's failures go
abbrev pub begun_now : ℕ → ℕ → ℕ → Addr → ℕ → JailNow → JailNow
begun_now at word serial addr failures j = record j {
  total_banned = plus_one_capped j.total_banned;
  failures = filter (λ f. not (is_of addr f)) j.failures;
  bans = j.bans ++ new_ban j.definition j.past at word serial addr failures ∷ [];
}

-- after a failure was counted: its address is banned where it is full
abbrev pub judged_now : ℕ → ℕ → ℕ → Failure → JailNow → JailAndSerial JailNow
judged_now at word serial f j =
    cond (is_full j.definition.findtime j.definition.maxretry f.addr j.failures)
    (record { jail = begun_now at word serial f.addr (length (filter (is_near j.definition.findtime f) j.failures)) j; next = suc serial })
    (record { jail = j; next = serial })

-- a found failure: it may count, and its address is then banned where it is full
abbrev pub found_now : ℕ → ℕ → ℕ → Failure → JailNow → JailAndSerial JailNow
found_now at word serial f j =
    cond (counts at j.definition j.bans f) (judged_now at word serial f (counted_now at f j)) (record { jail = j; next = serial })

-- a ban by command, of an address that is not banned
abbrev pub banned_now : ℕ → ℕ → ℕ → Addr → JailNow → JailAndSerial JailNow
banned_now at word serial addr j =
    cond (is_banned addr j.bans) (record { jail = j; next = serial }) (record { jail = begun_now at word serial addr 0 j; next = suc serial })

-- the end of an address's ban at a moment, where it is banned
abbrev pub ended_now : Addr → ℕ → JailNow → JailNow
ended_now addr moment j =
    cond (is_banned addr j.bans)
    (record j { bans = filter (λ b. not (ban_of addr b)) j.bans; past = j.past ++ record { addr = addr; end = moment } ∷ [] })
    j

-- past entries that are over for long are dropped
abbrev pub dropped_now : ℕ → ℕ → JailNow → JailNow
dropped_now at purge j = record j { past = filter (λ p. not (is_stale at purge p)) j.past }

-- other limits forget all failures of the jail
abbrev pub limited_now : ℕ → ℕ → JailNow → JailNow
limited_now findtime maxretry j =
    cond ((findtime == j.definition.findtime) && (maxretry == j.definition.maxretry)) j
    (record j { definition = record (j.definition) { findtime = findtime; maxretry = maxretry }; failures = [] })

-- the log of a path was followed to a place
abbrev pub followed_now : List ℕ → Place → JailNow → JailNow
followed_now path place j = record j { watches = with_place path place j.watches }

-- a jail that a configuration keeps, under its new definition
abbrev pub kept_now : JailDef → JailNow → JailNow
kept_now d j = record (limited_now d.findtime d.maxretry j) { definition = d; idle = false; watches = watches_of d.watches j.watches }

-- a jail that a configuration adds
abbrev pub fresh_now : JailDef → JailNow
fresh_now d = record {
  definition = d;
  idle = false;
  total_failed = 0;
  total_banned = 0;
  moment = 0;
  watches = watches_of d.watches [];
  failures = [];
  bans = [];
  past = [];
}
