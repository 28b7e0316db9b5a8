-- Jails, servers and events of the worked rows.
use Rattle.std.proofs.Common.{ℕ, true, false, Bool, Option, Some, None, List, [], ◌∷◌, ◌++◌, pos}
use Rattle.std.specs.Prelude.{codes}
use Rattle.f2b_base.specs.declared.addr.Addr.TheVariants.{V4}
use Rattle.f2b_base.specs.declared.ban.Ban.{Ban}
use Rattle.f2b_base.specs.declared.ban.Until.TheVariants.{At}
use Rattle.f2b_base.specs.declared.jail.DateSpec.TheVariants.{NoDate}
use Rattle.f2b_base.specs.declared.jail.JailDef.{JailDef}
use Rattle.f2b_base.specs.declared.jail.Place.{Place}
use Rattle.f2b_base.specs.declared.jail.WatchDef.{WatchDef}
use Rattle.f2b_base.specs.declared.view.JailView.{JailView}
use Rattle.f2b_base.specs.declared.view.View.{View}
use Rattle.f2b_base.specs.declared.view.WatchView.{WatchView}
use Rattle.f2b_model.specs.Views.{back}
use Rattle.f2b_world.specs.Walks.{after}
use Rattle.f2b_world.specs.declared.answer.Accept.TheVariants.{Quiet}
use Rattle.f2b_world.specs.declared.answer.Listen.TheVariants.{Listening}
use Rattle.f2b_world.specs.declared.answer.Look.{Look}
use Rattle.f2b_world.specs.declared.answer.StoreAnswer.TheVariants.{Kept}
use Rattle.f2b_world.specs.declared.answer.Synced.TheVariants.{Done as SyncDone}
use Rattle.f2b_world.specs.declared.answer.Wrote.TheVariants.{Done as WroteDone}
use Rattle.f2b_world.specs.declared.event.Event.{Event}
use Rattle.f2b_world.specs.declared.event.Event.TheVariants.{Clock, DiskSync, DiskWrite, GateAccept, GateListen, Look as LookAt, StoreAt}
use Rattle.child_table.specs.Children.{nobody}
use Rattle.journal_slots.specs.declared.head.Head.TheVariants.{Short, Ajar}
use Rattle.log_set.specs.Logs.{Watching}
use Rattle.run_law.specs.Law.{Free, MayCome, feed, standing}
use Rattle.run_law.specs.Points.{Point, Run, AtTurn, AtClock}
use Rattle.run_law.specs.Server.{Server}
use Rattle.run_law.specs.declared.plan.Plan.{Plan}
use Rattle.slot_writes.specs.declared.position.Position.{Position}

-- a jail of undated lines, with these patterns of failures and these paths
abbrev pub jail : List ℕ → List (List ℕ) → List WatchDef → JailDef
jail name fail watches = record {
  name = name;
  watches = watches;
  zone = pos 0;
  date = NoDate;
  pref = None;
  fail = fail;
  ignore_lines = [];
  ignore = [];
  findtime = 600;
  maxretry = 3;
  maxmatches = 0;
  rule = record { base = pos 600; increment = false; factor = 1000; multipliers = []; maxtime = 5000; rndtime = 0 };
  actions = [];
}

-- a log from its beginning
abbrev pub from_head : List ℕ → WatchDef
from_head path = record { path = path; tail = false }

abbrev pub shown : List ℕ → Bool → List WatchView → List Ban → JailView
shown name idle watches bans = record {
  name = name;
  idle = idle;
  total_failed = 0;
  total_banned = 0;
  moment = 0;
  failures = [];
  bans = bans;
  past = [];
  watches = watches;
}

-- a view of these two jails at 900
abbrev pub view_of_two : JailView → JailView → View
view_of_two one two = record {
  at = 900;
  defs = record { purge = 86400; jails = jail (codes "a") [] (from_head (codes "/a") ∷ []) ∷ jail (codes "b") [] (from_head (codes "/b") ∷ []) ∷ [] };
  stopping = false;
  up = [];
  jails = one ∷ two ∷ [];
  jobs = [];
  next_job = 0;
  next_ban = 2;
}

abbrev pub log : List ℕ → List ℕ → Place → List ℕ → Watching
log jail path base seen = record { jail = jail; path = path; watch = record { base = base; seen = seen } }

-- a journal whose current slot has room
abbrev pub roomy : Position
roomy = record { limit = 67108864; slot = 0; generation = 1; grows = true; gate = 25; head = Ajar; other = Short }

-- a server of that view that follows these logs, with no client and so many turns left
abbrev pub server : View → List Watching → ℕ → Server
server view logs left = record {
  state = back view;
  position = roomy;
  now = 900;
  word = 0;
  logs = logs;
  children = nobody;
  clients = [];
  left = left;
}

abbrev pub plan : Plan
plan = record { root = codes "/c"; turns = 9; limit = 67108864 }

-- slots that hold nothing
abbrev pub no_slots : ℕ → List ℕ
no_slots slot = []

-- its run at the clock of a turn
abbrev pub turning : Server → Run
turning s = standing plan no_slots (AtTurn AtClock s)

abbrev pub after_all : Run → List Event → Run
after_all r es = after feed MayCome Free r es

abbrev pub clock : ℕ → Event
clock secs = Clock (record { secs = secs; word = 0 })

-- a look from an offset on
abbrev pub look : List ℕ → ℕ → Look → Event
look path from answer = LookAt path 64 from 65536 answer

-- the slots of a journal are named
abbrev pub named_slots : List ℕ → Event
named_slots socket = StoreAt socket Kept

-- clients can connect
abbrev pub listening : List ℕ → Event
listening socket = GateListen socket Listening

-- no client comes
abbrev pub nobody_comes : Event
nobody_comes = GateAccept Quiet

-- a write and the sync behind it, both done; where they lead does not depend on what is written
abbrev pub one_written : List Event
one_written = DiskWrite 0 0 [] WroteDone ∷ DiskSync 0 SyncDone ∷ []

-- an input is added to a slot
abbrev pub added : List Event
added = one_written ++ one_written

-- an input changes slots, of which the new one was short or open
abbrev pub changed : List Event
changed = one_written ++ added ++ added

-- the moment of the last input
abbrev pub last_input : Point → Option ℕ
last_input (AtTurn place s) = Some s.state.jails.at
last_input _ = None

-- 192.0.2.7 and 192.0.2.8, banned until that moment
abbrev pub seventh : ℕ → Ban
seventh end = record { serial = 0; addr = V4 3221225991; begin = 800; until = At end; count = 0; failures = 3 }

abbrev pub eighth : ℕ → Ban
eighth end = record { serial = 1; addr = V4 3221225992; begin = 800; until = At end; count = 0; failures = 3 }
