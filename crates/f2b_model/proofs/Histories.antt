-- Histories: what a server keeps after some inputs from the empty state. Each view was worked out by hand from the rules.
use Rattle.std.proofs.Common.{ℕ, ◌≡◌, true, false, Option, Some, None, List, [], ◌∷◌, ◌++◌, refl, pos, negsuc}
use Rattle.std.specs.Fmt.{digits}
use Rattle.std.specs.Net.Text.{hex_groups_text, hex}
use Rattle.std.specs.Prelude.{codes, option_map}
use Rattle.std.specs.Str.{chars}
use Rattle.f2b_base.specs.declared.addr.Addr.{Addr}
use Rattle.f2b_base.specs.declared.addr.Addr.TheVariants.{V4, V6}
use Rattle.f2b_base.specs.declared.addr.Cidr.{Cidr}
use Rattle.f2b_base.specs.declared.addr.Family.{Family}
use Rattle.f2b_base.specs.declared.addr.Family.TheVariants.{Both, Inet4, Inet6}
use Rattle.f2b_base.specs.declared.ban.Ban.{Ban as Banned}
use Rattle.f2b_base.specs.declared.ban.BanRule.{BanRule}
use Rattle.f2b_base.specs.declared.ban.Failure.{Failure}
use Rattle.f2b_base.specs.declared.ban.Past.{Past}
use Rattle.f2b_base.specs.declared.ban.Until.TheVariants.{Never, At}
use Rattle.f2b_base.specs.declared.input.Input.{Input}
use Rattle.f2b_base.specs.declared.input.What.{What}
use Rattle.f2b_base.specs.declared.input.What.TheVariants.{Tick, Read, Ended, Config, Stop as StopAll, Ban as BanThese, Unban as UnbanThese, Attempt, Ignore, Findtime, Bantime, Idle, CheckFailed}
use Rattle.f2b_base.specs.declared.jail.ActionDef.{ActionDef}
use Rattle.f2b_base.specs.declared.jail.DateSpec.TheVariants.{Default}
use Rattle.f2b_base.specs.declared.jail.JailDef.{JailDef}
use Rattle.f2b_base.specs.declared.jail.Place.{Place}
use Rattle.f2b_base.specs.declared.jail.Place.TheVariants.{Tail, Pos}
use Rattle.f2b_base.specs.declared.job.Job.{Job}
use Rattle.f2b_base.specs.declared.job.JobKind.{JobKind}
use Rattle.f2b_base.specs.declared.job.JobKind.TheVariants.{Start, Stop, Ban, Unban, Reban}
use Rattle.f2b_base.specs.declared.job.Outcome.{Outcome}
use Rattle.f2b_base.specs.declared.job.Outcome.TheVariants.{Status, NotStarted, TimedOut}
use Rattle.f2b_base.specs.declared.job.UpLane.{UpLane}
use Rattle.f2b_base.specs.declared.job.LaneId.{LaneId}
use Rattle.f2b_base.specs.declared.view.JailView.{JailView}
use Rattle.f2b_base.specs.declared.view.View.{View}
use Rattle.f2b_model.specs.declared.lane_happening.LaneHappening.TheVariants.{TryFails, CheckFails, Restarts}
use Rattle.f2b_base.specs.Addresses.{printed, octets, groups}
use Rattle.f2b_base.specs.Span.{growth, plain_span, span_of}
use Rattle.f2b_model.specs.Checks.{check_of}
use Rattle.f2b_model.specs.Jobs.{pending}
use Rattle.f2b_model.specs.Matches.{matches_of}
use Rattle.f2b_model.specs.Render.{rendered}
use Rattle.f2b_model.specs.Views.{view_of}
use Rattle.f2b_model.specs.Whole.{steps, told, empty_state}

-- ---- a server with one jail

abbrev name : List ℕ
name = codes "sshd"

abbrev log : List ℕ
log = codes "/var/log/auth.log"

-- 192.0.2.7, 192.0.2.8 and 2001:db8::7
abbrev seven : Addr
seven = V4 3221225991

abbrev eight : Addr
eight = V4 3221225992

abbrev sixth : Addr
sixth = V6 42540766411282592856903984951653826567

-- a ban lasts ten minutes
abbrev ten_minutes : BanRule
ten_minutes = record { base = pos 600; increment = false; factor = 1000; multipliers = []; maxtime = 5000; rndtime = 0 }

-- three failures within ten minutes ban; the log is followed from its end
abbrev jail : List ActionDef → JailDef
jail actions = record {
  name = name;
  watches = record { path = log; tail = true } ∷ [];
  zone = pos 0;
  date = Default;
  pref = None;
  fail = [];
  ignore_lines = [];
  ignore = [];
  findtime = 600;
  maxretry = 3;
  maxmatches = 0;
  rule = ten_minutes;
  actions = actions;
}

abbrev plain : JailDef
plain = jail []

-- an action for a family, with the command that bans
abbrev action : Family → List ℕ → ActionDef
action family ban = record {
  name = codes "fw";
  family = family;
  start = codes "up";
  stop = codes "down";
  ban = ban;
  unban = codes "del <ip>";
  check = [];
  timeout = 60;
}

abbrev firewall : ActionDef
firewall = action Both (codes "add <ip>")

abbrev guarded : JailDef
guarded = jail (firewall ∷ [])

-- ---- inputs

abbrev sends : ℕ → What → Input
sends secs what = record { secs = secs; word = 0; what = what }

abbrev configures : ℕ → List JailDef → Input
configures secs jails = sends secs (Config (record { purge = 86400; jails = jails }))

abbrev fails : Addr → ℕ → Failure
fails addr time = record { addr = addr; time = time; line = [] }

-- the log was followed to here
abbrev here : Place
here = Pos 4 (codes "Nov ")

abbrev reads : ℕ → List Failure → Input
reads secs found = sends secs (Read name log here found)

abbrev bans : ℕ → List Addr → Input
bans secs addrs = sends secs (BanThese name addrs)

abbrev unbans : ℕ → Addr → Input
unbans secs addr = sends secs (UnbanThese (Some name) (Some (addr ∷ [])))

abbrev ends : ℕ → ℕ → Outcome → Input
ends secs job outcome = sends secs (Ended job outcome)

-- what is kept after these inputs
abbrev after : List Input → View
after inputs = view_of (steps empty_state inputs)

-- ---- what is kept

-- a jail in which nothing happened
abbrev quiet : JailView
quiet = record {
  name = name;
  idle = false;
  total_failed = 0;
  total_banned = 0;
  moment = 0;
  failures = [];
  bans = [];
  past = [];
  watches = record { path = log; place = Tail } ∷ [];
}

-- the same once its log was followed
abbrev followed : JailView
followed = record quiet { watches = record { path = log; place = here } ∷ [] }

-- a server of this jail alone, with no lane and no job
abbrev shows : ℕ → JailDef → JailView → View
shows at d j = record {
  at = at;
  defs = record { purge = 86400; jails = d ∷ [] };
  stopping = false;
  up = [];
  jails = j ∷ [];
  jobs = [];
  next_job = 0;
  next_ban = 0;
}

abbrev ban : ℕ → Addr → ℕ → ℕ → ℕ → Banned
ban serial addr begin end failures = record { serial = serial; addr = addr; begin = begin; until = At end; count = 0; failures = failures }

abbrev past : Addr → ℕ → Past
past addr end = record { addr = addr; end = end }

-- a pending job of the jail's action
abbrev job : ℕ → Family → JobKind → Option Addr → List ℕ → ℕ → Job
job id family kind addr text due = record {
  id = id;
  lane = record { jail = name; action = codes "fw"; family = family };
  kind = kind;
  addr = addr;
  text = text;
  timeout = 60;
  tries = 0;
  due = due;
}

abbrev up : ActionDef → UpLane
up a = record { jail = name; action = a }

-- ---- windows

-- 1. failures at 1100, 1300 and 1699 lie within 600 seconds: the third bans, for 600 seconds, and all three are forgotten
three_within : after (configures 1000 (plain ∷ []) ∷ reads 1100 (fails seven 1100 ∷ []) ∷ reads 1300 (fails seven 1300 ∷ []) ∷ reads 1699 (fails seven 1699 ∷ []) ∷ [])
    ≡ record (shows 1699 plain (record followed { total_failed = 3; total_banned = 1; moment = 1699; bans = ban 0 seven 1699 2299 3 ∷ [] })) { next_ban = 1 }
unfolding plain_span span_of
three_within = refl

-- 2. those at 1100, 1300 and 1700 do not: 1700 is 600 seconds after 1100. All three are less than 1200 seconds before the last
three_over : after (configures 1000 (plain ∷ []) ∷ reads 1100 (fails seven 1100 ∷ []) ∷ reads 1300 (fails seven 1300 ∷ []) ∷ reads 1700 (fails seven 1700 ∷ []) ∷ [])
    ≡ shows 1700 plain (record followed { total_failed = 3; moment = 1700; failures = fails seven 1100 ∷ fails seven 1300 ∷ fails seven 1700 ∷ [] })
three_over = refl

-- 3. the order of lines in a log does not matter, and a failure behind the one that bans does not count
any_order : after (configures 1000 (plain ∷ []) ∷ reads 1500 (fails seven 1500 ∷ fails seven 1100 ∷ fails seven 1300 ∷ fails seven 1400 ∷ []) ∷ [])
    ≡ record (shows 1500 plain (record followed { total_failed = 3; total_banned = 1; moment = 1500; bans = ban 0 seven 1500 2100 3 ∷ [] })) { next_ban = 1 }
unfolding plain_span span_of
any_order = refl

-- 4. a failure that is 600 seconds old, or to come, does not count
out_of_time : after (configures 1000 (plain ∷ []) ∷ reads 1700 (fails seven 1100 ∷ fails seven 1701 ∷ []) ∷ []) ≡ shows 1700 plain followed
out_of_time = refl

-- 5. a failure is kept for less than 1200 seconds: that of 1100 is there at 2299, and gone when one counts at 2300. Failures stand by address
kept_recent : after (configures 1000 (plain ∷ []) ∷ reads 1100 (fails eight 1100 ∷ []) ∷ reads 2299 (fails seven 2299 ∷ []) ∷ [])
    ≡ shows 2299 plain (record followed { total_failed = 2; moment = 2299; failures = fails seven 2299 ∷ fails eight 1100 ∷ [] })
kept_recent = refl

gone_recent : after (configures 1000 (plain ∷ []) ∷ reads 1100 (fails eight 1100 ∷ []) ∷ reads 2300 (fails seven 2300 ∷ []) ∷ [])
    ≡ shows 2300 plain (record followed { total_failed = 2; moment = 2300; failures = fails seven 2300 ∷ [] })
gone_recent = refl

-- 6. a ban forgets the failures of its address alone
forgets_its_own : after (configures 1000 (plain ∷ []) ∷ reads 1500 (fails eight 1490 ∷ fails seven 1500 ∷ fails seven 1500 ∷ fails seven 1500 ∷ []) ∷ [])
    ≡ record (shows 1500 plain (record followed { total_failed = 4; total_banned = 1; moment = 1500; failures = fails eight 1490 ∷ []; bans = ban 0 seven 1500 2100 3 ∷ [] })) { next_ban = 1 }
unfolding plain_span span_of
forgets_its_own = refl

-- 7. an attempt by command is one failure now
attempts : after (configures 1000 (plain ∷ []) ∷ sends 1001 (Attempt name seven) ∷ sends 1002 (Attempt name seven) ∷ sends 1003 (Attempt name seven) ∷ [])
    ≡ record (shows 1003 plain (record quiet { total_failed = 3; total_banned = 1; moment = 1003; bans = ban 0 seven 1003 1603 3 ∷ [] })) { next_ban = 1 }
unfolding plain_span span_of
attempts = refl

-- 8. another findtime forgets the open failures; what was counted stays counted
other_findtime : after (configures 1000 (plain ∷ []) ∷ reads 1100 (fails seven 1100 ∷ fails seven 1100 ∷ []) ∷ sends 1200 (Findtime name 700) ∷ [])
    ≡ shows 1200 (record plain { findtime = 700 }) (record followed { total_failed = 2; moment = 1100 })
other_findtime = refl

-- the same one forgets nothing
same_findtime : after (configures 1000 (plain ∷ []) ∷ reads 1100 (fails seven 1100 ∷ fails seven 1100 ∷ []) ∷ sends 1200 (Findtime name 600) ∷ [])
    ≡ shows 1200 plain (record followed { total_failed = 2; moment = 1100; failures = fails seven 1100 ∷ fails seven 1100 ∷ [] })
same_findtime = refl

-- ---- bans

-- 9. a ban from 1000 ends at 1600 and not before
still_banned : after (configures 1000 (plain ∷ []) ∷ bans 1000 (seven ∷ []) ∷ sends 1599 Tick ∷ [])
    ≡ record (shows 1599 plain (record quiet { total_banned = 1; bans = ban 0 seven 1000 1600 0 ∷ [] })) { next_ban = 1 }
unfolding plain_span span_of
still_banned = refl

no_more_banned : after (configures 1000 (plain ∷ []) ∷ bans 1000 (seven ∷ []) ∷ sends 1700 Tick ∷ [])
    ≡ record (shows 1700 plain (record quiet { total_banned = 1; past = past seven 1600 ∷ [] })) { next_ban = 1 }
unfolding plain_span span_of
no_more_banned = refl

-- 10. who is banned is not banned again
once_only : after (configures 1000 (plain ∷ []) ∷ bans 1000 (seven ∷ []) ∷ bans 1001 (seven ∷ eight ∷ []) ∷ [])
    ≡ record (shows 1001 plain (record quiet { total_banned = 2; bans = ban 0 seven 1000 1600 0 ∷ ban 1 eight 1001 1601 0 ∷ [] })) { next_ban = 2 }
unfolding plain_span span_of
once_only = refl

-- 11. bans that grow: after one ban that is over the next lasts twice as long, 1200 seconds
abbrev growing : JailDef
growing = record plain { rule = record ten_minutes { increment = true } }

grows : after (configures 1000 (growing ∷ []) ∷ bans 1000 (seven ∷ []) ∷ unbans 1100 seven ∷ bans 1200 (seven ∷ []) ∷ [])
    ≡ record (shows 1200 growing (record quiet {
      total_banned = 2;
      bans = record (ban 1 seven 1200 2400 0) { count = 1 } ∷ [];
      past = past seven 1100 ∷ [];
    })) { next_ban = 2 }
unfolding growth plain_span span_of
grows = refl

-- 12. a ban with a negative span never ends, not even at the last moment that there is
endless : after (configures 1000 (plain ∷ []) ∷ sends 1000 (Bantime name (negsuc 0)) ∷ bans 1000 (seven ∷ []) ∷ sends 1099511627775 Tick ∷ [])
    ≡ record (shows 1099511627775 (record plain { rule = record ten_minutes { base = negsuc 0 } })
    (record quiet { total_banned = 1; bans = record (ban 0 seven 1000 0 0) { until = Never } ∷ [] })) { next_ban = 1 }
unfolding plain_span span_of
endless = refl

-- 13. bans that are due end in the order of their ends, whatever their serials
by_their_ends : after (configures 1000 (plain ∷ []) ∷ bans 1000 (seven ∷ []) ∷ sends 1000 (Bantime name (pos 300)) ∷ bans 1000 (eight ∷ []) ∷ sends 1000 (Bantime name (pos 600)) ∷ sends 2000 Tick ∷ [])
    ≡ record (shows 2000 plain (record quiet { total_banned = 2; past = past eight 1300 ∷ past seven 1600 ∷ [] })) { next_ban = 2 }
unfolding plain_span span_of
by_their_ends = refl

-- 14. two ends at one moment stand as they came: at 1600 first the ban that is due ends, then the command's
two_ends : after (configures 1000 (plain ∷ []) ∷ sends 1000 (Bantime name (negsuc 0)) ∷ bans 1000 (seven ∷ []) ∷ sends 1000 (Bantime name (pos 600)) ∷ bans 1000 (eight ∷ []) ∷ sends 1600 (UnbanThese None None) ∷ [])
    ≡ record (shows 1600 plain (record quiet { total_banned = 2; past = past eight 1600 ∷ past seven 1600 ∷ [] })) { next_ban = 2 }
unfolding plain_span span_of
two_ends = refl

-- 15. a ban that is over for `purge` seconds counts no more: with 100 seconds, one of 1100 is there at 1199 and gone at 1200
abbrev forgetful : Input
forgetful = sends 1000 (Config (record { purge = 100; jails = plain ∷ [] }))

not_purged : after (forgetful ∷ bans 1000 (seven ∷ []) ∷ unbans 1100 seven ∷ sends 1199 Tick ∷ [])
    ≡ record (shows 1199 plain (record quiet { total_banned = 1; past = past seven 1100 ∷ [] })) { defs = record { purge = 100; jails = plain ∷ [] }; next_ban = 1 }
unfolding plain_span span_of
not_purged = refl

purged : after (forgetful ∷ bans 1000 (seven ∷ []) ∷ unbans 1100 seven ∷ sends 1200 Tick ∷ [])
    ≡ record (shows 1200 plain (record quiet { total_banned = 1 })) { defs = record { purge = 100; jails = plain ∷ [] }; next_ban = 1 }
unfolding plain_span span_of
purged = refl

-- ---- logs, lists and switches

-- 16. what was read of a log that the jail does not watch is nothing, and so is what names no jail; but time passed
not_watched : after (configures 1000 (plain ∷ []) ∷ sends 1100 (Read name (codes "/other") here (fails seven 1100 ∷ [])) ∷ []) ≡ shows 1100 plain quiet
not_watched = refl

no_such_jail : after (configures 1000 (plain ∷ []) ∷ sends 1100 (Read (codes "web") log here (fails seven 1100 ∷ [])) ∷ []) ≡ shows 1100 plain quiet
no_such_jail = refl

-- 17. a configuration keeps the places of logs that stay; a new log begins at its start, or at its end where it is to
abbrev three_logs : JailDef
three_logs = record plain {
  watches = record { path = codes "/new"; tail = false } ∷ record { path = log; tail = true } ∷ record { path = codes "/tail"; tail = true } ∷ [];
}

places : after (configures 1000 (plain ∷ []) ∷ reads 1100 [] ∷ configures 1200 (three_logs ∷ []) ∷ [])
    ≡ shows 1200 three_logs (record quiet {
      watches = record { path = codes "/new"; place = Pos 0 [] } ∷ record { path = log; place = here } ∷ record { path = codes "/tail"; place = Tail } ∷ [];
    })
places = refl

-- 18. a mask of addresses that are never banned is added once, and taken out; a configuration brings back its own list
abbrev mask : Cidr
mask = record { base = V4 3221225984; bits = 24 }

ignores : after (configures 1000 (plain ∷ []) ∷ sends 1001 (Ignore name mask true) ∷ sends 1002 (Ignore name mask true) ∷ []) ≡ shows 1002 (record plain { ignore = mask ∷ [] }) quiet
ignores = refl

ignores_no_more : after (configures 1000 (plain ∷ []) ∷ sends 1001 (Ignore name mask true) ∷ sends 1002 (Ignore name mask false) ∷ []) ≡ shows 1002 plain quiet
ignores_no_more = refl

ignores_as_configured : after (configures 1000 (plain ∷ []) ∷ sends 1001 (Ignore name mask true) ∷ configures 1002 (plain ∷ []) ∷ []) ≡ shows 1002 plain quiet
ignores_as_configured = refl

-- 19. a jail is idle until a command or a configuration ends it
idles : after (configures 1000 (plain ∷ []) ∷ sends 1001 (Idle name true) ∷ []) ≡ shows 1001 plain (record quiet { idle = true })
idles = refl

idles_no_more : after (configures 1000 (plain ∷ []) ∷ sends 1001 (Idle name true) ∷ configures 1002 (plain ∷ []) ∷ []) ≡ shows 1002 plain quiet
idles_no_more = refl

-- 20. a clock that goes back changes nothing: the greatest moment stays
never_back : after (configures 1000 (plain ∷ []) ∷ sends 950 Tick ∷ bans 960 (seven ∷ []) ∷ [])
    ≡ record (shows 1000 plain (record quiet { total_banned = 1; bans = ban 0 seven 1000 1600 0 ∷ [] })) { next_ban = 1 }
unfolding plain_span span_of
never_back = refl

-- ---- lanes and jobs

-- the server of the guarded jail with its lane up, and these jobs pending
abbrev guards : ℕ → JailView → List Job → ℕ → ℕ → View
guards at j jobs next_job next_ban = record (shows at guarded j) { up = up firewall ∷ []; jobs = jobs; next_job = next_job; next_ban = next_ban }

abbrev banned_at_1001 : JailView
banned_at_1001 = record quiet { total_banned = 1; bans = ban 0 seven 1001 1601 0 ∷ [] }

-- 21. a configuration starts its lane, and a ban is a job of it
starts_and_bans : after (configures 1000 (guarded ∷ []) ∷ bans 1001 (seven ∷ []) ∷ [])
    ≡ guards 1001 banned_at_1001 (job 0 Both Start None (codes "up") 1000 ∷ job 1 Both Ban (Some seven) (codes "add 192.0.2.7") 1001 ∷ []) 2 1
unfolding plain_span span_of rendered printed octets digits
starts_and_bans = refl

-- 22. an unban while the ban is pending takes nothing back: it is a job behind it
unban_behind : after (configures 1000 (guarded ∷ []) ∷ ends 1000 0 (Status (pos 0)) ∷ bans 1001 (seven ∷ []) ∷ unbans 1002 seven ∷ [])
    ≡ guards 1002 (record quiet { total_banned = 1; past = past seven 1002 ∷ [] })
    (job 1 Both Ban (Some seven) (codes "add 192.0.2.7") 1001 ∷ job 2 Both Unban (Some seven) (codes "del 192.0.2.7") 1002 ∷ []) 3 1
unfolding plain_span span_of rendered printed octets digits
unban_behind = refl

-- 23. a job that fails is tried again 2 seconds later, then 4, and the third failure gives it up
one_failure : after (configures 1000 (guarded ∷ []) ∷ ends 1001 0 (Status (pos 1)) ∷ []) ≡ guards 1001 quiet (record (job 0 Both Start None (codes "up") 1003) { tries = 1 } ∷ []) 1 0
unfolding rendered
one_failure = refl

two_failures : after (configures 1000 (guarded ∷ []) ∷ ends 1001 0 (Status (pos 1)) ∷ ends 1003 0 TimedOut ∷ [])
    ≡ guards 1003 quiet (record (job 0 Both Start None (codes "up") 1007) { tries = 2 } ∷ []) 1 0
unfolding rendered
two_failures = refl

three_failures : after (configures 1000 (guarded ∷ []) ∷ ends 1001 0 (Status (pos 1)) ∷ ends 1003 0 TimedOut ∷ ends 1007 0 NotStarted ∷ []) ≡ guards 1007 quiet [] 1 0
unfolding rendered
three_failures = refl

-- 24. an ending of a job that is not the first of its lane, or of none, changes nothing
not_the_first : after (configures 1000 (guarded ∷ []) ∷ bans 1001 (seven ∷ []) ∷ ends 1002 1 (Status (pos 0)) ∷ ends 1003 9 (Status (pos 0)) ∷ [])
    ≡ guards 1003 banned_at_1001 (job 0 Both Start None (codes "up") 1000 ∷ job 1 Both Ban (Some seven) (codes "add 192.0.2.7") 1001 ∷ []) 2 1
unfolding plain_span span_of rendered printed octets digits
not_the_first = refl

-- 25. a stop takes the ban back, stops the lane and leaves it down; the ban stays in the jail
abbrev banned_and_done : List Input
banned_and_done = configures 1000 (guarded ∷ []) ∷ bans 1001 (seven ∷ []) ∷ ends 1002 0 (Status (pos 0)) ∷ ends 1003 1 (Status (pos 0)) ∷ []

stops : after (banned_and_done ++ sends 1010 StopAll ∷ [])
    ≡ record (guards 1010 banned_at_1001 (job 2 Both Unban (Some seven) (codes "del 192.0.2.7") 1010 ∷ job 3 Both Stop None (codes "down") 1010 ∷ []) 4 1) { stopping = true; up = [] }
unfolding plain_span span_of rendered printed octets digits
stops = refl

-- 26. a configuration after the stop starts the lane again, with the ban
starts_again : after (banned_and_done ++ sends 1010 StopAll ∷ ends 1011 2 (Status (pos 0)) ∷ ends 1011 3 (Status (pos 0)) ∷ configures 1020 (guarded ∷ []) ∷ [])
    ≡ guards 1020 banned_at_1001 (job 4 Both Start None (codes "up") 1020 ∷ job 5 Both Ban (Some seven) (codes "add 192.0.2.7") 1020 ∷ []) 6 1
unfolding plain_span span_of rendered printed octets digits
starts_again = refl

-- 27. the same configuration again orders nothing
same_again : after (banned_and_done ++ configures 1010 (guarded ∷ []) ∷ []) ≡ guards 1010 banned_at_1001 [] 2 1
unfolding plain_span span_of rendered printed octets digits
same_again = refl

-- 28. a changed action goes down with its old commands and comes up with the new ones
abbrev drops : ActionDef
drops = action Both (codes "drop <ip>")

changed_action : after (banned_and_done ++ configures 1010 (jail (drops ∷ []) ∷ []) ∷ [])
    ≡ record (shows 1010 (jail (drops ∷ [])) banned_at_1001) {
      up = up drops ∷ [];
      jobs =
          job 2 Both Unban (Some seven) (codes "del 192.0.2.7") 1010
          ∷ job 3 Both Stop None (codes "down") 1010
          ∷ job 4 Both Start None (codes "up") 1010
          ∷ job 5 Both Ban (Some seven) (codes "drop 192.0.2.7") 1010
          ∷ [];
      next_job = 6;
      next_ban = 1;
    }
unfolding plain_span span_of rendered printed octets digits
changed_action = refl

-- 29. a jail that a configuration takes away loses its bans and totals, but its jobs stay; added again it begins anew
lost_and_added : after (banned_and_done ++ configures 1010 [] ∷ configures 1020 (guarded ∷ []) ∷ [])
    ≡ guards 1020 quiet
    (job 2 Both Unban (Some seven) (codes "del 192.0.2.7") 1010 ∷ job 3 Both Stop None (codes "down") 1010 ∷ job 4 Both Start None (codes "up") 1020 ∷ []) 5 1
unfolding plain_span span_of rendered printed octets digits
lost_and_added = refl

-- 30. two lanes by family: each ban is a job of the lane of its family
abbrev both_families : JailDef
both_families = jail (action Inet4 (codes "add <ip>") ∷ action Inet6 (codes "add6 <ip>") ∷ [])

by_family : after (configures 1000 (both_families ∷ []) ∷ bans 1001 (seven ∷ sixth ∷ []) ∷ [])
    ≡ record (shows 1001 both_families (record quiet { total_banned = 2; bans = ban 0 seven 1001 1601 0 ∷ ban 1 sixth 1001 1601 0 ∷ [] })) {
      up = up (action Inet4 (codes "add <ip>")) ∷ up (action Inet6 (codes "add6 <ip>")) ∷ [];
      jobs =
          job 0 Inet4 Start None (codes "up") 1000
          ∷ job 1 Inet6 Start None (codes "up") 1000
          ∷ job 2 Inet4 Ban (Some seven) (codes "add 192.0.2.7") 1001
          ∷ job 3 Inet6 Ban (Some sixth) (codes "add6 2001:db8::7") 1001
          ∷ [];
      next_job = 4;
      next_ban = 2;
    }
unfolding plain_span span_of rendered printed octets groups hex_groups_text hex digits
by_family = refl

-- ---- checks

-- an action that looks before each ban and unban whether a file is there
abbrev looks : ActionDef
looks = record firewall { check = codes "test -e /x" }

abbrev careful : JailDef
careful = jail (looks ∷ [])

abbrev check_fails : ℕ → ℕ → Input
check_fails secs id = sends secs (CheckFailed id (Status (pos 1)))

abbrev lane : LaneId
lane = record { jail = name; action = codes "fw"; family = Both }

-- the server of the careful jail with its lane up, and these jobs pending
abbrev cares : ℕ → JailView → List Job → ℕ → ℕ → View
cares at j jobs next_job next_ban = record (shows at careful j) { up = up looks ∷ []; jobs = jobs; next_job = next_job; next_ban = next_ban }

abbrev both_banned : JailView
both_banned = record quiet { total_banned = 2; bans = ban 0 seven 1001 1601 0 ∷ ban 1 eight 1003 1603 0 ∷ [] }

-- the lane is up and 192.0.2.7 banned in it; then 192.0.2.8 is banned, and that job is checked
abbrev second_ban : List Input
second_ban = configures 1000 (careful ∷ []) ∷ ends 1000 0 (Status (pos 0)) ∷ bans 1001 (seven ∷ []) ∷ ends 1002 1 (Status (pos 0)) ∷ bans 1003 (eight ∷ []) ∷ []

abbrev check_before : ℕ → List Input → Option (List ℕ)
check_before id inputs =
    option_map (λ (l : UpLane). l.action.check) (check_of (steps empty_state inputs).lanes.up id (pending (steps empty_state inputs).lanes.jobs))

is_checked : check_before 2 second_ban ≡ Some (codes "test -e /x")
unfolding plain_span span_of rendered printed octets digits
is_checked = refl

-- 31. a check that fails voids the job; the lane stops and starts, and bans anew whoever is banned
restarts : after (second_ban ++ check_fails 1004 2 ∷ [])
    ≡ cares 1004 both_banned
    (job 3 Both Stop None (codes "down") 1004
    ∷ job 4 Both Start None (codes "up") 1004
    ∷ job 5 Both Reban (Some seven) (codes "add 192.0.2.7") 1004
    ∷ job 6 Both Reban (Some eight) (codes "add 192.0.2.8") 1004
    ∷ []) 7 2
unfolding plain_span span_of rendered printed octets digits
restarts = refl

-- that is told
tells_the_restart : (told (steps empty_state second_ban) (check_fails 1004 2)).lanes ≡ CheckFails lane (Status (pos 1)) ∷ Restarts lane ∷ []
unfolding plain_span span_of rendered printed octets digits
tells_the_restart = refl

-- as is a try that failed, and that it was the last
tells_a_failed_try : (told (steps empty_state second_ban) (ends 1004 2 TimedOut)).lanes ≡ TryFails lane Ban TimedOut false ∷ []
unfolding plain_span span_of rendered printed octets digits
tells_a_failed_try = refl

tells_the_last_try : (told (steps empty_state (second_ban ++ ends 1004 2 TimedOut ∷ ends 1006 2 NotStarted ∷ [])) (ends 1010 2 (Status (pos 1)))).lanes ≡ TryFails lane Ban (Status (pos 1)) true ∷ []
unfolding plain_span span_of rendered printed octets digits
tells_the_last_try = refl

-- neither a Stop nor a Reban is checked, nor what is not the first of its lane
stop_unchecked : check_before 3 (second_ban ++ check_fails 1004 2 ∷ []) ≡ None
unfolding plain_span span_of rendered printed octets digits
stop_unchecked = refl

reban_unchecked : check_before 5 (second_ban ++ check_fails 1004 2 ∷ ends 1005 3 (Status (pos 0)) ∷ ends 1006 4 (Status (pos 0)) ∷ []) ≡ None
unfolding plain_span span_of rendered printed octets digits
reban_unchecked = refl

-- so a check that failed of another job than these changes nothing
no_check_failed : after (second_ban ++ check_fails 1004 1 ∷ []) ≡ after (second_ban ++ sends 1004 Tick ∷ [])
unfolding plain_span span_of rendered printed octets digits
no_check_failed = refl

-- 32. a check that fails in the middle of bans voids all that waits in the lane, an unban too, and only who is banned is banned anew
in_the_middle : after (configures 1000 (careful ∷ []) ∷ ends 1000 0 (Status (pos 0)) ∷ bans 1001 (seven ∷ []) ∷ bans 1003 (eight ∷ []) ∷ unbans 1004 seven ∷ check_fails 1005 1 ∷ [])
    ≡ cares 1005 (record quiet { total_banned = 2; bans = ban 1 eight 1003 1603 0 ∷ []; past = past seven 1004 ∷ [] })
    (job 4 Both Stop None (codes "down") 1005 ∷ job 5 Both Start None (codes "up") 1005 ∷ job 6 Both Reban (Some eight) (codes "add 192.0.2.8") 1005 ∷ []) 7 2
unfolding plain_span span_of rendered printed octets digits
in_the_middle = refl

-- 33. a stop comes while a check runs, which then fails: what waits in front of the lane's Stop is voided, and the lane does not start again
stops_checked : after (second_ban ++ sends 1004 StopAll ∷ check_fails 1005 2 ∷ [])
    ≡ record (cares 1005 both_banned (job 5 Both Stop None (codes "down") 1004 ∷ []) 6 2) { stopping = true; up = [] }
unfolding plain_span span_of rendered printed octets digits
stops_checked = refl

-- nor is a job checked that stands in front of a Stop
stopping_unchecked : check_before 2 (second_ban ++ sends 1004 StopAll ∷ []) ≡ None
unfolding plain_span span_of rendered printed octets digits
stopping_unchecked = refl

-- 34. who is unbanned while he waits to be banned anew is banned anew, and then unbanned
unbans_behind : after (second_ban ++ check_fails 1004 2 ∷ unbans 1005 seven ∷ [])
    ≡ cares 1005 (record quiet { total_banned = 2; bans = ban 1 eight 1003 1603 0 ∷ []; past = past seven 1005 ∷ [] })
    (job 3 Both Stop None (codes "down") 1004
    ∷ job 4 Both Start None (codes "up") 1004
    ∷ job 5 Both Reban (Some seven) (codes "add 192.0.2.7") 1004
    ∷ job 6 Both Reban (Some eight) (codes "add 192.0.2.8") 1004
    ∷ job 7 Both Unban (Some seven) (codes "del 192.0.2.7") 1005
    ∷ []) 8 2
unfolding plain_span span_of rendered printed octets digits
unbans_behind = refl

-- 35. the action changes while a check runs, which then fails: the old lane's jobs are voided up to its Stop, and the new one starts behind it
abbrev looks_and_drops : ActionDef
looks_and_drops = record looks { ban = codes "drop <ip>" }

changes_checked : after (second_ban ++ configures 1004 (jail (looks_and_drops ∷ []) ∷ []) ∷ check_fails 1005 2 ∷ [])
    ≡ record (shows 1005 (jail (looks_and_drops ∷ [])) both_banned) {
      up = up looks_and_drops ∷ [];
      jobs =
          job 5 Both Stop None (codes "down") 1004
          ∷ job 6 Both Start None (codes "up") 1004
          ∷ job 7 Both Ban (Some seven) (codes "drop 192.0.2.7") 1004
          ∷ job 8 Both Ban (Some eight) (codes "drop 192.0.2.8") 1004
          ∷ [];
      next_job = 9;
      next_ban = 2;
    }
unfolding plain_span span_of rendered printed octets digits
changes_checked = refl

-- 36. what is over for `purge` seconds is dropped in each step, also in one in which a check fails
purges_checked : after (sends 1000 (Config (record { purge = 100; jails = careful ∷ [] })) ∷ ends 1000 0 (Status (pos 0)) ∷ bans 1001 (seven ∷ []) ∷ unbans 1002 seven ∷ check_fails 1102 1 ∷ [])
    ≡ record (cares 1102 (record quiet { total_banned = 1 }) (job 3 Both Stop None (codes "down") 1102 ∷ job 4 Both Start None (codes "up") 1102 ∷ []) 5 1)
    { defs = record { purge = 100; jails = careful ∷ [] } }
unfolding plain_span span_of rendered printed octets digits
purges_checked = refl

-- ---- lines

-- an action that shows lines, at most two
abbrev notes : ActionDef
notes = record firewall { ban = codes "note <ip> <matches>" }

abbrev noting : JailDef
noting = record (jail (notes ∷ [])) { maxmatches = 2 }

abbrev fails_by : ℕ → List ℕ → Failure
fails_by time line = record { addr = seven; time = time; line = line }

-- 37. a ban shows the lines of the failures that led to it, by time: the last two of those that have one, with `_` for what a shell may read
abbrev noted : List Input
noted =
    configures 1000 (noting ∷ [])
    ∷ ends 1000 0 (Status (pos 0))
    ∷ reads 1500 (fails_by 1490 (codes "b;c") ∷ fails_by 1480 (codes "a") ∷ fails_by 1500 (codes "$(d)") ∷ [])
    ∷ []

abbrev noted_ban : JailView
noted_ban = record followed { total_failed = 3; total_banned = 1; moment = 1500; bans = ban 0 seven 1500 2100 3 ∷ [] }

shows_lines : after noted
    ≡ record (shows 1500 noting noted_ban) { up = up notes ∷ []; jobs = job 1 Both Ban (Some seven) (codes "note 192.0.2.7 b_c / __d_") 1500 ∷ []; next_job = 2; next_ban = 1 }
unfolding plain_span span_of rendered printed octets digits matches_of chars
shows_lines = refl

-- a line that is empty is left out, and open failures keep theirs
abbrev kept_lines : List Failure
kept_lines = fails_by 1490 (codes "b;c") ∷ fails_by 1500 [] ∷ []

keeps_lines : after (configures 1000 (noting ∷ []) ∷ ends 1000 0 (Status (pos 0)) ∷ reads 1500 kept_lines ∷ [])
    ≡ record (shows 1500 noting (record followed { total_failed = 2; moment = 1500; failures = kept_lines })) { up = up notes ∷ []; next_job = 1 }
unfolding rendered
keeps_lines = refl

leaves_out_empty : matches_of 2 kept_lines ≡ codes "b_c"
unfolding matches_of chars
leaves_out_empty = refl

shows_none : matches_of 0 kept_lines ≡ []
unfolding matches_of
shows_none = refl
