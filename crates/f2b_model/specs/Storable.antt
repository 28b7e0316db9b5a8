-- What can be stored: a word for each type of stored values, which says the bounds of a value, in which order its failures, bans and jobs
-- stand, and what is distinct. That past bans stand by their ends, that no failure is later than now, and which logs a jail watches, is
-- told by `IsShown` and `AreWatched`; and the lengths of texts and lists that only memory bounds are left out.
use Rattle.std.specs.Prelude.{◌≡◌, ℕ, ◌+◌, ◌%◌, ◌^◌, ◌<◌, ◌≤◌, ◌==◌, ◌&&◌, ◌||◌, nat_le, Bool, true, min, List, length, map, sum, bytes_eq, Option, Some, None, ℤ, pos, negsuc}
use Rattle.std.specs.List.{list_all}
use Rattle.std.specs.Str.{IsUtf8}
use Rattle.f2b_base.specs.Addresses.{IsAddr, same_addr}
use Rattle.f2b_base.specs.Limits.{last_moment, head_bytes, kept_line_bytes}
use Rattle.f2b_base.specs.Masks.{IsCidr}
use Rattle.f2b_base.specs.declared.addr.Addr.{Addr}
use Rattle.f2b_base.specs.declared.ban.Ban.{Ban}
use Rattle.f2b_base.specs.declared.ban.BanRule.{BanRule}
use Rattle.f2b_base.specs.declared.ban.Failure.{Failure}
use Rattle.f2b_base.specs.declared.ban.Past.{Past}
use Rattle.f2b_base.specs.declared.ban.Until.{Until}
use Rattle.f2b_base.specs.declared.ban.Until.TheVariants.{Never, At}
use Rattle.f2b_base.specs.declared.input.Input.{Input}
use Rattle.f2b_base.specs.declared.input.What.{What}
use Rattle.f2b_base.specs.declared.input.What.TheVariants.{Tick, Read, Ended, Config, Stop, Ban as BanThese, Unban, Attempt, Ignore, Findtime, Bantime, Maxretry, Idle, CheckFailed}
use Rattle.f2b_base.specs.declared.jail.ActionDef.{ActionDef}
use Rattle.f2b_base.specs.declared.jail.DateSpec.{DateSpec}
use Rattle.f2b_base.specs.declared.jail.DateSpec.TheVariants.{Pattern, AnchoredPattern}
use Rattle.f2b_base.specs.declared.jail.Defs.{Defs}
use Rattle.f2b_base.specs.declared.jail.JailDef.{JailDef}
use Rattle.f2b_base.specs.declared.jail.Place.{Place}
use Rattle.f2b_base.specs.declared.jail.Place.TheVariants.{Tail, Pos}
use Rattle.f2b_base.specs.declared.jail.WatchDef.{WatchDef}
use Rattle.f2b_base.specs.declared.job.Job.{Job}
use Rattle.f2b_base.specs.declared.job.LaneId.{LaneId}
use Rattle.f2b_base.specs.declared.job.Outcome.{Outcome}
use Rattle.f2b_base.specs.declared.job.Outcome.TheVariants.{Status}
use Rattle.f2b_base.specs.declared.job.UpLane.{UpLane}
use Rattle.f2b_base.specs.declared.view.WatchView.{WatchView}
use Rattle.f2b_model.specs.declared.jail_now.JailNow.{JailNow}
use Rattle.f2b_model.specs.Jobs.{AreById}
use Rattle.f2b_model.specs.LaneSound.{AreApart}
use Rattle.f2b_model.specs.Lanes.{Lanes}
use Rattle.f2b_model.specs.Lists.{AllOf, AreDistinct, IsInOrder}
use Rattle.f2b_model.specs.Nows.{comes_before}
use Rattle.f2b_model.specs.Sound.{IsNumbered, IsOnceEach, same_kind}
use Rattle.f2b_model.specs.Steps.{moves_now, names}
use Rattle.f2b_model.specs.Whole.{Now}

-- ---- numbers and texts

-- the most seconds that a word of time can mean
abbrev pub longest_span : ℕ
longest_span = 3153600000

-- from one number to another
abbrev pub IsWithin : ℕ → ℕ → ℕ → Type 0
IsWithin least most n = (least ≤ n) × (n ≤ most)

-- the most bans that can begin, and the most jobs that can be made
abbrev pub most_numbers : ℕ
most_numbers = 2 ^ 63

-- how long something lasts that lasts
abbrev pub IsSpanOfTime : ℕ → Type 0
IsSpanOfTime secs = IsWithin 1 longest_span secs

-- how long a ban lasts by its rule: a negative span never ends, and none is 0
abbrev pub IsBase : ℤ → Type 0
IsBase (pos secs) = IsSpanOfTime secs
IsBase (negsuc n) = n < longest_span

-- how far a zone is ahead of UTC: whole minutes, less than a day either way
abbrev pub IsZone : ℤ → Type 0
IsZone (pos secs) = (secs % 60 ≡ 0) × (secs < 86400)
IsZone (negsuc n) = ((n + 1) % 60 ≡ 0) × (n + 1 < 86400)

-- a text, at most so long
abbrev pub IsShortText : ℕ → List ℕ → Type 0
IsShortText most text = IsUtf8 text × (length text ≤ most)

-- a pattern of lines or dates
abbrev pub IsPattern : List ℕ → Type 0
IsPattern text = IsShortText 8192 text

-- one of A-Z a-z 0-9 _ . -
abbrev pub is_name_byte : ℕ → Bool
is_name_byte b = (nat_le 65 b && nat_le b 90) || ((nat_le 97 b && nat_le b 122) || ((nat_le 48 b && nat_le b 57) || (b == 95 || (b == 46 || b == 45))))

-- the name of a jail
pub record IsJailName (name : List ℕ) : Type 0 where
  pub long : IsWithin 1 64 (length name)
  pub bytes : list_all is_name_byte name ≡ true

-- ---- failures, bans and places

pub record IsStorableFailure (f : Failure) : Type 0 where
  pub addr : IsAddr f.addr
  pub time : f.time ≤ last_moment
  pub line : IsShortText kept_line_bytes f.line

abbrev pub IsStorableUntil : Until → Type 0
IsStorableUntil Never = Unit {0}
IsStorableUntil (At end) = end ≤ last_moment

pub record IsStorableBan (b : Ban) : Type 0 where
  pub serial : b.serial < most_numbers
  pub addr : IsAddr b.addr
  pub begin : b.begin ≤ last_moment
  pub until : IsStorableUntil b.until
  pub count : b.count < 2 ^ 32
  pub failures : b.failures < 2 ^ 32

pub record IsStorablePast (p : Past) : Type 0 where
  pub addr : IsAddr p.addr
  pub end : p.end ≤ last_moment

-- a log's head is as long as the log was followed, and no longer than the first bytes that tell which log it is
abbrev pub IsStorablePlace : Place → Type 0
IsStorablePlace Tail = Unit {0}
IsStorablePlace (Pos position head) = (position < 2 ^ 64) × (length head ≡ min head_bytes position)

pub record IsStorableWatch (w : WatchView) : Type 0 where
  pub path : IsUtf8 w.path
  pub place : IsStorablePlace w.place

-- ---- definitions

pub record IsStorableRule (r : BanRule) : Type 0 where
  pub base : IsBase r.base
  pub factor : IsWithin 1 1000000 r.factor
  pub multipliers : AllOf (IsWithin 1 1000000) r.multipliers
  pub most : length r.multipliers ≤ 64
  pub maxtime : IsSpanOfTime r.maxtime
  pub rndtime : r.rndtime ≤ 1000000

abbrev pub IsStorableDate : DateSpec → Type 0
IsStorableDate (Pattern text) = IsPattern text
IsStorableDate (AnchoredPattern text) = IsPattern text
IsStorableDate _ = Unit {0}

abbrev pub IsStorablePref : Option (List ℕ) → Type 0
IsStorablePref None = Unit {0}
IsStorablePref (Some text) = IsPattern text

pub record IsStorableAction (a : ActionDef) : Type 0 where
  pub name : IsUtf8 a.name
  pub start : IsUtf8 a.start
  pub stop : IsUtf8 a.stop
  pub ban : IsUtf8 a.ban
  pub unban : IsUtf8 a.unban
  pub check : IsUtf8 a.check
  pub timeout : IsSpanOfTime a.timeout

pub record IsStorableDef (d : JailDef) : Type 0 where
  pub name : IsJailName d.name
  pub watches : AllOf (λ (w : WatchDef). IsUtf8 w.path) d.watches
  pub logs : length d.watches ≤ 4096
  pub paths : AreDistinct bytes_eq (map (λ (w : WatchDef). w.path) d.watches)
  pub zone : IsZone d.zone
  pub date : IsStorableDate d.date
  pub pref : IsStorablePref d.pref
  pub fail : AllOf IsPattern d.fail
  pub fails : length d.fail ≤ 512
  pub ignore_lines : AllOf IsPattern d.ignore_lines
  pub ignores : length d.ignore_lines ≤ 512
  pub ignore : AllOf IsCidr d.ignore
  pub findtime : IsSpanOfTime d.findtime
  pub maxretry : IsWithin 1 100000 d.maxretry
  pub maxmatches : d.maxmatches ≤ 1000
  pub rule : IsStorableRule d.rule
  pub actions : AllOf IsStorableAction d.actions
  pub kinds : AreDistinct same_kind d.actions
  pub most : length d.actions ≤ 32

-- how many patterns of lines a jail has
abbrev pub patterns_of : JailDef → ℕ
patterns_of d = length d.fail + length d.ignore_lines

-- how many all jails have together
abbrev pub AreFewPatterns : List JailDef → Type 0
AreFewPatterns ds = sum (map patterns_of ds) ≤ 512

pub record AreStorableDefs (defs : Defs) : Type 0 where
  pub purge : defs.purge ≤ longest_span
  pub jails : AllOf IsStorableDef defs.jails
  pub names : AreDistinct bytes_eq (map (λ (d : JailDef). d.name) defs.jails)
  pub most : length defs.jails ≤ 256
  pub patterns : AreFewPatterns defs.jails

-- ---- jails

pub record IsStorableJail (j : JailNow) : Type 0 where
  pub definition : IsStorableDef j.definition
  pub total_failed : j.total_failed < 2 ^ 64
  pub total_banned : j.total_banned < 2 ^ 64
  pub moment : j.moment ≤ last_moment
  pub watches : AllOf IsStorableWatch j.watches
  pub failures : AllOf IsStorableFailure j.failures
  pub ordered : IsInOrder comes_before j.failures
  pub bans : AllOf IsStorableBan j.bans
  pub once : IsOnceEach j.bans
  pub past : AllOf IsStorablePast j.past

-- ---- lanes and jobs

abbrev pub IsStorableAddr : Option Addr → Type 0
IsStorableAddr None = Unit {0}
IsStorableAddr (Some addr) = IsAddr addr

pub record IsStorableLane (l : LaneId) : Type 0 where
  pub jail : IsJailName l.jail
  pub action : IsUtf8 l.action

pub record IsStorableUp (u : UpLane) : Type 0 where
  pub jail : IsJailName u.jail
  pub action : IsStorableAction u.action

pub record IsStorableJob (j : Job) : Type 0 where
  pub id : j.id < most_numbers
  pub lane : IsStorableLane j.lane
  pub addr : IsStorableAddr j.addr
  pub text : IsUtf8 j.text
  pub timeout : IsSpanOfTime j.timeout
  pub tries : j.tries ≤ 2
  pub due : j.due ≤ last_moment

pub record AreStorableLanes (l : Lanes (List Job)) : Type 0 where
  pub up : AllOf IsStorableUp l.up
  pub apart : AreApart l.up
  pub jobs : AllOf IsStorableJob l.jobs

-- ---- all

-- All that is stored. Each step keeps it where the id of the job to come keeps its bound. That is left to code, which asks for an id
-- before it makes a job: a step makes one for each lane and ban, and only memory bounds how many bans a jail has. The serial of the ban
-- to come keeps its bound by itself, since an input begins at most one ban for each value in its list.
pub record IsStorable (n : Now) : Type 0 where
  pub at : n.jails.at ≤ last_moment
  pub purge : n.jails.purge ≤ longest_span
  pub jails : AllOf IsStorableJail n.jails.jails
  pub names : AreDistinct bytes_eq (names moves_now n.jails.jails)
  pub most : length n.jails.jails ≤ 256
  pub patterns : AreFewPatterns (map moves_now.definition n.jails.jails)
  pub numbered : AllOf (λ (j : JailNow). IsNumbered n.jails.next_ban j.bans) n.jails.jails
  pub next_ban : n.jails.next_ban ≤ most_numbers
  pub lanes : AreStorableLanes n.lanes
  pub by_id : AreById 0 n.lanes.jobs n.lanes.next_job
  pub next_job : n.lanes.next_job ≤ most_numbers

-- ---- inputs

-- the most values in the list of one input, each of which may begin a ban: more fit in no memory
abbrev pub most_at_once : ℕ
most_at_once = 2 ^ 62

-- a signed number of 64 bits
abbrev pub IsSigned : ℤ → Type 0
IsSigned (pos n) = n < 2 ^ 63
IsSigned (negsuc n) = n < 2 ^ 63

-- how a job or its check ended
abbrev pub IsStorableOutcome : Outcome → Type 0
IsStorableOutcome (Status status) = IsSigned status
IsStorableOutcome _ = Unit {0}

-- the name of a jail, or of none
abbrev pub IsNameOrNone : Option (List ℕ) → Type 0
IsNameOrNone None = Unit {0}
IsNameOrNone (Some name) = IsJailName name

-- addresses, or none
abbrev pub AreAddrsOrNone : Option (List Addr) → Type 0
AreAddrsOrNone None = Unit {0}
AreAddrsOrNone (Some addrs) = AllOf IsAddr addrs

abbrev pub IsStorableWhat : What → Type 0
IsStorableWhat Tick = Unit {0}
IsStorableWhat (Read jail path place fs) = IsJailName jail × IsUtf8 path × IsStorablePlace place × AllOf IsStorableFailure fs × (length fs ≤ most_at_once)
IsStorableWhat (Ended job outcome) = (job < 2 ^ 64) × IsStorableOutcome outcome
IsStorableWhat (Config defs) = AreStorableDefs defs
IsStorableWhat Stop = Unit {0}
IsStorableWhat (BanThese jail addrs) = IsJailName jail × AllOf IsAddr addrs × AreDistinct same_addr addrs × (length addrs ≤ most_at_once)
IsStorableWhat (Unban jail addrs) = IsNameOrNone jail × AreAddrsOrNone addrs
IsStorableWhat (Attempt jail addr) = IsJailName jail × IsAddr addr
IsStorableWhat (Ignore jail cidr add) = IsJailName jail × IsCidr cidr
IsStorableWhat (Findtime jail secs) = IsJailName jail × IsSpanOfTime secs
IsStorableWhat (Bantime jail secs) = IsJailName jail × IsBase secs
IsStorableWhat (Maxretry jail number) = IsJailName jail × IsWithin 1 100000 number
IsStorableWhat (Idle jail idle) = IsJailName jail
IsStorableWhat (CheckFailed job outcome) = (job < 2 ^ 64) × IsStorableOutcome outcome

pub record IsStorableInput (input : Input) : Type 0 where
  pub secs : input.secs ≤ last_moment
  pub word : input.word < 2 ^ 64
  pub what : IsStorableWhat input.what
