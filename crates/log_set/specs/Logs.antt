-- The logs of all jails: what a set stands for, and what a look at one of its logs brings.
use Rattle.std.specs.Prelude.{ℕ, ◌≡◌, ◌+◌, ◌++◌, ◌&&◌, Bool, true, false, List, [], ◌∷◌, drop, map, find, position, slice_get, slice_set, bytes_eq, Option, Some, None, option_map}
use Rattle.f2b_base.specs.declared.addr.Cidr.{Cidr}
use Rattle.f2b_base.specs.declared.ban.Failure.{Failure}
use Rattle.f2b_base.specs.declared.input.What.{What}
use Rattle.f2b_base.specs.declared.input.What.TheVariants.{Read}
use Rattle.f2b_base.specs.declared.jail.JailDef.{JailDef}
use Rattle.f2b_base.specs.declared.jail.Place.{Place}
use Rattle.f2b_base.specs.declared.outside.FileLook.{FileLook}
use Rattle.filter_regex.specs.Rules.{rules_of}
use Rattle.log_follow.specs.Followed.{StandsFor, ask_of}
use Rattle.log_follow.specs.Watches.{Answers, Watch, ask_in, begun, looked}
use Rattle.log_follow.specs.declared.line.Line.{Line}
use Rattle.log_follow.specs.declared.step.Ask.{Ask}
use Rattle.log_follow.specs.declared.step.Step.{Step}
use Rattle.log_follow.specs.declared.step.Step.TheVariants.{Rotated}
use Rattle.log_set.specs.Firsts.{at_first}
use Rattle.log_set.specs.Places.{looked_of}
use Rattle.log_set.specs.Searches.{failures_of, is_awake, lines_in}
use Rattle.log_set.specs.Shown.{shows_lines}
use Rattle.log_set.specs.declared.jail_search.JailSearch.{JailSearch}
use Rattle.log_set.specs.declared.log.Log.{Log}
use Rattle.log_set.specs.declared.log.Looked.{Looked}
use Rattle.log_set.specs.declared.taken.Taken.{Taken}

-- ---- what a set stands for

-- what a contract sees of a set: the searches of its jails, and the logs
pub record Logs : Type 0 where
  pub jails : List JailSearch
  pub logs : List Log

-- a jail whose logs are followed
pub record LogJail : Type 0 where
  pub definition : JailDef
  -- its logs are not looked at
  pub idle : Bool

-- a log of a jail by its name, and how far it is followed
pub record Watching : Type 0 where
  pub jail : List ℕ
  pub path : List ℕ
  pub watch : Watch

-- the search of a jail is that of its definition
abbrev pub search_of : LogJail → JailSearch
search_of j = record {
  name = j.definition.name;
  searcher = rules_of j.definition;
  ignore = j.definition.ignore;
  findtime = j.definition.findtime;
  shows = shows_lines j.definition;
  idle = j.idle;
}

pub record Stands (l : Log) (a : Watching) : Type 0 where
  pub jail : l.jail ≡ a.jail
  pub path : l.path ≡ a.path
  pub watch : StandsFor l.follower a.watch

-- each log stands for the one at its place
abbrev pub AreLogs : List Log → List Watching → Type 0
AreLogs [] [] = Unit {0}
AreLogs (l ∷ ls) (a ∷ ws) = Stands l a × AreLogs ls ws
AreLogs _ _ = ⊥

-- a set of these jails and these logs
pub record IsSetOf (s : Logs) (js : List LogJail) (ws : List Watching) : Type 0 where
  pub searches : s.jails ≡ map search_of js
  pub logs : AreLogs s.logs ws

-- a jail of a new set
abbrev pub awake : JailDef → LogJail
awake d = record { definition = d; idle = false }

abbrev pub first_search : JailDef → JailSearch
first_search d = search_of (awake d)

-- ---- which log comes next

abbrev pub is_of : List ℕ → LogJail → Bool
is_of name j = bytes_eq j.definition.name name

-- the first jail of a name
abbrev pub jail_of : List ℕ → List LogJail → Option LogJail
jail_of name js = find (is_of name) js

-- the log's jail is there and not idle
abbrev pub is_looked_at : List LogJail → Watching → Bool
is_looked_at js a = is_awake (option_map (λ (j : LogJail). j.idle) (jail_of a.jail js))

-- the place of the first log that is looked at, from a place on
abbrev pub next_look : ℕ → List LogJail → List Watching → Option ℕ
next_look from js ws = option_map (λ k. from + k) (position (is_looked_at js) (drop from ws))

-- ---- what is taken of a look

abbrev pub is_rotated : Step → Bool
is_rotated Rotated = true
is_rotated _ = false

-- an input comes where the place changes, with what is found in the lines
abbrev pub read_to : (List Line → List Failure) → List ℕ → List ℕ → Step → Option Place → Option What
read_to find jail path step None = None
read_to find jail path step (Some place) = Some (Read jail path place (find (lines_in step)))

-- and none of a jail that is not there
abbrev pub read_of : Option (List Line → List Failure) → List ℕ → List ℕ → Looked → Option What
read_of None jail path l = None
read_of (Some find) jail path l = read_to find jail path l.step l.moved

-- what happened is that a log was read
abbrev pub IsLogRead : What → Type 0
IsLogRead (Read jail path place found) = Unit {0}
IsLogRead _ = ⊥

-- what finds failures now, by the definition of the first jail of a name
abbrev pub finds_of : List ℕ → ℕ → List LogJail → Option (List Line → List Failure)
finds_of name now js = option_map (λ (j : LogJail). failures_of j.definition now) (jail_of name js)

-- what is taken of a look at a log
abbrev pub taken_of : List LogJail → ℕ → Watching → FileLook → Taken
taken_of js now a look = record {
  read = read_of (finds_of a.jail now js) a.jail a.path (looked_of a.watch look);
  rotated = is_rotated (looked a.watch look).1;
}

abbrev pub after_look : FileLook → Watching → Watching
after_look look a = record a { watch = (looked a.watch look).0 }

-- ---- what the calls of a set say, whatever it is a set of

-- the look answers what is asked of the log at that place
abbrev pub AnswersAt : Logs → ℕ → FileLook → Type 0
AnswersAt s k look = (l : Log) → slice_get s.logs k ≡ Some l → Answers (ask_of l.follower) look

-- the ask is that of the log at a place
abbrev pub IsAskAt : Logs → ℕ → Ask → Type 0
IsAskAt s k ask = (l : Log) → slice_get s.logs k ≡ Some l → ask ≡ ask_of l.follower

-- what is asked of the log at a place, and where it lies
abbrev pub AsksAt : Logs → ℕ → Ask → Type 0
AsksAt s k ask = (js : List LogJail) (ws : List Watching) (a : Watching) → IsSetOf s js ws → slice_get ws k ≡ Some a → ask ≡ ask_in a.watch

abbrev pub LiesAt : Logs → ℕ → List ℕ → Type 0
LiesAt s k path = (js : List LogJail) (ws : List Watching) (a : Watching) → IsSetOf s js ws → slice_get ws k ≡ Some a → path ≡ a.path

-- the jail of the log at a place
abbrev pub BelongsTo : Logs → ℕ → List ℕ → Type 0
BelongsTo s k jail = (js : List LogJail) (ws : List Watching) (a : Watching) → IsSetOf s js ws → slice_get ws k ≡ Some a → jail ≡ a.jail

-- the place of the next log, from a place on
abbrev pub ComesNext : Logs → ℕ → Option ℕ → Type 0
ComesNext s from next = (js : List LogJail) (ws : List Watching) → IsSetOf s js ws → next ≡ next_look from js ws

-- what is taken of a look at the log at a place
abbrev pub TakesAt : Logs → ℕ → ℕ → FileLook → Taken → Type 0
TakesAt s k now look t = (js : List LogJail) (ws : List Watching) (a : Watching) → IsSetOf s js ws → slice_get ws k ≡ Some a → t ≡ taken_of js now a look

-- the log at that place alone moves, by the look
abbrev pub MovesAt : Logs → Logs → ℕ → FileLook → Type 0
MovesAt old new k look = (js : List LogJail) (ws : List Watching) (a : Watching) → IsSetOf old js ws → slice_get ws k ≡ Some a → IsSetOf new js (slice_set ws k (after_look look a))

-- there is one log more behind the others, followed from a place on
abbrev pub AddsLog : Logs → Logs → List ℕ → List ℕ → Place → Type 0
AddsLog old new jail path from =
    (js : List LogJail) (ws : List Watching) → IsSetOf old js ws → IsSetOf new js (ws ++ record { jail = jail; path = path; watch = begun from } ∷ [])

-- the first jail of a name alone is changed, if there is one
abbrev pub ChangesJail : Logs → Logs → List ℕ → (LogJail → LogJail) → Type 0
ChangesJail old new name change = (js : List LogJail) (ws : List Watching) → IsSetOf old js ws → IsSetOf new (at_first (is_of name) change js) ws

abbrev pub ignoring : List Cidr → LogJail → LogJail
ignoring masks j = record j { definition = record j.definition { ignore = masks } }

abbrev pub counting : ℕ → LogJail → LogJail
counting findtime j = record j { definition = record j.definition { findtime = findtime } }

abbrev pub resting : Bool → LogJail → LogJail
resting idle j = record j { idle = idle }

-- ---- logs that were followed before

-- a log of the same jail and path
abbrev pub is_same_log : Watching → Watching → Bool
is_same_log a b = bytes_eq b.jail a.jail && bytes_eq b.path a.path

-- the first log of the same jail and path goes on as the old one was followed, if there is one
abbrev pub going_on_as : Watching → List Watching → List Watching
going_on_as old ws = at_first (is_same_log old) (λ (a : Watching). record a { watch = old.watch }) ws

-- one old log after the other goes on
abbrev pub going_on : List Watching → List Watching → List Watching
going_on [] ws = ws
going_on (old ∷ olds) ws = going_on olds (going_on_as old ws)

-- the old logs go on in the set
abbrev pub GoesOn : List Log → Logs → Logs → Type 0
GoesOn ls old new = (olds : List Watching) (js : List LogJail) (ws : List Watching) → AreLogs ls olds → IsSetOf old js ws → IsSetOf new js (going_on olds ws)
