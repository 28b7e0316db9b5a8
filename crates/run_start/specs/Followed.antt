-- The logs of the jails that the code keeps, followed from the places that are kept of them.
use Rattle.std.specs.Prelude.{◌≡◌, ◌++◌, false, List, [], map}
use Rattle.f2b_base.specs.declared.view.JailView.{JailView}
use Rattle.f2b_base.specs.declared.view.WatchView.{WatchView}
use Rattle.f2b_model.specs.Lists.{AllOf}
use Rattle.f2b_model.specs.State.{Jail}
use Rattle.f2b_model.specs.Storable.{IsJailName}
use Rattle.f2b_model.specs.declared.jail_now.JailNow.{JailNow}
use Rattle.filter_regex.specs.Rules.{Rules, rules_of}
use Rattle.log_follow.specs.Watches.{IsPlace}
use Rattle.log_set.specs.Logs.{IsSetOf, LogJail, Logs, Watching}
use Rattle.run_law.specs.Logs.{log_begun, logs_of}
use Rattle.run_law.specs.Server.{Server, jails, log_jails}
use Rattle.run_steps.specs.Keeping.{KeepsClocked}
use Rattle.run_steps.specs.declared.clocked.Clocked.{Clocked}

-- what is searched by, jail by jail
abbrev pub rules_in : Clocked → List Rules
rules_in kept = map (λ (j : JailNow). rules_of j.definition) kept.engine.core.jails.jails

-- what is kept of each of these logs is a place
abbrev pub AreWatchesOfPlaces : List WatchView → Type 0
AreWatchesOfPlaces ws = AllOf (λ (w : WatchView). IsPlace w.place) ws

abbrev pub AreViewsOfPlaces : List JailView → Type 0
AreViewsOfPlaces vs = AllOf (λ (v : JailView). AreWatchesOfPlaces v.watches) vs

abbrev pub HasPlaces : JailNow → Type 0
HasPlaces j = AreWatchesOfPlaces j.watches

abbrev pub ArePlaces : Clocked → Type 0
ArePlaces kept = AllOf HasPlaces kept.engine.core.jails.jails

-- each of these jails has a name that a jail can have
abbrev pub AreNamed : List JailView → Type 0
AreNamed vs = AllOf (λ (v : JailView). IsJailName v.name) vs

-- the logs of no jail rest
abbrev pub AreAwake : List Jail → Type 0
AreAwake js = AllOf (λ (j : Jail). j.idle ≡ false) js

-- a set follows all logs of any server that is kept so and whose jails are awake
pub record FollowsAll (kept : Clocked) (set : Logs) : Type 0 where
  pub sets : (s : Server) → KeepsClocked s kept → AreAwake (jails s) → IsSetOf set (log_jails s) (logs_of [] (jails s))

-- the logs of a jail, from the places that are kept of them
abbrev pub logs_at : JailView → List Watching
logs_at v = map (log_begun v.name) v.watches

-- the set follows these logs more, behind the others
pub record AddsLogs (old new : Logs) (more : List Watching) : Type 0 where
  pub adds : (js : List LogJail) (ws : List Watching) → IsSetOf old js ws → IsSetOf new js (ws ++ more)
