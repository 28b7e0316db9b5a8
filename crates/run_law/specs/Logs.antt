-- The logs of the jails, in the words of the set that follows them: how each is looked at, and what a look makes, is said there.
use Rattle.std.specs.Prelude.{ℕ, List, map}
use Rattle.std.specs.List.{flat_map}
use Rattle.f2b_base.specs.declared.view.WatchView.{WatchView}
use Rattle.f2b_model.specs.State.{Jail}
use Rattle.log_follow.specs.Watches.{begun}
use Rattle.log_set.specs.Logs.{LogJail, Watching, going_on}

-- a jail, as the set has it
abbrev pub log_jail : Jail → LogJail
log_jail j = record { definition = j.definition; idle = j.idle }

-- a log of a jail, from the place that is kept of it
abbrev pub log_begun : List ℕ → WatchView → Watching
log_begun jail w = record { jail = jail; path = w.path; watch = begun w.place }

-- jail by jail, in the order of their watches
abbrev pub logs_begun : List Jail → List Watching
logs_begun js = flat_map (λ (j : Jail). map (log_begun j.definition.name) j.watches) js

-- the logs of the jails; those that were followed before go on
abbrev pub logs_of : List Watching → List Jail → List Watching
logs_of old js = going_on old (logs_begun js)
