-- How far a script was played.
use Rattle.std.specs.Prelude.{ℕ, ◌≡◌, ◌+◌, Bool, true, false, Option, Some, None, List, [], ◌∷◌, ◌++◌, length, slice_index, count_by}
use Rattle.f2b_world.specs.declared.event.Event.{Event}
use Rattle.f2b_world.specs.declared.event.Event.TheVariants.{DiskWrite}
use Rattle.f2b_world.specs.Told.{History, Adds, IsHonest}
use Rattle.f2b_mem.specs.Plays.{is_clock, is_config, is_pause, accepted_in, given_to, slot_in, Plays}
use Rattle.f2b_mem.specs.Commands.{Ran, ran_of, ran_step, ran_in}
use Rattle.f2b_mem.specs.Script.{slots_of, of_two, counted}
use Rattle.f2b_mem.specs.declared.counts.Counts.{Counts}
use Rattle.f2b_mem.specs.declared.progress.Progress.{Progress}
use Rattle.f2b_mem.specs.declared.script.Script.{Script}

-- a script, and the events so far, where they are told
pub record Playing : Type 0 where
  pub script : Script
  pub told : Option (List Event)

-- the history of these events, from the script's image on
abbrev pub history_of : Script → List Event → History
history_of script events = record { first = slots_of script.image; events = events }

abbrev pub history_in : Script → Option (List Event) → Option History
history_in script (Some events) = Some (history_of script events)
history_in script None = None

abbrev pub told_in : Playing → Option History
told_in playing = history_in playing.script playing.told

-- the counts after one event more
pub record Counted (old : Counts) (event : Event) (new : Counts) : Type 0 where
  pub calls : new.calls ≡ counted old.calls true
  pub clocks : new.clocks ≡ counted old.clocks (is_clock event)
  pub configs : new.configs ≡ counted old.configs (is_config event)
  pub pauses : new.pauses ≡ counted old.pauses (is_pause event)

abbrev pub is_write : Event → Bool
is_write (DiskWrite slot at bytes answer) = true
is_write _ = false

-- what runs, as far as a script was played
abbrev pub ran_of_progress : Progress → Ran
ran_of_progress progress = ran_of progress.commands.started progress.commands.running.items

-- what was played, by the events
pub record IsPlayed (script : Script) (progress : Progress) (zero one : List ℕ) (events : List Event) : Type 0 where
  pub calls : progress.counts.calls ≡ length events
  pub clocks : progress.counts.clocks ≡ count_by is_clock events
  pub configs : progress.counts.configs ≡ count_by is_config events
  pub pauses : progress.counts.pauses ≡ count_by is_pause events
  pub accepted : progress.accepted.items ≡ accepted_in events
  pub given : (conn : ℕ) → slice_index progress.given.items conn ≡ given_to conn events
  pub ran : ran_of_progress progress ≡ ran_in events
  pub slots : (slot : ℕ) → of_two zero one slot ≡ (slot_in script events slot).now
  pub plays : Plays script events

-- how far a script was played after one event more
pub record Progresses (old : Progress) (event : Event) (new : Progress) : Type 0 where
  pub counts : Counted old.counts event new.counts
  pub accepted : new.accepted.items ≡ old.accepted.items ++ accepted_in (event ∷ [])
  pub given : (conn : ℕ) → slice_index new.given.items conn ≡ slice_index old.given.items conn + given_to conn (event ∷ [])
  pub ran : ran_of_progress new ≡ ran_step (ran_of_progress old) event

abbrev pub no_counts : Counts
no_counts = record { calls = 0; clocks = 0; configs = 0; pauses = 0 }

-- the history goes on by this event, as long as it is told
abbrev pub Tells : Option History → Event → Option History → Type 0
Tells old event new = Adds old new (λ g es. (es ≡ event ∷ []) × IsHonest g event)

-- a script that is played on
pub record PlaysOn (old : Playing) (event : Event) (new : Playing) : Type 0 where
  pub script : new.script ≡ old.script
  pub tells : Tells (told_in old) event (told_in new)

-- of a script nothing was played
pub record IsUnplayed (progress : Progress) : Type 0 where
  pub counts : progress.counts ≡ no_counts
  pub accepted : progress.accepted.items ≡ []
  pub given : (conn : ℕ) → slice_index progress.given.items conn ≡ 0
  pub ran : ran_of_progress progress ≡ ran_of 0 []
