-- What a change does to the search of a jail.
use Rattle.std.specs.Prelude.{List, ℕ}
use Rattle.log_set.specs.Firsts.{at_first}
use Rattle.log_set.specs.Logs.{LogJail, ignoring, counting, resting}
use Rattle.log_set.specs.Searches.{is_named}
use Rattle.log_set.specs.declared.change.Change.{Change}
use Rattle.log_set.specs.declared.change.Change.TheVariants.{Ignore, Findtime, Idle}
use Rattle.log_set.specs.declared.jail_search.JailSearch.{JailSearch}

abbrev pub search_changed : Change → JailSearch → JailSearch
search_changed (Ignore masks) j = record j { ignore = masks }
search_changed (Findtime secs) j = record j { findtime = secs }
search_changed (Idle idle) j = record j { idle = idle }

-- the same of a jail
abbrev pub jail_changed : Change → LogJail → LogJail
jail_changed (Ignore masks) j = ignoring masks j
jail_changed (Findtime secs) j = counting secs j
jail_changed (Idle idle) j = resting idle j

-- the first search of a jail with that name is changed, if there is one
abbrev pub searches_changed : List ℕ → Change → List JailSearch → List JailSearch
searches_changed name change jails = at_first (is_named name) (search_changed change) jails
