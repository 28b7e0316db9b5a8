-- Which calls fail, and how many were made.
use Rattle.std.specs.Prelude.{ℕ, ◌==◌, Bool, true, List}
use Rattle.std.specs.List.{list_any}
use Rattle.f2b_mem.specs.Script.{counted}
use Rattle.f2b_mem.specs.declared.calls.Calls.{Calls}

-- whether the call that comes fails: its place, from 0, is listed
abbrev pub fails_next : Calls → Bool
fails_next calls = list_any (λ place. place == calls.made) calls.fails

-- the same places, and one call more
abbrev pub one_more : Calls → Calls
one_more calls = record { fails = calls.fails; made = counted calls.made true }

-- the calls at these places fail, and none was made yet
abbrev pub none_made : List ℕ → Calls
none_made fails = record { fails = fails; made = 0 }
