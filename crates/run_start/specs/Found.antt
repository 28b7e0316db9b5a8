-- The paths of a jail among those that were found.
use Rattle.std.specs.Prelude.{◌&&◌, not, Bool, List, [], ◌∷◌, bytes_eq, if◌then◌else◌, ℕ}
use Rattle.std.specs.List.{list_any}
use Rattle.std.specs.Str.{IsUtf8}
use Rattle.f2b_base.specs.declared.jail.JailDef.{JailDef}
use Rattle.f2b_base.specs.declared.jail.WatchDef.{WatchDef}
use Rattle.f2b_model.specs.Lists.{AllOf}
use Rattle.run_law.specs.Paths.{Path, watches_found}

-- a path is watched already
abbrev pub is_among : List ℕ → List WatchDef → Bool
is_among path ws = list_any (λ (v : WatchDef). bytes_eq v.path path) ws

-- these paths are texts
abbrev pub AreTexts : List Path → Type 0
AreTexts ps = AllOf (λ (p : Path). IsUtf8 p.watch.path) ps

-- what a path adds to the watches of a jail
abbrev pub found_next : List ℕ → List WatchDef → Path → List WatchDef
found_next jail ws p = if bytes_eq p.jail jail && not (is_among p.watch.path ws) then p.watch ∷ [] else []

-- the definition with the paths that were found
abbrev pub with_watches : List Path → JailDef → JailDef
with_watches found d = record d { watches = watches_found found d }
