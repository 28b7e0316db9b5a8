-- The logs of a configuration: names in place of the wildcards of its paths.
use Rattle.std.specs.Prelude.{ℕ, ◌==◌, ◌-◌, nat_lt, ◌&&◌, ◌||◌, Bool, true, false, if◌then◌else◌, List, [], ◌∷◌, ◌++◌, length, take, map, filter, bytes_eq, codes}
use Rattle.std.specs.List.{flat_map, list_any}
use Rattle.f2b_base.specs.declared.jail.Defs.{Defs}
use Rattle.f2b_base.specs.declared.jail.JailDef.{JailDef}
use Rattle.f2b_base.specs.declared.jail.WatchDef.{WatchDef}
use Rattle.f2b_model.specs.Lists.{in_order}
use Rattle.log_follow.specs.Globs.{behind_slash, fits, has_wildcard, to_slash, watch_at}

-- a path of a jail
pub record Path : Type 0 where
  pub jail : List ℕ
  pub watch : WatchDef

abbrev pub path_in : JailDef → WatchDef → Path
path_in d w = record { jail = d.name; watch = w }

abbrev pub paths_of_jail : JailDef → List Path
paths_of_jail d = map (path_in d) d.watches

-- jail by jail, in the order of their paths
abbrev pub paths_of : Defs → List Path
paths_of defs = flat_map paths_of_jail defs.jails

-- the paths that are settled, and those that are still to come: the first of them has a wildcard, if there is one
pub record Naming : Type 0 where
  pub found : List Path
  pub left : List Path

-- paths without a wildcard stand for themselves
abbrev pub settled : List Path → List Path → Naming
settled found [] = record { found = found; left = [] }
settled found (p ∷ ps) = if has_wildcard p.watch.path then (record { found = found; left = p ∷ ps }) else settled (found ++ p ∷ []) ps

abbrev pub first_naming : Defs → Naming
first_naming defs = settled [] (paths_of defs)

-- the directory that is listed for a path: what stands before its last slash, or the slash alone
abbrev pub directory : List ℕ → List ℕ
directory path = if bytes_eq (to_slash path) (codes "/") then codes "/" else take (length (to_slash path) - 1) path

-- byte by byte
abbrev pub text_before : List ℕ → List ℕ → Bool
text_before [] [] = false
text_before [] (b ∷ bs) = true
text_before (a ∷ more) [] = false
text_before (a ∷ more) (b ∷ bs) = nat_lt a b || ((a == b) && text_before more bs)

-- the watches of the first 64 of the names that the path stands for, in byte order
unfoldable pub expanded : WatchDef → List (List ℕ) → List WatchDef
expanded w names = map (watch_at w) (take 64 (in_order text_before (filter (fits (behind_slash w.path)) names)))

abbrev pub expanded_path : Path → List (List ℕ) → List Path
expanded_path p names = map (λ w. record { jail = p.jail; watch = w }) (expanded p.watch names)

-- the names in the first path's directory came
abbrev pub named_by : List (List ℕ) → List Path → List Path → Naming
named_by names found [] = record { found = found; left = [] }
named_by names found (p ∷ ps) = settled (found ++ expanded_path p names) ps

abbrev pub named : List (List ℕ) → Naming → Naming
named names n = named_by names n.found n.left

-- a path that stands there again is one watch, at its first place
abbrev pub once_each : List WatchDef → List WatchDef → List WatchDef
once_each seen [] = []
once_each seen (w ∷ ws) = if list_any (λ (v : WatchDef). bytes_eq v.path w.path) seen then once_each seen ws else w ∷ once_each (w ∷ seen) ws

abbrev pub watches_found : List Path → JailDef → List WatchDef
watches_found found d = once_each [] (map (λ (p : Path). p.watch) (filter (λ (p : Path). bytes_eq p.jail d.name) found))

-- the definitions with the paths that were found
abbrev pub with_paths : Defs → List Path → Defs
with_paths defs found = record defs { jails = map (λ (d : JailDef). record d { watches = watches_found found d }) defs.jails }
