-- How many paths a jail may come to: what was found of it can be stored.
use Rattle.std.specs.Prelude.{ℕ, ◌+◌, ◌*◌, ◌≤◌, List, length, map, filter, bytes_eq}
use Rattle.f2b_base.specs.declared.jail.WatchDef.{WatchDef}
use Rattle.run_law.specs.Paths.{Path}

-- the watches of the jail of a name
abbrev pub watches_at : List ℕ → List Path → List WatchDef
watches_at jail ps = map (λ (p : Path). p.watch) (filter (λ (p : Path). bytes_eq p.jail jail) ps)

-- Of no jail are more found than can be stored, even where each path that is left comes to 64.
pub record AreFew (found left : List Path) : Type 0 where
  pub each : (jail : List ℕ) → length (watches_at jail found) + 64 * length (watches_at jail left) ≤ 4096
