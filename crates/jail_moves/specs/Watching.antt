-- Where a watch stands in a list.
use Rattle.std.specs.Prelude.{ℕ, suc, cond, List, [], ◌∷◌, bytes_eq}
use Rattle.f2b_base.specs.declared.view.WatchView.{WatchView}

-- the place of the first watch of a path, or how many there are
abbrev pub watch_place : List ℕ → List WatchView → ℕ
watch_place path [] = 0
watch_place path (w ∷ ws) = cond (bytes_eq w.path path) 0 (suc (watch_place path ws))
