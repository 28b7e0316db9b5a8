-- The failures that a window keeps, however it keeps them.
use Rattle.std.specs.Prelude.{List, [], ◌∷◌}
use Rattle.f2b_base.specs.declared.ban.Failure.{Failure}
use Rattle.fail_window.specs.declared.kept.Kept.{Kept}
use Rattle.fail_window.specs.declared.kept.Kept.TheVariants.{Alone, Listed}

-- the failures
abbrev pub failures_of : Kept → List Failure
failures_of (Alone f) = f ∷ []
failures_of (Listed list) = list.items
