-- What happened can be stored at the time that the code keeps.
use Rattle.std.proofs.Common.{◌<◌, ◌≤◌, ◌^◌, Option, Some, None, IfSome}
use Rattle.f2b_base.specs.Limits.{last_moment}
use Rattle.f2b_base.specs.declared.input.What.{What}
use Rattle.f2b_model.specs.Storable.{IsStorableWhat}
use Rattle.run_steps.specs.Keeping.{IsStorableAt}
use Rattle.run_steps.specs.declared.clocked.Clocked.{Clocked}

pub stored_at : (kept : Clocked) (what : Option What) → kept.now ≤ last_moment → kept.word < 2 ^ 64 → IfSome what IsStorableWhat → IfSome what (IsStorableAt kept)
stored_at kept None secs word is = tt
stored_at kept (Some what) secs word is = record { secs = secs; word = word; what = is }

pub ruleset storing = (stored_at)
