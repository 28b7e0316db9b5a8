use Rattle.std.proofs.Common.{◌≡◌, ℕ, ◌<◌, get_or}
use Rattle.std.specs.Char.{to_ascii_lowercase}
use Rattle.ini_interp.proofs.items.is_lowercase_of.Given as goal

abbrev pub invariant-loop-place : goal.invariant-loop-place
invariant-loop-place l = (k : ℕ) → k < l.place → to_ascii_lowercase (get_or l.name k 0) ≡ get_or l.text k 0
