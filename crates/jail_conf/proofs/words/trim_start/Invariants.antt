use Rattle.std.proofs.Common.{◌≡◌, ℕ, ◌<◌, get_or, true}
use Rattle.std.specs.Str.{IsCharBoundary}
use Rattle.ini_interp.specs.Lines.{is_blank}
use Rattle.jail_conf.proofs.words.trim_start.Given as goal

abbrev pub invariant-loop-place : goal.invariant-loop-place
invariant-loop-place l = record {
  blanks : (k : ℕ) → k < l.place → is_blank (get_or l.text k 0) ≡ true;
  boundary : IsCharBoundary l.text l.place;
}
