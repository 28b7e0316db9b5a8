use Rattle.std.proofs.Common.{◌≡◌, ℕ, ◌<◌, get_or, false}
use Rattle.jail_conf.specs.Words.{is_among_bytes}
use Rattle.jail_conf.proofs.words.split.Given as goal

abbrev pub invariant-loop-place : goal.invariant-loop-place
invariant-loop-place l = (k : ℕ) → k < l.place → is_among_bytes l.dividers (get_or l.text k 0) ≡ false
