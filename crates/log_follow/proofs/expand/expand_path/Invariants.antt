use Rattle.std.proofs.Common.{◌≡◌, take, map}
use Rattle.log_follow.specs.Globs.{watch_at}
use Rattle.log_follow.specs.Texts.{texts}
use Rattle.log_follow.proofs.expand.expand_path.Given as goal

abbrev pub invariant-loop-name : goal.invariant-loop-name
invariant-loop-name l = l.watches ≡ map (watch_at l.watch) (take l.name-index (texts l.name-items))
