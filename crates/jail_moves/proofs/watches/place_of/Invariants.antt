use Rattle.std.proofs.Common.{◌≡◌, ◌+◌, drop}
use Rattle.jail_moves.specs.Watching.{watch_place}
use Rattle.jail_moves.proofs.watches.place_of.Given as goal

abbrev pub invariant-loop-index : goal.invariant-loop-index
invariant-loop-index l = watch_place l.path l.watches ≡ l.index + watch_place l.path (drop l.index l.watches)
