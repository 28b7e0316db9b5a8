use Rattle.std.proofs.Common.{◌≡◌, drop}
use Rattle.f2b_model.specs.Watches.{place_in}
use Rattle.jail_moves.proofs.watches.place_in.Given as goal

abbrev pub invariant-loop-watch : goal.invariant-loop-watch
invariant-loop-watch l = place_in l.watches l.definition ≡ place_in (drop l.watch-index l.watches) l.definition
