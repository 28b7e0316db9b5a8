use Rattle.std.proofs.Common.{◌≡◌, take}
use Rattle.f2b_model.specs.Watches.{watches_of}
use Rattle.jail_moves.proofs.watches.watches_of.Given as goal

abbrev pub invariant-loop-definition : goal.invariant-loop-definition
invariant-loop-definition l = l.new ≡ watches_of (take l.definition-index l.definitions) l.watches
