use Rattle.std.proofs.Common.{◌≡◌, ◌++◌, map, take, drop}
use Rattle.f2b_mem.specs.Commands.{asked}
use Rattle.f2b_mem.proofs.commands.ask.Given as goal

abbrev pub invariant-loop-index : goal.invariant-loop-index
invariant-loop-index l = l.running.items ≡ map (asked l.job) (take l.index l.fn.running.items) ++ drop l.index l.fn.running.items
