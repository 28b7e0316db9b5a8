use Rattle.std.proofs.Common.{◌≡◌, drop}
use Rattle.f2b_mem.specs.Commands.{polled}
use Rattle.f2b_mem.proofs.commands.polled.Given as goal

abbrev pub invariant-loop-command : goal.invariant-loop-command
invariant-loop-command l = polled l.plans (drop l.command-index l.running) l.job ≡ polled l.plans l.running l.job
