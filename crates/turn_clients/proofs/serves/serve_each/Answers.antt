use Rattle.std.proofs.Common.{arith}
use Rattle.turn_clients.proofs.LoopLemmas.{clients_end}
use Rattle.turn_clients.proofs.serves.serve_each.Goals as goal

pub returns-clause-ok : goal.returns-clause-ok
returns-clause-ok g c = clients_end c.args.from _ _ c.clients.place c.args.running c.clients.running c.clients.invariant.moves (omega (arith, c.clients-test.false, c.len.ensures.count))
