use Rattle.std.proofs.Common.{sym}
use Rattle.run_law.proofs.CauseLemmas.{called_placed}
use Rattle.turn_clients.proofs.ServeLemmas.{serve_behind, written_moves}
use Rattle.turn_clients.proofs.ServingLemmas.{clients_placed}
use Rattle.turn_clients.proofs.serve.serve.Goals as goal

pub close_over-running-requires-clause-placed : goal.close_over-running-requires-clause-placed
close_over-running-requires-clause-placed g c =
    clients_placed c.args.running c.wrote-running.result _ _ c.wrote-running.ensures (called_placed c.args.running.clocked.engine.journal _ _ _ c.gate_write-answer.ensures.event c.requires.placed)

pub returns-in-Write-clause-ok : goal.returns-in-Write-clause-ok
returns-in-Write-clause-ok g c =
    serve_behind _ _ _ c.args.place c.close_over-running.result.1 c.args.running c.wrote-running.result c.close_over-running.result.0
    (written_moves _ _ c.args.place c.conn.result c.in-Write.bytes.now c.gate_write-answer.result c.args.running c.wrote-running.result c.requires.within (sym c.in-Write.ensures.next)
    c.conn.ensures c.gate_write-answer.ensures.event c.gate_write-answer.ensures.bounds c.wrote-running.ensures)
    c.close_over-running.ensures.moves
