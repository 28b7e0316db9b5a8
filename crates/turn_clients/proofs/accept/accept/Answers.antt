use Rattle.run_law.proofs.CauseLemmas.{called_placed}
use Rattle.turn_clients.proofs.AcceptLemmas.{accept_conn, accept_none}
use Rattle.turn_clients.proofs.ServingLemmas.{clients_placed}
use Rattle.turn_clients.proofs.accept.accept.Goals as goal

pub returns-in_ok-running-in-Some-clause-ok : goal.returns-in_ok-running-in-Some-clause-ok
returns-in_ok-running-in-Some-clause-ok g c =
    accept_conn _ _ c.args.running (c.is_full.ensures.room c.if-is_full.false) c.gate_accept.result c.gate_accept.ensures c.conn_in.result c.conn_in.ensures c.in-Some.conn
    c.in_ok-running-in-Some.running c.in-Some.is c.in_ok-running-in-Some.ensures

pub returns-in_ok-running-in-Some-clause-placed : goal.returns-in_ok-running-in-Some-clause-placed
returns-in_ok-running-in-Some-clause-placed g c =
    clients_placed c.args.running c.in_ok-running-in-Some.running _ _ c.in_ok-running-in-Some.ensures
    (called_placed c.args.running.clocked.engine.journal _ _ _ c.gate_accept.ensures c.requires.placed)

pub returns-in-None-clause-ok : goal.returns-in-None-clause-ok
returns-in-None-clause-ok g c =
    accept_none _ _ c.args.running (c.is_full.ensures.room c.if-is_full.false) c.gate_accept.result c.gate_accept.ensures c.conn_in.result c.conn_in.ensures c.in-None.is

pub returns-in-None-clause-placed : goal.returns-in-None-clause-placed
returns-in-None-clause-placed g c = called_placed c.args.running.clocked.engine.journal _ _ _ c.gate_accept.ensures c.requires.placed
