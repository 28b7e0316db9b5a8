use Rattle.std.proofs.Common.{sym, subst}
use Rattle.client_table.specs.Clients.{Asks, AnswersRead}
use Rattle.turn_clients.proofs.ServeLemmas.{read_placed}
use Rattle.turn_clients.proofs.serve.read.Goals as goal

pub hear-requires : goal.hear-requires
hear-requires g c =
    let P : Asks → Type 0 = λ a. AnswersRead a c.gate_read.result in
    record {
      within = c.requires.within;
      answers = subst P (sym c.requires.asks) c.gate_read.ensures.bounds;
      placed = read_placed _ _ c.conn.result c.args.most c.gate_read.result c.args.running.clocked c.in_default.not-NoMemory c.gate_read.ensures.event c.requires.placed;
    }
