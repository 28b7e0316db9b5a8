use Rattle.std.proofs.Common.{◌<◌, List, length, rules}
use Rattle.std.proofs.lemmas.Result.{on_ok_weaker}
use Rattle.client_table.specs.Clients.{Client, answered}
use Rattle.client_table.proofs.PlaceLemmas.{read_at, set_changed}
use Rattle.client_table.proofs.table.ClientTable.answer.Goals as goal

pub returns-clause-ok : goal.returns-clause-ok
returns-clause-ok c =
    let cs : List Client = c.self.inside.clients.items in
    let within : c.args.place < length cs = search rules in
    let at = read_at cs c.args.place c.index_mut.result.now within c.index_mut.ensures.value in
    rw (← c.self.view_is) (on_ok_weaker c.answer.result
    (λ is. set_changed (answered c.args.reply.now) cs c.args.place c.index_mut.result.now c.answer.new.self at is) c.answer.ensures.ok)
