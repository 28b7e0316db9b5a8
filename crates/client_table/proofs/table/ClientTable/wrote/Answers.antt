use Rattle.std.proofs.Common.{◌<◌, List, length, rules}
use Rattle.client_table.specs.Clients.{Client, after_write}
use Rattle.client_table.proofs.PlaceLemmas.{read_at, set_changed}
use Rattle.client_table.proofs.table.ClientTable.wrote.Goals as goal

pub returns : goal.returns
returns c =
    let cs : List Client = c.self.inside.clients.items in
    let within : c.args.place < length cs = search rules in
    let at = read_at cs c.args.place c.index_mut.result.now within c.index_mut.ensures.value in
    rw (← c.self.view_is) (set_changed (after_write c.args.now c.args.answer) cs c.args.place c.index_mut.result.now c.wrote.new.self at c.wrote.ensures)
