use Rattle.std.proofs.Common.{◌<◌, List, length, rules}
use Rattle.std.proofs.lemmas.Option.{IfSome_then}
use Rattle.client_frames.specs.Comes.{told}
use Rattle.client_table.specs.Clients.{Client, after_read}
use Rattle.client_table.proofs.PlaceLemmas.{read_at, set_changed}
use Rattle.client_table.proofs.table.ClientTable.read.Goals as goal

pub returns-clause-after : goal.returns-clause-after
returns-clause-after c =
    let cs : List Client = c.self.inside.clients.items in
    let within : c.args.place < length cs = search rules in
    let at = read_at cs c.args.place c.index_mut.result.now within c.index_mut.ensures.value in
    rw (← c.self.view_is) (IfSome_then (told c.read.result) c.read.ensures.after
    (λ h is. set_changed (after_read c.args.now c.args.answer) cs c.args.place c.index_mut.result.now c.read.new.self at is))
