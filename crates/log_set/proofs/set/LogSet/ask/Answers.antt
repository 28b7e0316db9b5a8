use Rattle.std.proofs.Common.{◌≡◌, ◌<◌, length, Some, rules, refl}
use Rattle.std.specs.Prelude.{slice_get}
use Rattle.std.proofs.lemmas.Option.{slice_get_read}
use Rattle.log_set.specs.Logs.{Logs}
use Rattle.log_set.proofs.CallLemmas.{asks, asks_as}
use Rattle.log_set.proofs.set.LogSet.ask.Goals as goal

pub returns-clause-ask : goal.returns-clause-ask
returns-clause-ask c =
    let s : Logs = record { jails = c.self.inside.jails.items; logs = c.self.inside.logs.items } in
    let less : c.args.place < length c.self.inside.logs.items = search rules in
    let at : slice_get c.self.inside.logs.items c.args.place ≡ Some c.index.result.now = slice_get_read _ _ _ _ refl less c.index.ensures in
    rw (← c.self.view_is) (asks s _ _ at _ c.ask.ensures.watch)

pub returns-clause-follower : goal.returns-clause-follower
returns-clause-follower c =
    let s : Logs = record { jails = c.self.inside.jails.items; logs = c.self.inside.logs.items } in
    let less : c.args.place < length c.self.inside.logs.items = search rules in
    let at : slice_get c.self.inside.logs.items c.args.place ≡ Some c.index.result.now = slice_get_read _ _ _ _ refl less c.index.ensures in
    rw (← c.self.view_is) (asks_as s _ _ at _ c.ask.ensures.value)
