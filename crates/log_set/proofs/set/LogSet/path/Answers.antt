use Rattle.std.proofs.Common.{◌≡◌, ◌<◌, length, Some, rules, refl}
use Rattle.std.specs.Prelude.{slice_get}
use Rattle.std.proofs.lemmas.Option.{slice_get_read}
use Rattle.log_set.specs.Logs.{Logs}
use Rattle.log_set.proofs.CallLemmas.{lies}
use Rattle.log_set.proofs.set.LogSet.path.Goals as goal

pub returns : goal.returns
returns c =
    let s : Logs = record { jails = c.self.inside.jails.items; logs = c.self.inside.logs.items } in
    let less : c.args.place < length c.self.inside.logs.items = search rules in
    let at : slice_get c.self.inside.logs.items c.args.place ≡ Some c.index.result.now = slice_get_read _ _ _ _ refl less c.index.ensures in
    rw (← c.self.view_is) (lies s _ _ at _ c.as_str.ensures.value)
