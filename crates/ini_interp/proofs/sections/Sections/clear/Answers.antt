use Rattle.std.proofs.Common.{◌∙◌, ap}
use Rattle.ini_interp.specs.Entries.{by_bytes}
use Rattle.ini_interp.specs.Kept.{Kept, without_last}
use Rattle.ini_interp.specs.Sections.{without}
use Rattle.ini_interp.proofs.EntriesLemmas.{removed_is}
use Rattle.ini_interp.proofs.Named.{valued-without}
use Rattle.ini_interp.proofs.sections.Sections.clear.Goals as goal

pub returns : goal.returns
returns c =
    let es = c.self.inside.map.entries in
    let section = c.args.section.now in
    let none = rw c.shift_remove.ensures.entries at c.shift_remove.ensures.updates.1 in
    ap (λ l. without_last (by_bytes l)) c.shift_remove.ensures.entries
    ∙ ap without_last (removed_is section es none)
    ∙ valued-without (λ (k : Kept). k.items) section (by_bytes es) ∙ ap (without section) c.self.view_is
