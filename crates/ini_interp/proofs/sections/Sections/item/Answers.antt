use Rattle.std.proofs.Common.{◌∙◌, ap, sym}
use Rattle.ini_interp.specs.Entries.{by_bytes}
use Rattle.ini_interp.specs.Sections.{item_at}
use Rattle.ini_interp.proofs.EntriesLemmas.{value_is}
use Rattle.ini_interp.proofs.SectionLemmas.{item_there, item_none}
use Rattle.ini_interp.proofs.sections.Sections.item.Goals as goal

pub returns-in-Some : goal.returns-in-Some
returns-in-Some c =
    let es = c.self.inside.map.entries in
    let section = c.args.section.now in
    c.name.ensures ∙ item_there section (by_bytes es) c.args.index c.in-Some.items.now (sym (c.in-Some.ensures.value ∙ value_is section es)) ∙ ap (λ s. item_at s c.args.section.now c.args.index) c.self.view_is

pub returns-in-None : goal.returns-in-None
returns-in-None c =
    let es = c.self.inside.map.entries in
    let section = c.args.section.now in
    item_none section (by_bytes es) c.args.index (sym (c.in-None.ensures.value ∙ value_is section es)) ∙ ap (λ s. item_at s c.args.section.now c.args.index) c.self.view_is
