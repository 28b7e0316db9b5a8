use Rattle.std.proofs.Common.{◌∙◌, ap, sym}
use Rattle.ini_interp.specs.Entries.{by_bytes}
use Rattle.ini_interp.specs.Sections.{raw}
use Rattle.ini_interp.proofs.EntriesLemmas.{value_is}
use Rattle.ini_interp.proofs.SectionLemmas.{raw_there, raw_none}
use Rattle.ini_interp.proofs.sections.Sections.raw.Goals as goal

pub returns-in-Some : goal.returns-in-Some
returns-in-Some c =
    let es = c.self.inside.map.entries in
    let section = c.args.section.now in
    c.raw.ensures ∙ raw_there section (by_bytes es) c.args.name.now c.in-Some.items.now (sym (c.in-Some.ensures.value ∙ value_is section es)) ∙ ap (λ s. raw s c.args.section.now c.args.name.now) c.self.view_is

pub returns-in-None : goal.returns-in-None
returns-in-None c =
    let es = c.self.inside.map.entries in
    let section = c.args.section.now in
    raw_none section (by_bytes es) c.args.name.now (sym (c.in-None.ensures.value ∙ value_is section es)) ∙ ap (λ s. raw s c.args.section.now c.args.name.now) c.self.view_is
