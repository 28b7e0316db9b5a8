use Rattle.std.proofs.Common.{◌∙◌, ap, option_map, string_bytes, Some}
use Rattle.ini_interp.specs.Entries.{by_bytes}
use Rattle.ini_interp.specs.Sections.{section_at}
use Rattle.ini_interp.proofs.EntriesLemmas.{name_at}
use Rattle.ini_interp.proofs.SectionLemmas.{section_name}
use Rattle.ini_interp.proofs.sections.Sections.section.Goals as goal

pub returns-in-Some : goal.returns-in-Some
returns-in-Some c =
    let es = c.self.inside.map.entries in
    ap Some c.as_str.ensures.value ∙ ap (option_map (λ e. string_bytes e.0)) c.in-Some.ensures.entry
    ∙ name_at es c.args.index ∙ section_name (by_bytes es) c.args.index ∙ ap (λ s. section_at s c.args.index) c.self.view_is

pub returns-in-None : goal.returns-in-None
returns-in-None c =
    let es = c.self.inside.map.entries in
    ap (option_map (λ e. string_bytes e.0)) c.in-None.ensures.entry
    ∙ name_at es c.args.index ∙ section_name (by_bytes es) c.args.index ∙ ap (λ s. section_at s c.args.index) c.self.view_is
