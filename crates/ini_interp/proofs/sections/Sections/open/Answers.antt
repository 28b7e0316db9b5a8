use Rattle.std.proofs.Common.{◌∙◌, ap, ap₂, sym, is_some}
use Rattle.ini_interp.specs.Entries.{by_bytes}
use Rattle.ini_interp.specs.Kept.{without_last}
use Rattle.ini_interp.specs.Sections.{value_of, with_value, opened}
use Rattle.ini_interp.proofs.EntriesLemmas.{value_is, inserted_is}
use Rattle.ini_interp.proofs.SectionLemmas.{open_there, open_new, some_there, none_there}
use Rattle.ini_interp.proofs.sections.Sections.open.Goals as goal

pub returns-then-contains_key-clause-ok : goal.returns-then-contains_key-clause-ok
returns-then-contains_key-clause-ok c =
    let es = c.self.inside.map.entries in
    let section = c.args.section.now in
    let there = some_there (value_of section (by_bytes es)) (ap is_some (sym (value_is section es)) ∙ sym c.contains_key.ensures ∙ c.if-contains_key.true) in
    sym c.self.view_is ∙ open_there section (by_bytes es) there.0 there.1 ∙ ap (opened section) c.self.view_is

pub returns-clause-ok : goal.returns-clause-ok
returns-clause-ok c =
    let es = c.self.inside.map.entries in
    let section = c.args.section.now in
    let none = none_there (value_of section (by_bytes es)) (ap is_some (sym (value_is section es)) ∙ sym c.contains_key.ensures ∙ c.if-contains_key.false) in
    ap (λ l. without_last (by_bytes l)) c.in_ok-insert.ensures.entries
    ∙ ap without_last (inserted_is c.in_ok-name.name c.new.result es ∙ ap₂ (λ name items. with_value name items (by_bytes es)) c.in_ok-name.ensures.ok c.new.ensures)
    ∙ open_new section (by_bytes es) none ∙ ap (opened section) c.self.view_is
