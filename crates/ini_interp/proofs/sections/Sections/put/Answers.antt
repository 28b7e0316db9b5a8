use Rattle.std.proofs.Common.{◌≡◌, ◌∙◌, ap, ap₂, sym, string_bytes, Some, None, []}
use Rattle.std.proofs.lemmas.Map.Steps.{set_value_same}
use Rattle.std.proofs.lemmas.Result.{on_ok_weaker, on_err_weaker}
use Rattle.std.specs.Str.{bytes_eq, str_to_ascii_lowercase}
use Rattle.std.specs.Map.{set_value}
use Rattle.ini_interp.specs.Entries.{by_bytes}
use Rattle.ini_interp.specs.Kept.{with_item, without_last}
use Rattle.ini_interp.specs.Sections.{value_of, with_value, with_raw}
use Rattle.ini_interp.proofs.EntriesLemmas.{value_is, inserted_is, written_is}
use Rattle.ini_interp.proofs.SectionLemmas.{put_there, put_new}
use Rattle.ini_interp.proofs.sections.Sections.put.Goals as goal

pub returns-in-Some-clause-ok : goal.returns-in-Some-clause-ok
returns-in-Some-clause-ok c =
    let es = c.self.inside.map.entries in
    let section = c.args.section.now in
    let there : value_of section (by_bytes es) ≡ Some c.in-Some.items.now = sym (c.in-Some.ensures.value ∙ value_is section es) in
    let written = (c.get_mut.follows.holds c.set.new.self).0 in
    on_ok_weaker c.set.result
    (λ (set : c.set.new.self ≡ with_item (string_bytes c.in_ok-name.name) c.in_ok-value.value c.in-Some.items.now).
    ap (λ l. without_last (by_bytes l)) written ∙ ap without_last (written_is section c.set.new.self c.in-Some.items.now es there)
    ∙ put_there section (by_bytes es) c.args.name.now c.args.value.now c.in-Some.items.now c.set.new.self there
    (set ∙ ap₂ (λ name value. with_item name value c.in-Some.items.now) c.in_ok-name.ensures.ok c.in_ok-value.ensures)
    ∙ ap (λ s. with_raw s section c.args.name.now c.args.value.now) c.self.view_is)
    c.set.ensures.ok

pub returns-in-Some-clause-err : goal.returns-in-Some-clause-err
returns-in-Some-clause-err c =
    let es = c.self.inside.map.entries in
    let section = c.args.section.now in
    let written = (c.get_mut.follows.holds c.set.new.self).0 in
    on_err_weaker c.set.result
    (λ (same : c.set.new.self ≡ c.in-Some.items.now).
    ap (λ l. without_last (by_bytes l)) (written ∙ ap (set_value (λ k. bytes_eq section (string_bytes k)) es) same ∙ set_value_same _ es c.in-Some.items.now (sym c.in-Some.ensures.value)) ∙ c.self.view_is)
    c.set.ensures.err

pub returns-clause-ok : goal.returns-clause-ok
returns-clause-ok c =
    let es = c.self.inside.map.entries in
    let section = c.args.section.now in
    let none : value_of section (by_bytes es) ≡ None = sym (c.in_default.ensures.value ∙ value_is section es) in
    let made : c.set-2.new.self ≡ with_item (str_to_ascii_lowercase c.args.name.now) c.args.value.now (record { items = []; last = None }) =
    c.in_ok-set.ensures.ok ∙ ap (with_item (string_bytes c.in_ok-name.name) c.in_ok-value.value) c.new-items.ensures
    ∙ ap₂ (λ name value. with_item name value (record { items = []; last = None })) c.in_ok-name.ensures.ok c.in_ok-value.ensures in
    ap (λ l. without_last (by_bytes l)) (rw c.get_mut.follows.holds-at-none at c.in_ok-insert.ensures.entries)
    ∙ ap without_last (inserted_is c.in_ok-section.section c.set-2.new.self es ∙ ap (λ name. with_value name c.set-2.new.self (by_bytes es)) c.in_ok-section.ensures.ok)
    ∙ put_new section (by_bytes es) c.args.name.now c.args.value.now c.set-2.new.self none made
    ∙ ap (λ s. with_raw s section c.args.name.now c.args.value.now) c.self.view_is
