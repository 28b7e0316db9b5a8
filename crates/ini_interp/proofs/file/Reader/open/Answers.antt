use Rattle.std.proofs.Common.{◌≡◌, ◌∙◌, ap, ap₂, sym, is_some, true, false, Some, string_bytes}
use Rattle.ini_interp.specs.Entries.{by_bytes}
use Rattle.ini_interp.specs.Kept.{place_of, with_open}
use Rattle.ini_interp.specs.Sections.{value_of, with_value}
use Rattle.ini_interp.proofs.EntriesLemmas.{value_is, inserted_is, insert_place_is, place_is}
use Rattle.ini_interp.proofs.OpenLemmas.{opened_there, opened_new, found_place}
use Rattle.ini_interp.proofs.file.Reader.open.Goals as goal

pub returns-in-Some : goal.returns-in-Some
returns-in-Some c =
    let es = c.self.inside.map.entries in
    let section = c.args.section.now in
    let there : is_some (value_of section (by_bytes es)) ≡ true = ap is_some (sym (value_is section es)) ∙ sym c.in-Some.ensures.found in
    let sections = opened_there section (by_bytes es) there in
    let place : c.in-Some.place ≡ place_of section (by_bytes es) = found_place _ _ _ c.in-Some.ensures.index ∙ place_is section es in
    let made : record { sections = by_bytes es; at = Some c.in-Some.place } ≡ with_open section (record { sections = by_bytes es; at = c.self.inside.current }) =
    λ i. record { sections = sections i; at = Some (place i) } in
    made ∙ ap (with_open section) c.self.view_is

pub returns : goal.returns
returns c =
    let es = c.self.inside.map.entries in
    let section = c.args.section.now in
    let key : string_bytes c.in_ok-name.name ≡ section = c.in_ok-name.ensures.ok in
    let new : is_some (value_of section (by_bytes es)) ≡ false = ap is_some (sym (value_is section es)) ∙ sym c.in_default.ensures.found in
    let sections = ap by_bytes c.in_ok-place.ensures.entries ∙ inserted_is c.in_ok-name.name c.new.result es
    ∙ ap₂ (λ name items. with_value name items (by_bytes es)) key c.new.ensures ∙ opened_new section (by_bytes es) new in
    let place : c.in_ok-place.place ≡ place_of section (by_bytes es) =
    c.in_ok-place.ensures.index ∙ insert_place_is c.in_ok-name.name es ∙ ap (λ name. place_of name (by_bytes es)) key in
    let made : record { sections = by_bytes c.insert_full.new.self.entries; at = Some c.in_ok-place.place } ≡ with_open section (record { sections = by_bytes es; at = c.self.inside.current }) =
    λ i. record { sections = sections i; at = Some (place i) } in
    made ∙ ap (with_open section) c.self.view_is
