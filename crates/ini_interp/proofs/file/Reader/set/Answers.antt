use Rattle.std.proofs.Common.{◌≡◌, ◌∙◌, ap, ap₂, is_some, Some, None}
use Rattle.std.specs.Str.{str_to_ascii_lowercase}
use Rattle.indexmap.specs.IndexMap.{set_value_at}
use Rattle.ini_interp.specs.Entries.{by_bytes}
use Rattle.ini_interp.specs.Kept.{Kept, Read, open_kept, with_changed, with_item}
use Rattle.ini_interp.proofs.EntriesLemmas.{changed_is, unchanged_is, found_is}
use Rattle.ini_interp.proofs.file.Reader.set.Goals as goal

pub returns-in_default-get_index_mut-clause-found : goal.returns-in_default-get_index_mut-clause-found
returns-in_default-get_index_mut-clause-found c =
    ap is_some (found_is c.self.inside.map.entries c.self.inside.current c.in-Some.place None c.in-Some.is c.in_default-get_index_mut.ensures.value)
    ∙ ap (λ (read : Read). is_some (open_kept read)) c.self.view_is

pub returns-in_default-get_index_mut-clause-ok : goal.returns-in_default-get_index_mut-clause-ok
returns-in_default-get_index_mut-clause-ok c =
    let es = c.self.inside.map.entries in
    let change : Kept → Kept = with_item (str_to_ascii_lowercase c.args.name.now) c.args.value.now in
    let same = unchanged_is change es c.self.inside.current c.in-Some.place c.in-Some.is c.in_default-get_index_mut.ensures.value in
    let made : record { sections = by_bytes es; at = c.self.inside.current } ≡ with_changed change (record { sections = by_bytes es; at = c.self.inside.current }) =
    λ i. record { sections = same i; at = c.self.inside.current } in
    made ∙ ap (with_changed change) c.self.view_is

pub returns-clause-found : goal.returns-clause-found
returns-clause-found c =
    ap is_some (found_is c.self.inside.map.entries c.self.inside.current c.in-Some.place (Some c.in-Some-get_index_mut.items.now) c.in-Some.is c.in-Some-get_index_mut.ensures.value)
    ∙ ap (λ (read : Read). is_some (open_kept read)) c.self.view_is

pub returns-clause-ok : goal.returns-clause-ok
returns-clause-ok c =
    let es = c.self.inside.map.entries in
    let items = c.in-Some-get_index_mut.items.now in
    let change : Kept → Kept = with_item (str_to_ascii_lowercase c.args.name.now) c.args.value.now in
    let set : c.set.new.self ≡ change items = c.in_ok-set.ensures.ok ∙ ap₂ (λ name value. with_item name value items) c.in_ok-name.ensures.ok c.in_ok-value.ensures in
    let sections = changed_is change es c.self.inside.current c.in-Some.place items c.set.new.self c.in-Some.is c.in-Some-get_index_mut.ensures.value set in
    let made : record { sections = by_bytes (set_value_at es c.in-Some.place c.set.new.self); at = c.self.inside.current } ≡ with_changed change (record { sections = by_bytes es; at = c.self.inside.current }) =
    λ i. record { sections = sections i; at = c.self.inside.current } in
    made ∙ ap (with_changed change) c.self.view_is
