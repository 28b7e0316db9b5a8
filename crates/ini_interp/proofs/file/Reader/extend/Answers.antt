use Rattle.std.proofs.Common.{◌≡◌, ◌∙◌, ap, is_some, Some, None, option_and_then}
use Rattle.std.proofs.lemmas.Result.{IfOk-weaker, on_ok_weaker}
use Rattle.indexmap.specs.IndexMap.{set_value_at}
use Rattle.ini_interp.specs.Entries.{by_bytes}
use Rattle.ini_interp.specs.Kept.{Kept, Read, last_value, open_value, with_changed, with_more}
use Rattle.ini_interp.proofs.EntriesLemmas.{changed_is, unchanged_is, found_is}
use Rattle.ini_interp.proofs.file.Reader.extend.Goals as goal

pub returns-in_default-get_index_mut-clause-found : goal.returns-in_default-get_index_mut-clause-found
returns-in_default-get_index_mut-clause-found c =
    ap (λ o. is_some (option_and_then last_value o)) (found_is c.self.inside.map.entries c.self.inside.current c.in-Some.place None c.in-Some.is c.in_default-get_index_mut.ensures.value)
    ∙ ap (λ (read : Read). is_some (open_value read)) c.self.view_is

pub returns-in_default-get_index_mut-clause-ok : goal.returns-in_default-get_index_mut-clause-ok
returns-in_default-get_index_mut-clause-ok c =
    let es = c.self.inside.map.entries in
    let change : Kept → Kept = with_more c.args.text.now in
    let same = unchanged_is change es c.self.inside.current c.in-Some.place c.in-Some.is c.in_default-get_index_mut.ensures.value in
    let made : record { sections = by_bytes es; at = c.self.inside.current } ≡ with_changed change (record { sections = by_bytes es; at = c.self.inside.current }) =
    λ i. record { sections = same i; at = c.self.inside.current } in
    made ∙ ap (with_changed change) c.self.view_is

pub returns-clause-found : goal.returns-clause-found
returns-clause-found c =
    let there = ap (λ o. is_some (option_and_then last_value o)) (found_is c.self.inside.map.entries c.self.inside.current c.in-Some.place (Some c.in-Some-get_index_mut.items.now) c.in-Some.is c.in-Some-get_index_mut.ensures.value)
    ∙ ap (λ (read : Read). is_some (open_value read)) c.self.view_is in
    IfOk-weaker c.extend.result _ _ (λ found is. is ∙ there) c.extend.ensures.found

pub returns-clause-ok : goal.returns-clause-ok
returns-clause-ok c =
    let es = c.self.inside.map.entries in
    let items = c.in-Some-get_index_mut.items.now in
    let change : Kept → Kept = with_more c.args.text.now in
    on_ok_weaker c.extend.result
    (λ (more : c.extend.new.self ≡ change items).
    let sections = changed_is change es c.self.inside.current c.in-Some.place items c.extend.new.self c.in-Some.is c.in-Some-get_index_mut.ensures.value more in
    let made : record { sections = by_bytes (set_value_at es c.in-Some.place c.extend.new.self); at = c.self.inside.current } ≡ with_changed change (record { sections = by_bytes es; at = c.self.inside.current }) =
    λ i. record { sections = sections i; at = c.self.inside.current } in
    made ∙ ap (with_changed change) c.self.view_is)
    c.extend.ensures.ok
