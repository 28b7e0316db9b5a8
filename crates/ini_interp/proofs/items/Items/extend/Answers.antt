use Rattle.std.proofs.Common.{◌≡◌, ◌∙◌, ◌++◌, ◌∷◌, [], List, ℕ, ap, append_assoc, is_some, Some, None}
use Rattle.indexmap.specs.IndexMap.{set_value_at}
use Rattle.ini_interp.specs.Entries.{by_bytes}
use Rattle.ini_interp.specs.Kept.{Kept, last_value, with_more}
use Rattle.ini_interp.proofs.EntriesLemmas.{changed_is, unchanged_is, found_is}
use Rattle.ini_interp.proofs.items.Items.extend.Goals as goal

pub returns-in_default-get_index_mut-clause-found : goal.returns-in_default-get_index_mut-clause-found
returns-in_default-get_index_mut-clause-found c =
    ap is_some (found_is c.self.inside.map.entries c.self.inside.last c.in-Some.place None c.in-Some.is c.in_default-get_index_mut.ensures.value)
    ∙ ap (λ (kept : Kept). is_some (last_value kept)) c.self.view_is

pub returns-in_default-get_index_mut-clause-ok : goal.returns-in_default-get_index_mut-clause-ok
returns-in_default-get_index_mut-clause-ok c =
    let es = c.self.inside.map.entries in
    let more : List ℕ → List ℕ = λ v. v ++ 10 ∷ c.args.text.now in
    let same = unchanged_is more es c.self.inside.last c.in-Some.place c.in-Some.is c.in_default-get_index_mut.ensures.value in
    let made : record { items = by_bytes es; last = c.self.inside.last } ≡ with_more c.args.text.now (record { items = by_bytes es; last = c.self.inside.last }) =
    λ i. record { items = same i; last = c.self.inside.last } in
    made ∙ ap (with_more c.args.text.now) c.self.view_is

pub returns-clause-found : goal.returns-clause-found
returns-clause-found c =
    ap is_some (found_is c.self.inside.map.entries c.self.inside.last c.in-Some.place (Some c.in-Some-get_index_mut.value.now) c.in-Some.is c.in-Some-get_index_mut.ensures.value)
    ∙ ap (λ (kept : Kept). is_some (last_value kept)) c.self.view_is

pub returns-clause-ok : goal.returns-clause-ok
returns-clause-ok c =
    let es = c.self.inside.map.entries in
    let value = c.in-Some-get_index_mut.value.now in
    let more : List ℕ → List ℕ = λ v. v ++ 10 ∷ c.args.text.now in
    let pushed : c.push_str-2.new.self ≡ more value =
    c.in_ok-push_str-2.ensures.ok ∙ ap (λ v. v ++ c.args.text.now) c.in_ok-push_str.ensures.ok ∙ append_assoc value (10 ∷ []) c.args.text.now in
    let items = changed_is more es c.self.inside.last c.in-Some.place value c.push_str-2.new.self c.in-Some.is c.in-Some-get_index_mut.ensures.value pushed in
    let made : record { items = by_bytes (set_value_at es c.in-Some.place c.push_str-2.new.self); last = c.self.inside.last } ≡ with_more c.args.text.now (record { items = by_bytes es; last = c.self.inside.last }) =
    λ i. record { items = items i; last = c.self.inside.last } in
    made ∙ ap (with_more c.args.text.now) c.self.view_is
