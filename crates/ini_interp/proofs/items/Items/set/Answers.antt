use Rattle.std.proofs.Common.{◌≡◌, ◌∙◌, ap, string_bytes, Some}
use Rattle.ini_interp.proofs.EntriesLemmas.{inserted_is, insert_place_is}
use Rattle.ini_interp.specs.Kept.{with_item}
use Rattle.ini_interp.specs.Entries.{by_bytes}
use Rattle.ini_interp.proofs.items.Items.set.Goals as goal

pub returns-clause-ok : goal.returns-clause-ok
returns-clause-ok c =
    let items = ap by_bytes c.in_ok-place.ensures.entries ∙ inserted_is c.args.name c.args.value c.self.inside.map.entries in
    let last = c.in_ok-place.ensures.index ∙ insert_place_is c.args.name c.self.inside.map.entries in
    let made : _ ≡ _ = λ i. record { items = items i; last = Some (last i) } in
    made ∙ ap (with_item (string_bytes c.args.name) c.args.value) c.self.view_is
