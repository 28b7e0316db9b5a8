use Rattle.std.proofs.Common.{◌∙◌, ap, sym}
use Rattle.log_set.proofs.FirstLemmas.{changed_at, unchanged}
use Rattle.log_set.specs.Changes.{search_changed}
use Rattle.log_set.specs.Searches.{is_named}
use Rattle.log_set.proofs.change.change_named.Goals as goal

pub returns-in-Some : goal.returns-in-Some
returns-in-Some c =
    changed_at (is_named c.args.name.now) (search_changed c.args.change) c.args.jails.now c.in-Some.index c.index-jails-index.result _ (sym c.in-Some.ensures) c.index-jails-index.is
    (c.change_search.ensures ∙ ap (search_changed c.args.change) (sym c.index-jails-index.is))

pub returns-in_default : goal.returns-in_default
returns-in_default c = unchanged (is_named c.args.name.now) (search_changed c.args.change) c.args.jails.now (sym c.in_default.ensures)
