use Rattle.std.proofs.Common.{◌≡◌, ◌∙◌, Option, Some, IfSome, get_or, ap, sym, subst}
use Rattle.std.specs.Prelude.{find, option_map}
use Rattle.f2b_base.specs.declared.jail.Place.{Place}
use Rattle.f2b_model.specs.Storable.{IsStorablePlace}
use Rattle.log_set.proofs.FirstLemmas.{found_at, none_found}
use Rattle.log_set.specs.Logs.{read_of, read_to}
use Rattle.log_set.specs.Searches.{failures_by, is_named}
use Rattle.log_set.specs.declared.jail_search.JailSearch.{JailSearch}
use Rattle.log_set.proofs.taken.read.Goals as goal

pub returns-in_default-place_of-clause-read : goal.returns-in_default-place_of-clause-read
returns-in_default-place_of-clause-read c =
    ap (λ o. read_of (option_map (λ (j : JailSearch). failures_by j c.args.now) o) c.args.log.now.jail c.args.log.now.path c.args.looked)
    (sym (none_found (is_named c.args.log.now.jail) c.args.jails.now (sym c.in_default-place_of.ensures)))

pub returns-clause-read : goal.returns-clause-read
returns-clause-read c =
    let search_there = get_or c.args.jails.now c.in-Some-place_of.index c.index-jails-index.result in
    let found : find (is_named c.args.log.now.jail) c.args.jails.now ≡ Some search_there =
    found_at _ _ _ _ (sym c.in-Some-place_of.ensures) c.index-jails-index.is ∙ ap Some c.index-jails-index.is in
    c.in_ok-what.ensures.read
    ∙ ap (λ place. read_to (failures_by search_there c.args.now) c.args.log.now.jail c.args.log.now.path c.args.looked.step place) (sym c.in-Some.is)
    ∙ ap (λ o. read_of (option_map (λ (j : JailSearch). failures_by j c.args.now) o) c.args.log.now.jail c.args.log.now.path c.args.looked) (sym found)

pub returns-clause-storable : goal.returns-clause-storable
returns-clause-storable c = λ placed. c.in_ok-what.ensures.storable (subst (λ (o : Option Place). IfSome o IsStorablePlace) c.in-Some.is placed)
