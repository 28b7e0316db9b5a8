use Rattle.std.proofs.Common.{◌≡◌, ◌∙◌, Some, get_or, ap, sym}
use Rattle.std.specs.Prelude.{find, option_map}
use Rattle.log_set.proofs.FirstLemmas.{found_at, none_found}
use Rattle.log_set.specs.Searches.{is_awake, is_named}
use Rattle.log_set.specs.declared.jail_search.JailSearch.{JailSearch}
use Rattle.log_set.proofs.searches.is_awake.Goals as goal

pub returns-in-Some : goal.returns-in-Some
returns-in-Some c =
    let found : find (is_named c.args.name.now) c.args.jails.now ≡ Some (get_or c.args.jails.now c.in-Some.index c.index-jails-index.result) =
    found_at _ _ _ _ (sym c.in-Some.ensures) c.index-jails-index.is ∙ ap Some c.index-jails-index.is in
    ap (λ o. is_awake (option_map (λ (j : JailSearch). j.idle) o)) (sym found)

pub returns-in-None : goal.returns-in-None
returns-in-None c =
    ap (λ o. is_awake (option_map (λ (j : JailSearch). j.idle) o)) (sym (none_found (is_named c.args.name.now) c.args.jails.now (sym c.in-None.ensures)))
