use Rattle.std.proofs.Common.{◌≡◌, ◌∙◌, sym, subst, rules}
use Rattle.std.specs.Str.{IsUtf8}
use Rattle.f2b_model.specs.Storable.{IsJailName}
use Rattle.log_set.proofs.taken.read_to.Goals as goal

pub returns-clause-storable : goal.returns-clause-storable
returns-clause-storable c =
    let name : c.in_ok-name.name ≡ c.args.log.now.jail = search rules in
    let path = c.in_ok-path.ensures ∙ c.as_str.ensures.value in
    λ place.
    (subst IsJailName (sym name) c.args.log.now.named, subst IsUtf8 (sym path) c.as_str.ensures.text, place, c.in_ok-found.ensures.storable, c.in_ok-found.ensures.few)
