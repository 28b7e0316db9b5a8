use Rattle.std.proofs.lemmas.Result.{err_from_is_err_and}
use Rattle.std.proofs.Common.{◌≡◌, ◌∙◌, [], ◌∷◌, ◌++◌, Ok, Err, sym, ap, subst}
use Rattle.f2b_base.specs.declared.addr.Family.TheVariants.{Inet4, Inet6}
use Rattle.jail_conf.specs.Actions.{lane, lane_of_each}
use Rattle.jail_conf.specs.Sources.{for_inet6}
use Rattle.jail_conf.specs.Then.{Gives}
use Rattle.jail_conf.proofs.FaultLemmas.{first_fails}
use Rattle.jail_conf.proofs.actions.lane_of_each.Goals as goal

pub returns-in_err-inet4-clause-lanes : goal.returns-in_err-inet4-clause-lanes
unfolding lane_of_each
returns-in_err-inet4-clause-lanes c =
    let p = err_from_is_err_and c.from_residual.result c.from_residual.ensures.1 in
    let failed : Gives (lane c.args.source.now c.args.name.now Inet4) (Err c.in_err-inet4.field-0.0) = c.in_err-inet4.ensures in
    rw (p.1, p.2) (first_fails _ _ _ failed)

pub returns-in_err-inet6-clause-lanes : goal.returns-in_err-inet6-clause-lanes
unfolding lane_of_each
returns-in_err-inet6-clause-lanes c =
    let p = err_from_is_err_and c.from_residual-in_err-inet6.result c.from_residual-in_err-inet6.ensures.1 in
    let inet4 : lane c.args.source.now c.args.name.now Inet4 ≡ Ok c.in_ok-inet4.inet4 = c.in_ok-inet4.ensures in
    let failed : Gives (lane (for_inet6 c.args.source.now) c.args.name.now Inet6) (Err c.in_err-inet6.field-0.0) =
    subst (λ source. Gives (lane source c.args.name.now Inet6) (Err c.in_err-inet6.field-0.0)) c.in_ok-for_inet6.ensures c.in_err-inet6.ensures in
    rw inet4 (rw (p.1, p.2) (first_fails _ _ _ failed))

pub returns-clause-lanes : goal.returns-clause-lanes
unfolding lane_of_each
returns-clause-lanes c =
    let inet4 : lane c.args.source.now c.args.name.now Inet4 ≡ Ok c.in_ok-inet4.inet4 = c.in_ok-inet4.ensures in
    let inet6 : lane (for_inet6 c.args.source.now) c.args.name.now Inet6 ≡ Ok c.in_ok-inet6.inet6 =
    subst (λ source. lane source c.args.name.now Inet6 ≡ Ok c.in_ok-inet6.inet6) c.in_ok-for_inet6.ensures c.in_ok-inet6.ensures in
    let first : c.push.new.self ≡ c.in_ok-inet4.inet4 ∷ [] = c.in_ok-push.ensures.ok ∙ ap (λ lanes. lanes ++ c.in_ok-inet4.inet4 ∷ []) c.new-lanes.ensures in
    let both : c.push-2.new.self ≡ c.in_ok-inet4.inet4 ∷ c.in_ok-inet6.inet6 ∷ [] =
    c.in_ok-push-2.ensures.ok ∙ ap (λ lanes. lanes ++ c.in_ok-inet6.inet6 ∷ []) first in
    rw inet4 (rw inet6 (ap Ok (sym both)))
