use Rattle.std.proofs.lemmas.Result.{err_from_is_err_and}
use Rattle.std.proofs.Common.{◌≡◌, ◌∙◌, [], ◌∷◌, ◌++◌, Ok, Err, sym, ap}
use Rattle.f2b_base.specs.declared.addr.Family.TheVariants.{Both}
use Rattle.jail_conf.specs.Actions.{lane, lane_of_both}
use Rattle.jail_conf.specs.Then.{Gives}
use Rattle.jail_conf.proofs.FaultLemmas.{first_fails}
use Rattle.jail_conf.proofs.actions.lane_of_both.Goals as goal

pub returns-in_err-both : goal.returns-in_err-both
unfolding lane_of_both
returns-in_err-both c =
    let p = err_from_is_err_and c.from_residual.result c.from_residual.ensures.1 in
    let failed : Gives (lane c.args.source.now c.args.name.now Both) (Err c.in_err-both.field-0.0) = c.in_err-both.ensures in
    rw (p.1, p.2) (first_fails _ _ _ failed)

pub returns : goal.returns
unfolding lane_of_both
returns c =
    let both : lane c.args.source.now c.args.name.now Both ≡ Ok c.in_ok-both.both = c.in_ok-both.ensures in
    rw both (ap Ok (sym (c.in_ok-push.ensures.ok ∙ ap (λ lanes. lanes ++ c.in_ok-both.both ∷ []) c.new-lanes.ensures)))
