use Rattle.std.proofs.lemmas.Result.{err_from_is_err_and}
use Rattle.std.proofs.Common.{◌≡◌, ◌∙◌, [], Ok, Err, ap, subst}
use Rattle.jail_conf.specs.Actions.{actions_behind, actions_of}
use Rattle.jail_conf.specs.Sources.{bases_of, own}
use Rattle.jail_conf.specs.Table as table
use Rattle.jail_conf.specs.Then.{Gives}
use Rattle.jail_conf.specs.Words.{full_lines}
use Rattle.jail_conf.proofs.FaultLemmas.{first_fails, first_is_there}
use Rattle.jail_conf.proofs.actions.actions_of.Goals as goal

pub returns-in_err-text-clause-defined : goal.returns-in_err-text-clause-defined
unfolding actions_of
returns-in_err-text-clause-defined c =
    let p = err_from_is_err_and c.from_residual.result c.from_residual.ensures.1 in
    let failed : Gives (own c.args.jail.now table.action) (Err c.in_err-text.field-0.0) = c.in_err-text.ensures in
    rw (p.1, p.2) (first_fails _ _ _ failed)

pub returns-clause-defined : goal.returns-clause-defined
unfolding actions_of
returns-clause-defined c =
    let text : own c.args.jail.now table.action ≡ Ok c.in_ok-text.text = c.in_ok-text.ensures in
    first_is_there _ _ c.in_ok-text.text c.actions_in.result text
    (subst (λ lines. Gives (actions_behind (bases_of c.args.bases.now) c.args.jail.now [] lines) c.actions_in.result)
    (c.as_slice.ensures ∙ (c.in_ok-lines.ensures ∙ ap full_lines c.as_str.ensures.value)) c.actions_in.ensures.defined)
