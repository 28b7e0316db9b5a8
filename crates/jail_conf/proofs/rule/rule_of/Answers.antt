use Rattle.std.proofs.lemmas.Result.{err_from_is_err_and}
use Rattle.std.proofs.Common.{◌≡◌, Ok, Err, FitsSigned, w64, to_z-of_z, refl, rules}
use Rattle.jail_conf.specs.Jails.{rule_of}
use Rattle.jail_conf.specs.Sources.{own}
use Rattle.jail_conf.specs.Table as table
use Rattle.jail_conf.specs.Then.{Gives}
use Rattle.jail_conf.proofs.FaultLemmas.{first_fails, first_fails_alone}
use Rattle.jail_conf.proofs.rule.rule_of.Goals as goal

pub returns-in_err-base : goal.returns-in_err-base
unfolding rule_of
returns-in_err-base c =
    let p = err_from_is_err_and c.from_residual.result c.from_residual.ensures.1 in
    rw (p.1, p.2) (first_fails _ _ c.in_err-base.field-0.0 c.in_err-base.ensures)

pub returns-in_err-increment : goal.returns-in_err-increment
unfolding rule_of
returns-in_err-increment c =
    let p = err_from_is_err_and c.from_residual-in_err-increment.result c.from_residual-in_err-increment.ensures.1 in
    rw c.in_ok-base.ensures (rw (p.1, p.2) (first_fails _ _ c.in_err-increment.field-0.0 c.in_err-increment.ensures))

pub returns-in_err-factor : goal.returns-in_err-factor
unfolding rule_of
returns-in_err-factor c =
    let p = err_from_is_err_and c.from_residual-in_err-factor.result c.from_residual-in_err-factor.ensures.1 in
    rw (c.in_ok-base.ensures, c.in_ok-increment.ensures) (rw (p.1, p.2) (first_fails _ _ c.in_err-factor.field-0.0 c.in_err-factor.ensures))

pub returns-in_err-multipliers : goal.returns-in_err-multipliers
unfolding rule_of
returns-in_err-multipliers c =
    let p = err_from_is_err_and c.from_residual-in_err-multipliers.result c.from_residual-in_err-multipliers.ensures.1 in
    let failed : Gives (own c.args.jail.now table.bantime_multipliers) (Err c.in_err-multipliers.field-0.0) = c.in_err-multipliers.ensures in
    rw (c.in_ok-base.ensures, c.in_ok-increment.ensures, c.in_ok-factor.ensures) (rw (p.1, p.2) (first_fails _ _ _ failed))

pub returns-in_err-maxtime : goal.returns-in_err-maxtime
unfolding rule_of
returns-in_err-maxtime c =
    let p = err_from_is_err_and c.from_residual-in_err-maxtime.result c.from_residual-in_err-maxtime.ensures.1 in
    let multipliers : own c.args.jail.now table.bantime_multipliers ≡ Ok c.in_ok-multipliers.multipliers = c.in_ok-multipliers.ensures in
    rw (c.in_ok-base.ensures, c.in_ok-increment.ensures, c.in_ok-factor.ensures, multipliers) (rw (p.1, p.2) (first_fails _ _ c.in_err-maxtime.field-0.0 c.in_err-maxtime.ensures))

pub returns-in_err-rndtime : goal.returns-in_err-rndtime
unfolding rule_of
returns-in_err-rndtime c =
    let p = err_from_is_err_and c.from_residual-in_err-rndtime.result c.from_residual-in_err-rndtime.ensures.1 in
    let multipliers : own c.args.jail.now table.bantime_multipliers ≡ Ok c.in_ok-multipliers.multipliers = c.in_ok-multipliers.ensures in
    rw (c.in_ok-base.ensures, c.in_ok-increment.ensures, c.in_ok-factor.ensures, multipliers, c.in_ok-maxtime.ensures) (rw (p.1, p.2) (first_fails _ _ c.in_err-rndtime.field-0.0 c.in_err-rndtime.ensures))

pub returns-in_err-item : goal.returns-in_err-item
unfolding rule_of
returns-in_err-item c =
    let p = err_from_is_err_and c.from_residual-in_err-item.result c.from_residual-in_err-item.ensures.1 in
    let multipliers : own c.args.jail.now table.bantime_multipliers ≡ Ok c.in_ok-multipliers.multipliers = c.in_ok-multipliers.ensures in
    rw (c.in_ok-base.ensures, c.in_ok-increment.ensures, c.in_ok-factor.ensures, multipliers, c.in_ok-maxtime.ensures, c.in_ok-rndtime.ensures) (rw (p.1, p.2) (first_fails_alone _ _ c.in_err-item.field-0.0 c.in_err-item.ensures))

pub returns : goal.returns
unfolding rule_of
returns c =
    let multipliers : own c.args.jail.now table.bantime_multipliers ≡ Ok c.in_ok-multipliers.multipliers = c.in_ok-multipliers.ensures in
    rw (c.in_ok-base.ensures, c.in_ok-increment.ensures, c.in_ok-factor.ensures, multipliers, c.in_ok-maxtime.ensures, c.in_ok-rndtime.ensures, c.in_ok-item.ensures) (let fits : FitsSigned w64 c.in_ok-base.base = search rules in rw to_z-of_z refl)
