use Rattle.std.proofs.lemmas.Result.{err_from_is_err_and}
use Rattle.std.proofs.Common.{◌≡◌, Ok, Err, refl, subst, codes}
use Rattle.jail_conf.specs.Items.{item}
use Rattle.jail_conf.specs.Jails.{counts_of}
use Rattle.jail_conf.specs.Numbers.{number_between}
use Rattle.jail_conf.specs.Sources.{own}
use Rattle.jail_conf.specs.Table as table
use Rattle.jail_conf.specs.Then.{Gives}
use Rattle.jail_conf.proofs.FaultLemmas.{first_fails}
use Rattle.jail_conf.proofs.counts.counts_of.Goals as goal

pub returns-in_err-findtime : goal.returns-in_err-findtime
unfolding counts_of
returns-in_err-findtime c =
    let p = err_from_is_err_and c.from_residual.result c.from_residual.ensures.1 in
    rw (p.1, p.2) (first_fails _ _ c.in_err-findtime.field-0.0 c.in_err-findtime.ensures)

pub returns-in_err-maxretry : goal.returns-in_err-maxretry
unfolding counts_of
returns-in_err-maxretry c =
    let p = err_from_is_err_and c.from_residual-in_err-maxretry.result c.from_residual-in_err-maxretry.ensures.1 in
    rw c.in_ok-findtime.ensures (rw (p.1, p.2) (first_fails _ _ c.in_err-maxretry.field-0.0 c.in_err-maxretry.ensures))

pub returns-in_err-maxmatches : goal.returns-in_err-maxmatches
unfolding counts_of
returns-in_err-maxmatches c =
    let p = err_from_is_err_and c.from_residual-in_err-maxmatches.result c.from_residual-in_err-maxmatches.ensures.1 in
    let failed : Gives (own c.args.jail.now (table.maxmatches c.in_ok-maxretry.maxretry)) (Err c.in_err-maxmatches.field-0.0) =
    subst (λ least. Gives (own c.args.jail.now (item (codes "maxmatches") (number_between 0 1_000) least)) (Err c.in_err-maxmatches.field-0.0)) c.min.ensures c.in_err-maxmatches.ensures in
    rw (c.in_ok-findtime.ensures, c.in_ok-maxretry.ensures) (rw (p.1, p.2) (first_fails _ _ _ failed))

pub returns : goal.returns
unfolding counts_of
returns c =
    let kept : own c.args.jail.now (table.maxmatches c.in_ok-maxretry.maxretry) ≡ Ok c.in_ok-maxmatches.maxmatches =
    subst (λ least. own c.args.jail.now (item (codes "maxmatches") (number_between 0 1_000) least) ≡ Ok c.in_ok-maxmatches.maxmatches) c.min.ensures c.in_ok-maxmatches.ensures in
    rw (c.in_ok-findtime.ensures, c.in_ok-maxretry.ensures, kept) refl
