use Rattle.std.proofs.Common.{◌≡◌, ◌∙◌, Ok, Err, ap, sym}
use Rattle.std.proofs.lemmas.Result.{err_from_is_err_and}
use Rattle.jail_conf.specs.Jails.{ignored_of}
use Rattle.jail_conf.specs.Sources.{own}
use Rattle.jail_conf.specs.Table as table
use Rattle.jail_conf.specs.Then.{Gives}
use Rattle.jail_conf.proofs.FaultLemmas.{first_fails}
use Rattle.jail_conf.proofs.ignored.ignored_of.Goals as goal

pub returns-in_err-own : goal.returns-in_err-own
unfolding ignored_of
returns-in_err-own c =
    let p = err_from_is_err_and c.from_residual.result c.from_residual.ensures.1 in
    rw (p.1, p.2) (first_fails _ _ c.in_err-own.field-0.0 c.in_err-own.ensures)

pub returns-in_err-listed : goal.returns-in_err-listed
unfolding ignored_of
returns-in_err-listed c =
    let p = err_from_is_err_and c.from_residual-in_err-listed.result c.from_residual-in_err-listed.ensures.1 in
    let failed : Gives (own c.args.jail.now table.ignoreip) (Err c.in_err-listed.field-0.0) = c.in_err-listed.ensures in
    rw c.in_ok-own.ensures (rw (p.1, p.2) (first_fails _ _ _ failed))

pub returns-in_err-addresses : goal.returns-in_err-addresses
unfolding ignored_of
returns-in_err-addresses c =
    let p = err_from_is_err_and c.from_residual-in_err-addresses.result c.from_residual-in_err-addresses.ensures.1 in
    let listed : own c.args.jail.now table.ignoreip ≡ Ok c.in_ok-listed.listed = c.in_ok-listed.ensures in
    let failed : Gives (own c.args.jail.now table.selfaddresses) (Err c.in_err-addresses.field-0.0) = c.in_err-addresses.ensures in
    rw (c.in_ok-own.ensures, listed) (rw (p.1, p.2) (first_fails _ _ _ failed))

pub returns : goal.returns
unfolding ignored_of
returns c =
    let listed : own c.args.jail.now table.ignoreip ≡ Ok c.in_ok-listed.listed = c.in_ok-listed.ensures in
    let addresses : own c.args.jail.now table.selfaddresses ≡ Ok c.in_ok-addresses.addresses = c.in_ok-addresses.ensures in
    rw (c.in_ok-own.ensures, listed, addresses) (sym (ap Ok c.in_ok-all.ensures ∙ cc))
