use Rattle.std.proofs.Common.{rules}
use Rattle.std.proofs.lemmas.Result.{err_from_is_err_and}
use Rattle.jail_conf.specs.Jails.{unsupported_in}
use Rattle.jail_conf.proofs.FaultLemmas.{first_fails_alone}
use Rattle.jail_conf.proofs.unsupported.refuse_unsupported.Goals as goal

pub returns-in_err-item-3 : goal.returns-in_err-item-3
unfolding unsupported_in
returns-in_err-item-3 c = rw (c.in_ok-item.ensures, c.in_ok-item-2.ensures) (search rules)

pub returns-in_err-item-4 : goal.returns-in_err-item-4
unfolding unsupported_in
returns-in_err-item-4 c = rw (c.in_ok-item.ensures, c.in_ok-item-2.ensures, c.in_ok-item-3.ensures) (search rules)

pub returns-in_err-item-5 : goal.returns-in_err-item-5
unfolding unsupported_in
returns-in_err-item-5 c = rw (c.in_ok-item.ensures, c.in_ok-item-2.ensures, c.in_ok-item-3.ensures, c.in_ok-item-4.ensures) (search rules)

pub returns-in_err-item-6 : goal.returns-in_err-item-6
unfolding unsupported_in
returns-in_err-item-6 c = rw (c.in_ok-item.ensures, c.in_ok-item-2.ensures, c.in_ok-item-3.ensures, c.in_ok-item-4.ensures, c.in_ok-item-5.ensures) (search rules)

pub returns-in_err-item-7 : goal.returns-in_err-item-7
unfolding unsupported_in
returns-in_err-item-7 c =
    let p = err_from_is_err_and c.from_residual-in_err-item-7.result c.from_residual-in_err-item-7.ensures.1 in
    rw (c.in_ok-item.ensures, c.in_ok-item-2.ensures, c.in_ok-item-3.ensures, c.in_ok-item-4.ensures, c.in_ok-item-5.ensures, c.in_ok-item-6.ensures)
    (rw (p.1, p.2) (first_fails_alone _ _ c.in_err-item-7.field-0.0 c.in_err-item-7.ensures))

pub returns-in_err-item : goal.returns-in_err-item
unfolding unsupported_in
returns-in_err-item c = search rules

pub returns-in_err-item-2 : goal.returns-in_err-item-2
unfolding unsupported_in
returns-in_err-item-2 c = search rules

pub returns : goal.returns
unfolding unsupported_in
returns c = rw (c.in_ok-item.ensures, c.in_ok-item-2.ensures, c.in_ok-item-3.ensures, c.in_ok-item-4.ensures, c.in_ok-item-5.ensures, c.in_ok-item-6.ensures, c.in_ok-item-7.ensures) c.item-8.ensures
