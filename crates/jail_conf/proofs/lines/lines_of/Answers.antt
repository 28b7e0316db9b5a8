use Rattle.std.proofs.lemmas.Result.{err_from_is_err_and}
use Rattle.std.proofs.Common.{◌≡◌, ◌+◌, length, Ok, Err, refl, subst}
use Rattle.jail_conf.specs.Jails.{lines_of}
use Rattle.jail_conf.specs.Sources.{own, own_or}
use Rattle.jail_conf.specs.Table as table
use Rattle.jail_conf.specs.Then.{Gives}
use Rattle.jail_conf.proofs.FaultLemmas.{first_fails}
use Rattle.jail_conf.proofs.lines.lines_of.Goals as goal

pub returns-in_err-pref : goal.returns-in_err-pref
unfolding lines_of
returns-in_err-pref c =
    let p = err_from_is_err_and c.from_residual.result c.from_residual.ensures.1 in
    let failed : Gives (own c.args.filter.now table.prefregex) (Err c.in_err-pref.field-0.0) = c.in_err-pref.ensures in
    rw (p.1, p.2) (first_fails _ _ _ failed)

pub returns-in_err-fail : goal.returns-in_err-fail
unfolding lines_of
returns-in_err-fail c =
    let p = err_from_is_err_and c.from_residual-in_err-fail.result c.from_residual-in_err-fail.ensures.1 in
    let pref : own c.args.filter.now table.prefregex ≡ Ok c.in_ok-pref.pref = c.in_ok-pref.ensures in
    let failed : Gives (own_or c.args.jail.now c.args.filter.now (table.failregex c.args.patterns)) (Err c.in_err-fail.field-0.0) = c.in_err-fail.ensures in
    rw pref (rw (p.1, p.2) (first_fails _ _ _ failed))

pub returns-in_err-ignore_lines : goal.returns-in_err-ignore_lines
unfolding lines_of
returns-in_err-ignore_lines c =
    let p = err_from_is_err_and c.from_residual-in_err-ignore_lines.result c.from_residual-in_err-ignore_lines.ensures.1 in
    let pref : own c.args.filter.now table.prefregex ≡ Ok c.in_ok-pref.pref = c.in_ok-pref.ensures in
    let fail : own_or c.args.jail.now c.args.filter.now (table.failregex c.args.patterns) ≡ Ok c.in_ok-fail.fail = c.in_ok-fail.ensures in
    let failed : Gives (own_or c.args.jail.now c.args.filter.now (table.ignoreregex (c.args.patterns + length c.in_ok-fail.fail))) (Err c.in_err-ignore_lines.field-0.0) =
    subst (λ count. Gives (own_or c.args.jail.now c.args.filter.now (table.ignoreregex (c.args.patterns + count))) (Err c.in_err-ignore_lines.field-0.0)) c.len.ensures
    c.in_err-ignore_lines.ensures in
    rw (pref, fail) (rw (p.1, p.2) (first_fails _ _ _ failed))

pub returns : goal.returns
unfolding lines_of
returns c =
    let pref : own c.args.filter.now table.prefregex ≡ Ok c.in_ok-pref.pref = c.in_ok-pref.ensures in
    let fail : own_or c.args.jail.now c.args.filter.now (table.failregex c.args.patterns) ≡ Ok c.in_ok-fail.fail = c.in_ok-fail.ensures in
    let ignored : own_or c.args.jail.now c.args.filter.now (table.ignoreregex (c.args.patterns + length c.in_ok-fail.fail)) ≡ Ok c.in_ok-ignore_lines.ignore_lines =
    subst (λ count. own_or c.args.jail.now c.args.filter.now (table.ignoreregex (c.args.patterns + count)) ≡ Ok c.in_ok-ignore_lines.ignore_lines) c.len.ensures
    c.in_ok-ignore_lines.ensures in
    rw (pref, fail, ignored) refl
