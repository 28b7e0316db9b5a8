use Rattle.std.proofs.lemmas.Result.{err_from_is_err_and}
use Rattle.std.proofs.Common.{◌≡◌, Ok, Err, FitsSigned, w64, to_z-of_z, refl, rules}
use Rattle.jail_conf.specs.Actions.{actions_of}
use Rattle.jail_conf.specs.Jails.{lines_of, ignored_of, counts_of, rule_of, jail_with}
use Rattle.jail_conf.specs.Sources.{bases_of, own, own_or}
use Rattle.jail_conf.specs.Table as table
use Rattle.jail_conf.specs.Then.{Gives}
use Rattle.jail_conf.proofs.FaultLemmas.{first_fails, first_fails_alone}
use Rattle.jail_conf.proofs.jails.jail_with.Goals as goal

pub returns-in_err-watches-clause-defined : goal.returns-in_err-watches-clause-defined
unfolding jail_with
returns-in_err-watches-clause-defined c =
    let p = err_from_is_err_and c.from_residual.result c.from_residual.ensures.1 in
    let failed : Gives (own c.args.jail.now table.logpath) (Err c.in_err-watches.field-0.0) = c.in_err-watches.ensures in
    rw (p.1, p.2) (first_fails _ _ _ failed)

pub returns-in_err-zone-clause-defined : goal.returns-in_err-zone-clause-defined
unfolding jail_with
returns-in_err-zone-clause-defined c =
    let p = err_from_is_err_and c.from_residual-in_err-zone.result c.from_residual-in_err-zone.ensures.1 in
    let watches : own c.args.jail.now table.logpath ≡ Ok c.in_ok-watches.watches = c.in_ok-watches.ensures in
    rw watches (rw (p.1, p.2) (first_fails _ _ c.in_err-zone.field-0.0 c.in_err-zone.ensures))

pub returns-in_err-date-clause-defined : goal.returns-in_err-date-clause-defined
unfolding jail_with
returns-in_err-date-clause-defined c =
    let p = err_from_is_err_and c.from_residual-in_err-date.result c.from_residual-in_err-date.ensures.1 in
    let watches : own c.args.jail.now table.logpath ≡ Ok c.in_ok-watches.watches = c.in_ok-watches.ensures in
    let failed : Gives (own_or c.args.jail.now c.args.filter.now table.datepattern) (Err c.in_err-date.field-0.0) = c.in_err-date.ensures in
    rw (watches, c.in_ok-zone.ensures) (rw (p.1, p.2) (first_fails _ _ _ failed))

pub returns-in_err-lines-clause-defined : goal.returns-in_err-lines-clause-defined
unfolding jail_with
returns-in_err-lines-clause-defined c =
    let p = err_from_is_err_and c.from_residual-in_err-lines.result c.from_residual-in_err-lines.ensures.1 in
    let watches : own c.args.jail.now table.logpath ≡ Ok c.in_ok-watches.watches = c.in_ok-watches.ensures in
    let date : own_or c.args.jail.now c.args.filter.now table.datepattern ≡ Ok c.in_ok-date.date = c.in_ok-date.ensures in
    let failed : Gives (lines_of c.args.jail.now c.args.filter.now c.args.patterns) (Err c.in_err-lines.field-0.0) = c.in_err-lines.ensures in
    rw (watches, c.in_ok-zone.ensures, date) (rw (p.1, p.2) (first_fails _ _ _ failed))

pub returns-in_err-ignore-clause-defined : goal.returns-in_err-ignore-clause-defined
unfolding jail_with
returns-in_err-ignore-clause-defined c =
    let p = err_from_is_err_and c.from_residual-in_err-ignore.result c.from_residual-in_err-ignore.ensures.1 in
    let watches : own c.args.jail.now table.logpath ≡ Ok c.in_ok-watches.watches = c.in_ok-watches.ensures in
    let date : own_or c.args.jail.now c.args.filter.now table.datepattern ≡ Ok c.in_ok-date.date = c.in_ok-date.ensures in
    let lines : lines_of c.args.jail.now c.args.filter.now c.args.patterns ≡ Ok c.in_ok-lines.lines = c.in_ok-lines.ensures in
    let failed : Gives (ignored_of c.args.jail.now) (Err c.in_err-ignore.field-0.0) = c.in_err-ignore.ensures in
    rw (watches, c.in_ok-zone.ensures, date, lines) (rw (p.1, p.2) (first_fails _ _ _ failed))

pub returns-in_err-refuse_unsupported-clause-defined : goal.returns-in_err-refuse_unsupported-clause-defined
unfolding jail_with
returns-in_err-refuse_unsupported-clause-defined c =
    let p = err_from_is_err_and c.from_residual-in_err-refuse_unsupported.result c.from_residual-in_err-refuse_unsupported.ensures.1 in
    let watches : own c.args.jail.now table.logpath ≡ Ok c.in_ok-watches.watches = c.in_ok-watches.ensures in
    let date : own_or c.args.jail.now c.args.filter.now table.datepattern ≡ Ok c.in_ok-date.date = c.in_ok-date.ensures in
    let lines : lines_of c.args.jail.now c.args.filter.now c.args.patterns ≡ Ok c.in_ok-lines.lines = c.in_ok-lines.ensures in
    let ignore : ignored_of c.args.jail.now ≡ Ok c.in_ok-ignore.ignore = c.in_ok-ignore.ensures in
    rw (watches, c.in_ok-zone.ensures, date, lines, ignore) (rw (p.1, p.2) (first_fails_alone _ _ c.in_err-refuse_unsupported.field-0.0 c.in_err-refuse_unsupported.ensures))

pub returns-in_err-counts-clause-defined : goal.returns-in_err-counts-clause-defined
unfolding jail_with
returns-in_err-counts-clause-defined c =
    let p = err_from_is_err_and c.from_residual-in_err-counts.result c.from_residual-in_err-counts.ensures.1 in
    let watches : own c.args.jail.now table.logpath ≡ Ok c.in_ok-watches.watches = c.in_ok-watches.ensures in
    let date : own_or c.args.jail.now c.args.filter.now table.datepattern ≡ Ok c.in_ok-date.date = c.in_ok-date.ensures in
    let lines : lines_of c.args.jail.now c.args.filter.now c.args.patterns ≡ Ok c.in_ok-lines.lines = c.in_ok-lines.ensures in
    let ignore : ignored_of c.args.jail.now ≡ Ok c.in_ok-ignore.ignore = c.in_ok-ignore.ensures in
    let failed : Gives (counts_of c.args.jail.now) (Err c.in_err-counts.field-0.0) = c.in_err-counts.ensures in
    rw (watches, c.in_ok-zone.ensures, date, lines, ignore, c.in_ok-refuse_unsupported.ensures) (rw (p.1, p.2) (first_fails _ _ _ failed))

pub returns-in_err-rule-clause-defined : goal.returns-in_err-rule-clause-defined
unfolding jail_with
returns-in_err-rule-clause-defined c =
    let p = err_from_is_err_and c.from_residual-in_err-rule.result c.from_residual-in_err-rule.ensures.1 in
    let watches : own c.args.jail.now table.logpath ≡ Ok c.in_ok-watches.watches = c.in_ok-watches.ensures in
    let date : own_or c.args.jail.now c.args.filter.now table.datepattern ≡ Ok c.in_ok-date.date = c.in_ok-date.ensures in
    let lines : lines_of c.args.jail.now c.args.filter.now c.args.patterns ≡ Ok c.in_ok-lines.lines = c.in_ok-lines.ensures in
    let ignore : ignored_of c.args.jail.now ≡ Ok c.in_ok-ignore.ignore = c.in_ok-ignore.ensures in
    let counts : counts_of c.args.jail.now ≡ Ok c.in_ok-counts.counts = c.in_ok-counts.ensures in
    let failed : Gives (rule_of c.args.jail.now) (Err c.in_err-rule.field-0.0) = c.in_err-rule.ensures in
    rw (watches, c.in_ok-zone.ensures, date, lines, ignore, c.in_ok-refuse_unsupported.ensures, counts) (rw (p.1, p.2) (first_fails _ _ _ failed))

pub returns-in_err-actions-clause-defined : goal.returns-in_err-actions-clause-defined
unfolding jail_with
returns-in_err-actions-clause-defined c =
    let p = err_from_is_err_and c.from_residual-in_err-actions.result c.from_residual-in_err-actions.ensures.1 in
    let watches : own c.args.jail.now table.logpath ≡ Ok c.in_ok-watches.watches = c.in_ok-watches.ensures in
    let date : own_or c.args.jail.now c.args.filter.now table.datepattern ≡ Ok c.in_ok-date.date = c.in_ok-date.ensures in
    let lines : lines_of c.args.jail.now c.args.filter.now c.args.patterns ≡ Ok c.in_ok-lines.lines = c.in_ok-lines.ensures in
    let ignore : ignored_of c.args.jail.now ≡ Ok c.in_ok-ignore.ignore = c.in_ok-ignore.ensures in
    let counts : counts_of c.args.jail.now ≡ Ok c.in_ok-counts.counts = c.in_ok-counts.ensures in
    let rule : rule_of c.args.jail.now ≡ Ok c.in_ok-rule.rule = c.in_ok-rule.ensures in
    let failed : Gives (actions_of (bases_of c.args.bases.now) c.args.jail.now) (Err c.in_err-actions.field-0.0) = c.in_err-actions.ensures.defined in
    rw (watches, c.in_ok-zone.ensures, date, lines, ignore, c.in_ok-refuse_unsupported.ensures, counts, rule) (rw (p.1, p.2) (first_fails _ _ _ failed))

pub returns-clause-defined : goal.returns-clause-defined
unfolding jail_with
returns-clause-defined c =
    let watches : own c.args.jail.now table.logpath ≡ Ok c.in_ok-watches.watches = c.in_ok-watches.ensures in
    let date : own_or c.args.jail.now c.args.filter.now table.datepattern ≡ Ok c.in_ok-date.date = c.in_ok-date.ensures in
    let lines : lines_of c.args.jail.now c.args.filter.now c.args.patterns ≡ Ok c.in_ok-lines.lines = c.in_ok-lines.ensures in
    let ignore : ignored_of c.args.jail.now ≡ Ok c.in_ok-ignore.ignore = c.in_ok-ignore.ensures in
    let counts : counts_of c.args.jail.now ≡ Ok c.in_ok-counts.counts = c.in_ok-counts.ensures in
    let rule : rule_of c.args.jail.now ≡ Ok c.in_ok-rule.rule = c.in_ok-rule.ensures in
    let actions : actions_of (bases_of c.args.bases.now) c.args.jail.now ≡ Ok c.in_ok-actions.actions = c.in_ok-actions.ensures.defined in
    rw (watches, c.in_ok-zone.ensures, date, lines, ignore, c.in_ok-refuse_unsupported.ensures, counts, rule, actions)
    (let fits : FitsSigned w64 c.in_ok-zone.zone = search rules in rw (to_z-of_z, c.in_ok-copy.ensures) refl)
