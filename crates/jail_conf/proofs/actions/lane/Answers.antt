use Rattle.std.proofs.lemmas.Result.{err_from_is_err_and}
use Rattle.std.proofs.Common.{◌≡◌, Ok, Err, codes, refl}
use Rattle.jail_conf.specs.Actions.{lane}
use Rattle.jail_conf.specs.Sources.{own}
use Rattle.jail_conf.specs.Table as table
use Rattle.jail_conf.specs.Then.{Gives}
use Rattle.jail_conf.proofs.FaultLemmas.{first_fails}
use Rattle.jail_conf.proofs.actions.lane.Goals as goal

pub returns-in_err-start : goal.returns-in_err-start
unfolding lane
returns-in_err-start c =
    let p = err_from_is_err_and c.from_residual.result c.from_residual.ensures.1 in
    let failed : Gives (own c.args.source.now (table.command (codes "actionstart"))) (Err c.in_err-start.field-0.0) = c.in_err-start.ensures in
    rw (p.1, p.2) (first_fails _ _ _ failed)

pub returns-in_err-stop : goal.returns-in_err-stop
unfolding lane
returns-in_err-stop c =
    let p = err_from_is_err_and c.from_residual-in_err-stop.result c.from_residual-in_err-stop.ensures.1 in
    let start : own c.args.source.now (table.command (codes "actionstart")) ≡ Ok c.in_ok-start.start = c.in_ok-start.ensures in
    let failed : Gives (own c.args.source.now (table.command (codes "actionstop"))) (Err c.in_err-stop.field-0.0) = c.in_err-stop.ensures in
    rw start (rw (p.1, p.2) (first_fails _ _ _ failed))

pub returns-in_err-ban : goal.returns-in_err-ban
unfolding lane
returns-in_err-ban c =
    let p = err_from_is_err_and c.from_residual-in_err-ban.result c.from_residual-in_err-ban.ensures.1 in
    let start : own c.args.source.now (table.command (codes "actionstart")) ≡ Ok c.in_ok-start.start = c.in_ok-start.ensures in
    let stop : own c.args.source.now (table.command (codes "actionstop")) ≡ Ok c.in_ok-stop.stop = c.in_ok-stop.ensures in
    let failed : Gives (own c.args.source.now (table.command (codes "actionban"))) (Err c.in_err-ban.field-0.0) = c.in_err-ban.ensures in
    rw (start, stop) (rw (p.1, p.2) (first_fails _ _ _ failed))

pub returns-in_err-unban : goal.returns-in_err-unban
unfolding lane
returns-in_err-unban c =
    let p = err_from_is_err_and c.from_residual-in_err-unban.result c.from_residual-in_err-unban.ensures.1 in
    let start : own c.args.source.now (table.command (codes "actionstart")) ≡ Ok c.in_ok-start.start = c.in_ok-start.ensures in
    let stop : own c.args.source.now (table.command (codes "actionstop")) ≡ Ok c.in_ok-stop.stop = c.in_ok-stop.ensures in
    let ban : own c.args.source.now (table.command (codes "actionban")) ≡ Ok c.in_ok-ban.ban = c.in_ok-ban.ensures in
    let failed : Gives (own c.args.source.now (table.command (codes "actionunban"))) (Err c.in_err-unban.field-0.0) = c.in_err-unban.ensures in
    rw (start, stop, ban) (rw (p.1, p.2) (first_fails _ _ _ failed))

pub returns-in_err-check : goal.returns-in_err-check
unfolding lane
returns-in_err-check c =
    let p = err_from_is_err_and c.from_residual-in_err-check.result c.from_residual-in_err-check.ensures.1 in
    let start : own c.args.source.now (table.command (codes "actionstart")) ≡ Ok c.in_ok-start.start = c.in_ok-start.ensures in
    let stop : own c.args.source.now (table.command (codes "actionstop")) ≡ Ok c.in_ok-stop.stop = c.in_ok-stop.ensures in
    let ban : own c.args.source.now (table.command (codes "actionban")) ≡ Ok c.in_ok-ban.ban = c.in_ok-ban.ensures in
    let unban : own c.args.source.now (table.command (codes "actionunban")) ≡ Ok c.in_ok-unban.unban = c.in_ok-unban.ensures in
    let failed : Gives (own c.args.source.now (table.command (codes "actioncheck"))) (Err c.in_err-check.field-0.0) = c.in_err-check.ensures in
    rw (start, stop, ban, unban) (rw (p.1, p.2) (first_fails _ _ _ failed))

pub returns-in_err-timeout : goal.returns-in_err-timeout
unfolding lane
returns-in_err-timeout c =
    let p = err_from_is_err_and c.from_residual-in_err-timeout.result c.from_residual-in_err-timeout.ensures.1 in
    let start : own c.args.source.now (table.command (codes "actionstart")) ≡ Ok c.in_ok-start.start = c.in_ok-start.ensures in
    let stop : own c.args.source.now (table.command (codes "actionstop")) ≡ Ok c.in_ok-stop.stop = c.in_ok-stop.ensures in
    let ban : own c.args.source.now (table.command (codes "actionban")) ≡ Ok c.in_ok-ban.ban = c.in_ok-ban.ensures in
    let unban : own c.args.source.now (table.command (codes "actionunban")) ≡ Ok c.in_ok-unban.unban = c.in_ok-unban.ensures in
    let check : own c.args.source.now (table.command (codes "actioncheck")) ≡ Ok c.in_ok-check.check = c.in_ok-check.ensures in
    rw (start, stop, ban, unban, check) (rw (p.1, p.2) (first_fails _ _ c.in_err-timeout.field-0.0 c.in_err-timeout.ensures))

pub returns : goal.returns
unfolding lane
returns c =
    let start : own c.args.source.now (table.command (codes "actionstart")) ≡ Ok c.in_ok-start.start = c.in_ok-start.ensures in
    let stop : own c.args.source.now (table.command (codes "actionstop")) ≡ Ok c.in_ok-stop.stop = c.in_ok-stop.ensures in
    let ban : own c.args.source.now (table.command (codes "actionban")) ≡ Ok c.in_ok-ban.ban = c.in_ok-ban.ensures in
    let unban : own c.args.source.now (table.command (codes "actionunban")) ≡ Ok c.in_ok-unban.unban = c.in_ok-unban.ensures in
    let check : own c.args.source.now (table.command (codes "actioncheck")) ≡ Ok c.in_ok-check.check = c.in_ok-check.ensures in
    rw (start, stop, ban, unban, check, c.in_ok-timeout.ensures) (rw c.in_ok-from_str.ensures refl)
