use Rattle.std.proofs.lemmas.Result.{err_from_is_err_and}
use Rattle.std.proofs.Common.{◌≡◌, ◌∙◌, ◌&&◌, not, nat_lt, true, false, Ok, sym, ap}
use Rattle.jail_conf.specs.Conf.{most_jails}
use Rattle.jail_conf.specs.Jails.{is_jail_name}
use Rattle.jail_conf.specs.Sources.{own}
use Rattle.jail_conf.specs.Table as table
use Rattle.jail_conf.proofs.EnabledLemmas.{bad_name, enabled_fails, too_many, is_enabled_is, has_room, needs_no_room}
use Rattle.jail_conf.proofs.configuration.is_enabled.Goals as goal
use Rattle.jail_conf.proofs.configuration.is_enabled.Goals.{else-enabled-via-then-enabled+else-before-ge-MOST_JAILS, else-enabled-via-else-enabled}

pub returns-then-not-is_jail_name : goal.returns-then-not-is_jail_name
returns-then-not-is_jail_name c =
    let bytes : c.as_bytes.result.now ≡ c.args.jail.now.section = c.as_bytes.ensures.value ∙ c.as_str.ensures.value in
    let named : is_jail_name c.args.jail.now.section ≡ false = sym (ap is_jail_name bytes) ∙ (sym c.is_jail_name.ensures ∙ c.if-not-is_jail_name.true) in
    bad_name c.args.jail.now c.args.before c.refused.result named c.refused.ensures

pub returns-in_err-enabled : goal.returns-in_err-enabled
returns-in_err-enabled c =
    let bytes : c.as_bytes.result.now ≡ c.args.jail.now.section = c.as_bytes.ensures.value ∙ c.as_str.ensures.value in
    let named : is_jail_name c.args.jail.now.section ≡ true = sym (ap is_jail_name bytes) ∙ (sym c.is_jail_name.ensures ∙ c.if-not-is_jail_name.false) in
    let p = err_from_is_err_and c.from_residual.result c.from_residual.ensures.1 in
    rw (p.1, p.2) (enabled_fails c.args.jail.now c.args.before c.in_err-enabled.field-0.0 named c.in_err-enabled.ensures)

pub returns-then-before-ge-MOST_JAILS : goal.returns-then-before-ge-MOST_JAILS
returns-then-before-ge-MOST_JAILS c =
    let bytes : c.as_bytes.result.now ≡ c.args.jail.now.section = c.as_bytes.ensures.value ∙ c.as_str.ensures.value in
    let named : is_jail_name c.args.jail.now.section ≡ true = sym (ap is_jail_name bytes) ∙ (sym c.is_jail_name.ensures ∙ c.if-not-is_jail_name.false) in
    let on : own c.args.jail.now table.enabled ≡ Ok true = c.in_ok-enabled.ensures ∙ ap Ok c.if-enabled.true in
    too_many c.args.jail.now c.args.before c.refused-then-before-ge-MOST_JAILS.result named on c.if-before-ge-MOST_JAILS.true c.refused-then-before-ge-MOST_JAILS.ensures

pub returns : goal.returns
returns c =
    let bytes : c.as_bytes.result.now ≡ c.args.jail.now.section = c.as_bytes.ensures.value ∙ c.as_str.ensures.value in
    let named : is_jail_name c.args.jail.now.section ≡ true = sym (ap is_jail_name bytes) ∙ (sym c.is_jail_name.ensures ∙ c.if-not-is_jail_name.false) in
    let room : (c.in_ok-enabled.enabled && not (nat_lt c.args.before most_jails)) ≡ false =
    elim c.else-enabled.branch [
      | else-enabled-via-then-enabled+else-before-ge-MOST_JAILS w ↦ has_room c.in_ok-enabled.enabled c.args.before w.if-before-ge-MOST_JAILS.false
      | else-enabled-via-else-enabled w ↦ needs_no_room c.in_ok-enabled.enabled c.args.before w.if-enabled.false
    ] in
    is_enabled_is c.args.jail.now c.args.before c.in_ok-enabled.enabled named c.in_ok-enabled.ensures room
