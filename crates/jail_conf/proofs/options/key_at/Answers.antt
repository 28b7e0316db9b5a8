use Rattle.std.proofs.Common.{sym, ◌∙◌}
use Rattle.jail_conf.proofs.OptionLemmas.{key_alone, key_stops_at, key_is_empty, key_is_read, if_none}
use Rattle.jail_conf.proofs.options.key_at.Goals as goal

pub returns-in_err-key-clause-none : goal.returns-in_err-key-clause-none
returns-in_err-key-clause-none c = if_none c.from_residual.result (key_alone c.args.text.now c.in_err-key.ensures.none)

pub returns-then-divider-ne61-clause-none : goal.returns-then-divider-ne61-clause-none
returns-then-divider-ne61-clause-none c =
    let cut = c.in_ok-key in
    key_stops_at c.args.text.now cut.key.now cut.rest.now cut.divider cut.ensures.whole cut.ensures.before cut.ensures.divider c.if-divider-ne61.true

pub returns-then-is_empty-clause-none : goal.returns-then-is_empty-clause-none
returns-then-is_empty-clause-none c =
    let cut = c.in_ok-key in
    key_is_empty c.args.text.now cut.key.now cut.rest.now c.trim-key.result.now cut.divider cut.ensures.whole c.if-divider-ne61.false cut.ensures.before c.trim-key.ensures
    (sym c.is_empty.ensures ∙ c.if-is_empty.true)

pub returns-clause-some : goal.returns-clause-some
returns-clause-some c =
    let cut = c.in_ok-key in
    key_is_read c.args.text.now cut.key.now cut.rest.now c.trim-key.result.now cut.divider cut.ensures.whole c.if-divider-ne61.false cut.ensures.before c.trim-key.ensures
    (sym c.is_empty.ensures ∙ c.if-is_empty.false)
