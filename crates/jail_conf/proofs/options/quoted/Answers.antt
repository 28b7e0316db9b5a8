use Rattle.jail_conf.proofs.OptionLemmas.{quote_is_open, quoted_none, quoted_some, quoted_shorter, if_none}
use Rattle.jail_conf.proofs.options.quoted.Goals as goal

pub returns-in_err-value-clause-none : goal.returns-in_err-value-clause-none
returns-in_err-value-clause-none c = if_none c.from_residual.result (quote_is_open c.args.quote.now c.args.text.now c.requires.one c.in_err-value.ensures.none)

pub returns-clause-none : goal.returns-clause-none
returns-clause-none c =
    let cut = c.in_ok-value in
    quoted_none c.args.quote.now cut.field-0-1 c.args.text.now cut.value.now cut.rest.now c.ended.result c.requires.one cut.ensures.whole cut.ensures.before cut.ensures.divider
    c.ended.ensures.none

pub returns-clause-some : goal.returns-clause-some
returns-clause-some c =
    let cut = c.in_ok-value in
    quoted_some c.args.quote.now cut.field-0-1 c.args.text.now cut.value.now cut.rest.now c.ended.result c.requires.one cut.ensures.whole cut.ensures.before cut.ensures.divider
    c.ended.ensures.value c.ended.ensures.some

pub returns-clause-shorter : goal.returns-clause-shorter
returns-clause-shorter c =
    let cut = c.in_ok-value in
    quoted_shorter cut.field-0-1 c.args.text.now cut.value.now cut.rest.now c.ended.result cut.ensures.whole c.ended.ensures.shorter
