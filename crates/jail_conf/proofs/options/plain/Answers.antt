use Rattle.std.proofs.Common.{◌≢◌, refl, arith}
use Rattle.jail_conf.proofs.OptionLemmas.{plain_alone, plain_is_read, plain_stops_at, if_none}
use Rattle.jail_conf.proofs.options.plain.Goals as goal

pub returns-in_err-value-clause-none : goal.returns-in_err-value-clause-none
returns-in_err-value-clause-none c = if_none c.from_residual.result (λ key. plain_alone key c.args.text.now c.requires c.in_err-value.ensures.none)

pub returns-in-44-clause-some : goal.returns-in-44-clause-some
returns-in-44-clause-some c = λ key.
    let cut = c.in_ok-value in
    plain_is_read c.args.text.now key cut.value.now cut.rest.now c.trim.result.now cut.end 44 cut.ensures.whole c.in-44.is c.requires cut.ensures.before refl c.trim.ensures

pub returns-in-93-clause-some : goal.returns-in-93-clause-some
returns-in-93-clause-some c = λ key.
    let cut = c.in_ok-value in
    plain_is_read c.args.text.now key cut.value.now cut.rest.now c.trim-in-93.result.now cut.end 93 cut.ensures.whole c.in-93.is c.requires cut.ensures.before refl c.trim-in-93.ensures

pub returns-in_default-clause-none : goal.returns-in_default-clause-none
returns-in_default-clause-none c =
    let cut = c.in_ok-value in
    let comma : cut.end ≢ 44 = λ is. omega arith in
    let bracket : cut.end ≢ 93 = λ is. omega arith in
    plain_stops_at c.args.text.now cut.value.now cut.rest.now cut.end cut.ensures.whole c.requires cut.ensures.before cut.ensures.divider comma bracket
