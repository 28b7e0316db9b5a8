use Rattle.std.proofs.Common.{◌≡◌, ◌∷◌, None, Some, lit<}
use Rattle.std.proofs.lemmas.Str.Pattern.{strip_prefix_char}
use Rattle.jail_conf.proofs.OptionLemmas.{closed_comma, closed_bracket, closed_none, trimmed_shorter, if_none}
use Rattle.jail_conf.proofs.options.ended.Goals as goal

pub returns-in-Some-clause-some : goal.returns-in-Some-clause-some
returns-in-Some-clause-some c =
    let begins : c.trim_start-text.result.now ≡ 44 ∷ c.in-Some.rest.now = strip_prefix_char 44 c.trim_start-text.result.now (Some c.in-Some.rest) c.in-Some.ensures.cases (lit< tt) in
    closed_comma c.args.text.now c.in-Some.rest.now (rw (← c.trim_start-text.ensures) begins)

pub returns-in-Some-clause-shorter : goal.returns-in-Some-clause-shorter
returns-in-Some-clause-shorter c =
    let begins : c.trim_start-text.result.now ≡ 44 ∷ c.in-Some.rest.now = strip_prefix_char 44 c.trim_start-text.result.now (Some c.in-Some.rest) c.in-Some.ensures.cases (lit< tt) in
    trimmed_shorter c.args.text.now c.in-Some.rest.now 44 (rw (← c.trim_start-text.ensures) begins)

pub returns-in_err-rest-clause-none : goal.returns-in_err-rest-clause-none
returns-in_err-rest-clause-none c =
    let text = c.trim_start-text.result.now in
    let comma = strip_prefix_char 44 text None c.in_default.ensures.cases (lit< tt) in
    let bracket = strip_prefix_char 93 text None c.in_err-rest.ensures.cases (lit< tt) in
    if_none c.from_residual.result (closed_none c.args.text.now (rw (← c.trim_start-text.ensures) comma) (rw (← c.trim_start-text.ensures) bracket))

pub returns-clause-some : goal.returns-clause-some
returns-clause-some c =
    let begins : c.trim_start-text.result.now ≡ 93 ∷ c.in_ok-rest.rest.now = strip_prefix_char 93 c.trim_start-text.result.now (Some c.in_ok-rest.rest) c.in_ok-rest.ensures.cases (lit< tt) in
    closed_bracket c.args.text.now c.in_ok-rest.rest.now (rw (← c.trim_start-text.ensures) begins)

pub returns-clause-shorter : goal.returns-clause-shorter
returns-clause-shorter c =
    let begins : c.trim_start-text.result.now ≡ 93 ∷ c.in_ok-rest.rest.now = strip_prefix_char 93 c.trim_start-text.result.now (Some c.in_ok-rest.rest) c.in_ok-rest.ensures.cases (lit< tt) in
    trimmed_shorter c.args.text.now c.in_ok-rest.rest.now 93 (rw (← c.trim_start-text.ensures) begins)
