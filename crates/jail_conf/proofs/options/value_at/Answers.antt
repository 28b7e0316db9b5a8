use Rattle.std.proofs.Common.{None, Some, lit<, refl}
use Rattle.std.proofs.lemmas.Str.Pattern.{strip_prefix_char}
use Rattle.jail_conf.proofs.OptionLemmas.{quote_none, quote_some, quote_shorter, begins_plain_at, plain_none, plain_some, plain_shorter}
use Rattle.jail_conf.proofs.options.value_at.Goals as goal

pub returns-in-Some-clause-none : goal.returns-in-Some-clause-none
returns-in-Some-clause-none c =
    let begins = strip_prefix_char 34 c.trim_start-text.result.now (Some c.in-Some.rest) c.in-Some.ensures.cases (lit< tt) in
    quote_none 34 c.args.text.now c.in-Some.rest.now c.quoted.result refl (rw (← c.trim_start-text.ensures) begins) c.quoted.ensures.none

pub returns-in-Some-clause-some : goal.returns-in-Some-clause-some
returns-in-Some-clause-some c =
    let begins = strip_prefix_char 34 c.trim_start-text.result.now (Some c.in-Some.rest) c.in-Some.ensures.cases (lit< tt) in
    quote_some 34 c.args.text.now c.in-Some.rest.now c.quoted.result refl (rw (← c.trim_start-text.ensures) begins) c.quoted.ensures.some

pub returns-in-Some-clause-shorter : goal.returns-in-Some-clause-shorter
returns-in-Some-clause-shorter c =
    let begins = strip_prefix_char 34 c.trim_start-text.result.now (Some c.in-Some.rest) c.in-Some.ensures.cases (lit< tt) in
    quote_shorter 34 c.args.text.now c.in-Some.rest.now c.quoted.result (rw (← c.trim_start-text.ensures) begins) c.quoted.ensures.shorter

pub returns-in-Some-strip_prefix-clause-none : goal.returns-in-Some-strip_prefix-clause-none
returns-in-Some-strip_prefix-clause-none c =
    let rest = c.in-Some-strip_prefix.rest in
    let begins = strip_prefix_char 39 c.trim_start-text.result.now (Some rest) c.in-Some-strip_prefix.ensures.cases (lit< tt) in
    quote_none 39 c.args.text.now rest.now c.quoted-in-Some-strip_prefix.result refl (rw (← c.trim_start-text.ensures) begins) c.quoted-in-Some-strip_prefix.ensures.none

pub returns-in-Some-strip_prefix-clause-some : goal.returns-in-Some-strip_prefix-clause-some
returns-in-Some-strip_prefix-clause-some c =
    let rest = c.in-Some-strip_prefix.rest in
    let begins = strip_prefix_char 39 c.trim_start-text.result.now (Some rest) c.in-Some-strip_prefix.ensures.cases (lit< tt) in
    quote_some 39 c.args.text.now rest.now c.quoted-in-Some-strip_prefix.result refl (rw (← c.trim_start-text.ensures) begins) c.quoted-in-Some-strip_prefix.ensures.some

pub returns-in-Some-strip_prefix-clause-shorter : goal.returns-in-Some-strip_prefix-clause-shorter
returns-in-Some-strip_prefix-clause-shorter c =
    let rest = c.in-Some-strip_prefix.rest in
    let begins = strip_prefix_char 39 c.trim_start-text.result.now (Some rest) c.in-Some-strip_prefix.ensures.cases (lit< tt) in
    quote_shorter 39 c.args.text.now rest.now c.quoted-in-Some-strip_prefix.result (rw (← c.trim_start-text.ensures) begins) c.quoted-in-Some-strip_prefix.ensures.shorter

pub plain-requires : goal.plain-requires
plain-requires c =
    let start = c.trim_start-text.result.now in
    begins_plain_at c.args.text.now start c.trim_start-text.ensures
    (strip_prefix_char 34 start None c.in_default.ensures.cases (lit< tt)) (strip_prefix_char 39 start None c.in_default-strip_prefix.ensures.cases (lit< tt))

pub returns-clause-none : goal.returns-clause-none
returns-clause-none c = plain_none c.args.text.now c.trim_start-text.result.now c.plain.result c.trim_start-text.ensures c.plain.ensures.none

pub returns-clause-some : goal.returns-clause-some
returns-clause-some c = plain_some c.args.text.now c.trim_start-text.result.now c.plain.result c.trim_start-text.ensures c.plain.ensures.some

pub returns-clause-shorter : goal.returns-clause-shorter
returns-clause-shorter c = plain_shorter c.args.text.now c.trim_start-text.result.now c.plain.result c.trim_start-text.ensures c.plain.ensures.shorter
