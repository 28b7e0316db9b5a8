use Rattle.std.proofs.Common.{◌≡◌, ◌∙◌, true, false, Some, None, sym, ap, arith}
use Rattle.client_words.specs.Verbs.{named_in, settings}
use Rattle.client_words.proofs.VerbLemmas.{set_verb-some, set_verb-third}
use Rattle.client_words.proofs.verb.set_verb.Goals as goal

pub returns-in-None : goal.returns-in-None
returns-in-None c =
    let named : None ≡ named_in settings c.word-item.result =
    sym c.in-None.is ∙ (c.setting_named.ensures ∙ ap (named_in settings) c.as_str.ensures.value) in
    set_verb-third c.args.words.now c.word-item.result None (omega arith) c.word-item.is named

pub returns-in-Some : goal.returns-in-Some
returns-in-Some c =
    let named : Some c.in-Some.setting ≡ named_in settings c.word-item.result =
    sym c.in-Some.is ∙ (c.setting_named.ensures ∙ ap (named_in settings) c.as_str.ensures.value) in
    set_verb-some c.args.words.now c.word-item.result c.in-Some.setting true (omega arith) c.word-item.is named
    (sym c.if-has_unknown_switch.true ∙ c.has_unknown_switch.ensures)

pub returns-in-Some-2 : goal.returns-in-Some-2
returns-in-Some-2 c =
    let named : Some c.in-Some.setting ≡ named_in settings c.word-item.result =
    sym c.in-Some.is ∙ (c.setting_named.ensures ∙ ap (named_in settings) c.as_str.ensures.value) in
    set_verb-some c.args.words.now c.word-item.result c.in-Some.setting false (omega arith) c.word-item.is named
    (sym c.if-has_unknown_switch.false ∙ c.has_unknown_switch.ensures)
