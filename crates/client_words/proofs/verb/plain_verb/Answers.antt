use Rattle.std.proofs.Common.{◌≡◌, ◌∙◌, Some, None, sym, ap, arith}
use Rattle.client_words.specs.Verbs.{named_in, verbs}
use Rattle.client_words.proofs.VerbLemmas.{plain_verb-first, plain_verb-some}
use Rattle.client_words.proofs.verb.plain_verb.Goals as goal

pub returns-in-Some : goal.returns-in-Some
returns-in-Some c =
    let found : Some c.in-Some.verb ≡ named_in verbs c.first-item.result =
    sym c.in-Some.is ∙ (c.verb_named.ensures ∙ ap (named_in verbs) c.as_str.ensures.value) in
    plain_verb-some c.args.words.now c.first-item.result c.in-Some.verb c.verb_behind.result (omega arith) c.first-item.is found c.verb_behind.ensures

pub returns-in-None : goal.returns-in-None
returns-in-None c =
    let found : None ≡ named_in verbs c.first-item.result = sym c.in-None.is ∙ (c.verb_named.ensures ∙ ap (named_in verbs) c.as_str.ensures.value) in
    plain_verb-first c.args.words.now c.first-item.result None (omega arith) c.first-item.is found
