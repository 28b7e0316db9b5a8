use Rattle.std.proofs.Common.{◌≡◌, ◌∙◌, Some, None, sym, ap, arith}
use Rattle.client_words.specs.Verbs.{items, named_in}
use Rattle.client_words.proofs.VerbLemmas.{get_verb-some, get_verb-third}
use Rattle.client_words.proofs.verb.get_verb.Goals as goal

pub returns-in-Some : goal.returns-in-Some
returns-in-Some c =
    let found : Some c.in-Some.item ≡ named_in items c.word-item.result =
    sym c.in-Some.is ∙ (c.item_named.ensures ∙ ap (named_in items) c.as_str.ensures.value) in
    get_verb-some c.args.words.now c.word-item.result c.in-Some.item c.item_behind.result (omega arith) c.word-item.is found c.item_behind.ensures

pub returns-in-None : goal.returns-in-None
returns-in-None c =
    let found : None ≡ named_in items c.word-item.result = sym c.in-None.is ∙ (c.item_named.ensures ∙ ap (named_in items) c.as_str.ensures.value) in
    get_verb-third c.args.words.now c.word-item.result None (omega arith) c.word-item.is found
