use Rattle.std.proofs.Common.{◌∙◌, arith}
use Rattle.client_words.proofs.VerbLemmas.{verb_of-other}
use Rattle.client_words.proofs.verb.verb_of.Goals as goal

pub returns-in_default-as_str : goal.returns-in_default-as_str
returns-in_default-as_str c =
    c.plain_verb.ensures
    ∙ verb_of-other c.args.words.now c.first-item.result (omega arith) c.first-item.is (λ same. c.in_default-as_str.not-set (c.as_str.ensures.value ∙ same))
    (λ same. c.in_default-as_str.not-get (c.as_str.ensures.value ∙ same))
