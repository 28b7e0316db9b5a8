use Rattle.client_words.specs.Verbs.{switches}
use Rattle.client_words.proofs.TableLemmas.{named_none}
use Rattle.client_words.proofs.verb.switch_named.Goals as goal

pub returns-in_default : goal.returns-in_default
returns-in_default c =
    named_none switches c.args.word.now
    (c.in_default.not-on, (c.in_default.not-off, tt))
