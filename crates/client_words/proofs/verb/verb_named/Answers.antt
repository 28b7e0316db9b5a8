use Rattle.client_words.specs.Verbs.{verbs}
use Rattle.client_words.proofs.TableLemmas.{named_none}
use Rattle.client_words.proofs.verb.verb_named.Goals as goal

pub returns-in_default : goal.returns-in_default
returns-in_default c =
    named_none verbs c.args.word.now
    (c.in_default.not-ping, (c.in_default.not-version, (c.in_default.not-status, (c.in_default.not-banned, (c.in_default.not-unban, (c.in_default.not-reload, (c.in_default.not-stop, tt)))))))
