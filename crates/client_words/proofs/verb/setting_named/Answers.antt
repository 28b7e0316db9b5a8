use Rattle.client_words.specs.Verbs.{settings}
use Rattle.client_words.proofs.TableLemmas.{named_none}
use Rattle.client_words.proofs.verb.setting_named.Goals as goal

pub returns-in_default : goal.returns-in_default
returns-in_default c =
    named_none settings c.args.word.now
    (c.in_default.not-banip, (c.in_default.not-unbanip, (c.in_default.not-attempt, (c.in_default.not-addignoreip, (c.in_default.not-delignoreip, (c.in_default.not-findtime, (c.in_default.not-bantime, (c.in_default.not-maxretry, (c.in_default.not-idle, tt)))))))))
