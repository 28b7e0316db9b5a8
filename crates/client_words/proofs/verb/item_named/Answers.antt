use Rattle.client_words.specs.Verbs.{items}
use Rattle.client_words.proofs.TableLemmas.{named_none}
use Rattle.client_words.proofs.verb.item_named.Goals as goal

pub returns-in_default : goal.returns-in_default
returns-in_default c =
    named_none items c.args.word.now
    (c.in_default.not-banip, (c.in_default.not-findtime, (c.in_default.not-bantime, (c.in_default.not-maxretry, (c.in_default.not-ignoreip, (c.in_default.not-logpath, (c.in_default.not-failregex, (c.in_default.not-ignoreregex, (c.in_default.not-datepattern, (c.in_default.not-maxmatches, (c.in_default.not-text, (c.in_default.not-actions, tt))))))))))))
