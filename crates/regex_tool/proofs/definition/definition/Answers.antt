use Rattle.std.proofs.Common.{sym, subst}
use Rattle.regex_tool.specs.Asks.{shown}
use Rattle.regex_tool.specs.Checks.{IsTestable}
use Rattle.regex_tool.proofs.DefinitionLemmas.{testable_with}
use Rattle.regex_tool.proofs.definition.definition.Goals as goal

pub returns-clause-defined : goal.returns-clause-defined
returns-clause-defined g c = record { base = c.in_ok-jail.jail; is_base = c.in_ok-jail.ensures.base; is = c.in_ok-set_words.ensures.words }

pub returns-clause-testable : goal.returns-clause-testable
returns-clause-testable g c =
    subst IsTestable (sym c.in_ok-set_words.ensures.words) (testable_with (shown c.args.asked.now) c.in_ok-jail.jail c.set_words.ensures.near c.in_ok-jail.ensures.few)
