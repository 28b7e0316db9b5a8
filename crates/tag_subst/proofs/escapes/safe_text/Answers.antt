use Rattle.std.proofs.Common.{rules, tests}
use Rattle.std.proofs.lemmas.Iterator.{YieldsList-from_chars, YieldsList-from_map, text_from_collect}
use Rattle.f2b_model.specs.Escapes.{safe_character}
use Rattle.tag_subst.proofs.escapes.safe_text.Goals as goal

pub returns : goal.returns
returns c =
    text_from_collect _ c.collect.ensures.ran
    (YieldsList-from_map _ safe_character (YieldsList-from_chars c.args.text.now c.utf8.text cc) c.map.ensures.closure (λ x r q k. search (rules, tests)))
