use Rattle.std.proofs.Common.{◌&&◌, drop, length, ◌++◌, ◌∷◌, [], ◌∙◌, sym, ap, arith}
use Rattle.std.proofs.lemmas.Iterator.{YieldsList-from_chars}
use Rattle.std.proofs.lemmas.Iterator.Consumers.{YieldsList-turn, YieldsList-end}
use Rattle.std.specs.Str.{chars}
use Rattle.date_words.specs.Directives.{are_known, opens}
use Rattle.date_words.proofs.CharLemmas.{known_more, left_none}
use Rattle.date_words.proofs.pattern.are_known.Goals as goal

pub returns-then-not-is_known : goal.returns-then-not-is_known
returns-then-not-is_known c =
    let turn = YieldsList-turn (YieldsList-from_chars c.args.text.now c.utf8.text cc) c.loop-c.yielded _ c.loop-c.yielded_by _ _ c.in-Some.c c.in-Some.is c.next.ensures.steps in
    let rest = are_known (opens c.loop-c.after c.in-Some.c) (drop (length (c.loop-c.yielded ++ c.in-Some.c ∷ [])) (chars c.args.text.now)) in
    let no = sym c.is_known.ensures ∙ c.if-not-is_known.true in
    sym (ap (λ known. known && rest) no) ∙ sym (known_more _ _ _ turn c.loop-c.after) ∙ c.loop-c.invariant

pub loop-c-preserved : goal.loop-c-preserved
loop-c-preserved c =
    let turn = YieldsList-turn (YieldsList-from_chars c.args.text.now c.utf8.text cc) c.loop-c.yielded _ c.loop-c.yielded_by _ _ c.in-Some.c c.in-Some.is c.next.ensures.steps in
    let left = drop (length (c.loop-c.yielded ++ c.in-Some.c ∷ [])) (chars c.args.text.now) in
    let rest = are_known (opens c.loop-c.after c.in-Some.c) left in
    let known = sym c.is_known.ensures ∙ c.if-not-is_known.false in
    ap (λ after. are_known after left) c.opens-after.ensures
    ∙ sym (ap (λ known. known && rest) known)
    ∙ sym (known_more _ _ _ turn c.loop-c.after)
    ∙ c.loop-c.invariant

pub returns : goal.returns
returns c =
    let end = YieldsList-end (YieldsList-from_chars c.args.text.now c.utf8.text cc) c.loop-c.yielded _ c.loop-c.yielded_by _ _ c.in-None.is c.next.ensures.steps in
    ap (are_known c.loop-c.after) (sym (left_none (chars c.args.text.now) c.loop-c.yielded (omega (arith, end.1)))) ∙ c.loop-c.invariant
