use Rattle.std.proofs.Common.{◌++◌, string_bytes, append_assoc, append-nil, ◌∙◌, sym, ap, rules, arith}
use Rattle.std.proofs.lemmas.Iterator.{YieldsList-from_chars}
use Rattle.std.proofs.lemmas.Iterator.Consumers.{YieldsList-turn, YieldsList-end}
use Rattle.std.specs.Str.{chars}
use Rattle.date_words.specs.Directives.{written, expanded}
use Rattle.date_words.proofs.CharLemmas.{written_more, left_none}
use Rattle.date_words.proofs.pattern.expand.Goals as goal

pub loop-c-init : goal.loop-c-init
unfolding expanded
loop-c-init c = rw c.new-written.ensures.bytes (search rules)

pub loop-c-preserved : goal.loop-c-preserved
loop-c-preserved c =
    let turn = YieldsList-turn (YieldsList-from_chars c.args.text.now c.utf8.text cc) c.loop-c.yielded _ c.loop-c.yielded_by _ _ c.in-Some.c c.in-Some.is c.next.ensures.steps in
    rw (c.in_ok-push_piece.ensures, c.opens-after.ensures, append_assoc, ← written_more _ _ _ turn c.loop-c.after) c.loop-c.invariant

pub returns : goal.returns
returns c =
    let end = YieldsList-end (YieldsList-from_chars c.args.text.now c.utf8.text cc) c.loop-c.yielded _ c.loop-c.yielded_by _ _ c.in-None.is c.next.ensures.steps in
    let none = left_none (chars c.args.text.now) c.loop-c.yielded (omega (arith, end.1)) in
    sym (append-nil _)
    ∙ ap (λ rest. string_bytes c.loop-c.written ++ written c.loop-c.after rest) (sym none)
    ∙ c.loop-c.invariant
