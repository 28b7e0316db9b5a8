use Rattle.std.proofs.Common.{◌≡◌, ◌∙◌, ap, sym, arith}
use Rattle.regex_tool.specs.Counts.{raised_by}
use Rattle.regex_tool.proofs.RaisedLemmas.{raised_inside, raised_outside}
use Rattle.regex_tool.proofs.decided.Decided.raise_by.Goals as goal

pub returns-in_ok-self-inside : goal.returns-in_ok-self-inside
returns-in_ok-self-inside c =
    raised_inside c.args.number c.in-Some.number c.self.inside.counts.items _ _ c.in-Some.is c.if-number-eq0.false (omega (arith, c.if-place-len.true, c.len.ensures)) c.index.ensures c.in_ok-self-inside.ensures
    ∙ ap (raised_by c.args.number) c.self.view_is

pub returns-else-place-len : goal.returns-else-place-len
returns-else-place-len c =
    sym (ap (raised_by c.args.number) (sym c.self.view_is) ∙ (raised_outside c.args.number c.in-Some.number c.self.inside.counts.items c.in-Some.is c.if-number-eq0.false (omega (arith, c.if-place-len.false, c.len.ensures)) ∙ c.self.view_is))
