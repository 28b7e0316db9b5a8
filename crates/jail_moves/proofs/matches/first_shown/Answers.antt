use Rattle.std.proofs.Common.{◌≡◌, ◌+◌, ◌-◌, ◌<◌, length, None, sym, subst, arith, rules}
use Rattle.jail_moves.specs.Shown.{left_after}
use Rattle.jail_moves.proofs.LineLemmas.{IsLeft, all_shown, some_shown}
use Rattle.jail_moves.proofs.matches.first_shown.Goals as goal

pub returns-in-None-clause-shown : goal.returns-in-None-clause-shown
returns-in-None-clause-shown c =
    let f = c.index-failures-index.result in
    let up : c.loop-index.index - 1 + 1 ≡ c.loop-index.index = omega arith in
    let some : 0 < length f.line = search rules in
    let none : left_after c.loop-index.left f.line ≡ None = search rules in
    some_shown c.args.maxmatches (c.loop-index.index - 1) c.args.failures.now f c.loop-index.left
    (subst (IsLeft c.args.maxmatches c.args.failures.now c.loop-index.left) (sym up) c.loop-index.invariant) (omega arith) c.index-failures-index.is some none

pub returns-clause-shown : goal.returns-clause-shown
returns-clause-shown c =
    let zero_left : c.loop-index.index ≡ 0 = omega arith in
    all_shown c.args.maxmatches c.args.failures.now c.loop-index.left (subst (IsLeft c.args.maxmatches c.args.failures.now c.loop-index.left) zero_left c.loop-index.invariant)
