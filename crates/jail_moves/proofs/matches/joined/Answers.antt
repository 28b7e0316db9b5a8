use Rattle.std.proofs.Common.{◌≡◌, ◌+◌, ◌<◌, ◌++◌, [], ◌∷◌, take, length, sym, ◌∙◌, ap, subst}
use Rattle.std.proofs.lemmas.List.{take_more}
use Rattle.jail_moves.specs.Shown.{with_line}
use Rattle.jail_moves.proofs.LineLemmas.{joined_on}
use Rattle.jail_moves.proofs.matches.joined.Goals as goal

pub loop-failure-preserved : goal.loop-failure-preserved
loop-failure-preserved c =
    let f = c.failure-item.result in
    let i = c.loop-failure.failure-index in
    let fs = c.args.failures.now in
    let one : take (i + 1) fs ≡ take i fs ++ f ∷ [] = take_more fs i f c.loop-failure-test.true ∙ ap (λ g. take i fs ++ g ∷ []) (sym c.failure-item.is) in
    joined_on c.loop-failure.text c.push_line.new.text (take i fs) (take (i + 1) fs) f c.loop-failure.invariant one
    (c.in_ok-push_line.ensures.line ∙ ap (with_line c.loop-failure.text) c.as_str.ensures.value)
    (subst (λ line. 0 < length line → 0 < length c.push_line.new.text) c.as_str.ensures.value c.in_ok-push_line.ensures.longer)
