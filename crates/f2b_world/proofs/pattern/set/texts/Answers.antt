use Rattle.std.proofs.Common.{IsSome, subst, arith}
use Rattle.std.proofs.lemmas.Grind.{common_steps}
use Rattle.regex.specs.Strings.{regex_source}
use Rattle.f2b_world.specs.Reading.{reading}
use Rattle.f2b_world.proofs.ReadingLemmas.{has_reading}
use Rattle.f2b_world.proofs.SetLemmas.{all_more}
use Rattle.f2b_world.proofs.pattern.set.texts.Goals as goal

pub loop-pattern-preserved : goal.loop-pattern-preserved
loop-pattern-preserved c =
    let shown : IsSome (reading (regex_source c.pattern.inside.regex)) = has_reading _ (_, _, rw c.pattern.invariant.0 at c.pattern.invariant.1) in
    (grind (arith, common_steps), all_more (λ text. IsSome (reading text)) c.args.patterns.now c.loop-pattern.pattern-index c.pattern-item.result (omega (arith, c.loop-pattern-test.true)) c.pattern-item.is c.loop-pattern.invariant.1 (subst (λ text. IsSome (reading text)) c.pattern.view_is shown))
