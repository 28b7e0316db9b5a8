use Rattle.std.proofs.Common.{◌≡◌, All, IsSome, map, take}
use Rattle.f2b_world.specs.Reading.{reading}
use Rattle.f2b_world.proofs.pattern.set.texts.Given as goal

-- those so far
abbrev pub invariant-loop-pattern : goal.invariant-loop-pattern
invariant-loop-pattern l =
    (map (λ it. it.now) l.texts.items ≡ take l.pattern-index l.patterns) × All (λ text. IsSome (reading text)) (take l.pattern-index l.patterns)
