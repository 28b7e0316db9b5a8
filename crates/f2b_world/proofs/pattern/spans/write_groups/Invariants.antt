use Rattle.std.proofs.Common.{◌≡◌, map, take}
use Rattle.f2b_world.specs.Captured.{captured_group}
use Rattle.f2b_world.specs.Spans.{AreCuts}
use Rattle.regex.specs.Strings.{captures_haystack}
use Rattle.f2b_world.proofs.pattern.spans.write_groups.Given as goal

abbrev pub invariant-loop-i : goal.invariant-loop-i
invariant-loop-i l = record {
  value : take l.i l.cuts ≡ map (captured_group l.captures) (take l.i l.numbers);
  cuts : AreCuts (captures_haystack l.captures) (take l.i l.cuts);
}
