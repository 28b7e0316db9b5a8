use Rattle.std.proofs.Common.{◌≡◌, ◌+◌, drop, option_map}
use Rattle.regex.specs.Names.{names_of}
use Rattle.f2b_world.specs.Matches.{number_of}
use Rattle.date_detect.proofs.names.number_of.Given as goal

abbrev pub invariant-loop-i : goal.invariant-loop-i
invariant-loop-i l =
    option_map (λ n. n + l.i) (number_of l.name (names_of (drop l.i l.names))) ≡ number_of l.name (names_of l.names)
