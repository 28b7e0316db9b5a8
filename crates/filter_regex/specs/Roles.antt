-- Places of the patterns of a list.
use Rattle.std.specs.Prelude.{ℕ}
use Rattle.filter_regex.specs.declared.error.PatternPlace.{PatternPlace}
use Rattle.filter_regex.specs.declared.error.PatternPlace.TheVariants.{Fail, Ignore}
use Rattle.filter_regex.specs.declared.make.Role.{Role}
use Rattle.filter_regex.specs.declared.make.Role.TheVariants.{Fail as OfFailures, Ignore as OfIgnored}

-- the place of a pattern by its number
abbrev pub place_of : Role → ℕ → PatternPlace
place_of OfFailures n = Fail n
place_of OfIgnored n = Ignore n
