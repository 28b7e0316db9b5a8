-- How often each kind of fault came to the real link and to standard output.
use Rattle.std.specs.Prelude.{ℕ}
use Rattle.f2b_world.specs.Faults.{Fault, OfLink, OfSink}

-- of the link
abbrev pub of_link : ℕ → Fault → ℕ
of_link count OfLink = count
of_link count _ = 0

-- of standard output
abbrev pub of_sink : ℕ → Fault → ℕ
of_sink count OfSink = count
of_sink count _ = 0
