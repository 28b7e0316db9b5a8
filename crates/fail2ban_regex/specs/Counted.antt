-- How often each kind of fault came to the real files and to standard output.
use Rattle.std.specs.Prelude.{ℕ}
use Rattle.f2b_world.specs.Faults.{Fault, OfSink, OfPatterns, OfFiles}

-- of files: reads that failed, and patterns that were too big
abbrev pub of_files : (files patterns : ℕ) → Fault → ℕ
of_files files patterns OfFiles = files
of_files files patterns OfPatterns = patterns
of_files files patterns _ = 0

-- of standard output
abbrev pub of_sink : ℕ → Fault → ℕ
of_sink count OfSink = count
of_sink count _ = 0
