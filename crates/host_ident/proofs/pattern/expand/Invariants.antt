use Rattle.std.proofs.Common.{◌≡◌, ◌++◌, option_copied}
use denote.Text.{Utf8}
use denote.Shadow.{shadow}
use Rattle.host_ident.specs.Expanded.{written_after, expanded, parts_of}
use Rattle.f2b_base.proofs.PartLemmas.{left_of}
use Rattle.host_ident.proofs.pattern.expand.Given as goal

abbrev pub invariant-parts : goal.invariant-parts
invariant-parts l =
    shadow (Utf8 l.before) × (l.written ++ written_after l.before (parts_of (option_copied l.rest)) ≡ expanded l.fn.pattern)

abbrev pub decreases-parts : goal.decreases-parts
decreases-parts l = left_of (option_copied l.rest)
