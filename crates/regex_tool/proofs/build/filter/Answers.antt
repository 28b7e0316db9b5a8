use Rattle.std.proofs.Common.{inl, sym}
use Rattle.regex_tool.proofs.build.filter.Goals as goal

pub returns-in-Some-clause-cause : goal.returns-in-Some-clause-cause
returns-in-Some-clause-cause g c = inl (sym c.in-Some.ensures.value)
