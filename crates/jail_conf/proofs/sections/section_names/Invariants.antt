use Rattle.std.proofs.Common.{◌≡◌, ◌++◌, drop}
use Rattle.jail_conf.specs.Sources.{section_names}
use Rattle.jail_conf.proofs.sections.section_names.Given as goal

abbrev pub invariant-places : goal.invariant-places
invariant-places l = l.names ++ drop l.index (section_names l.sections) ≡ section_names l.sections
