use Rattle.std.proofs.Common.{◌≡◌, ◌++◌, map, drop, codes}
use Rattle.ini_interp.specs.Sections.{items_of}
use Rattle.jail_conf.specs.Jails.{known_of}
use Rattle.jail_conf.proofs.PlaceLemmas.{with_its_raw}
use Rattle.jail_conf.proofs.filter.known_of.Given as goal

abbrev pub invariant-places : goal.invariant-places
invariant-places l = l.known ++ map (with_its_raw l.sections) (drop l.index (items_of (codes "Definition") l.sections)) ≡ known_of l.sections
