use Rattle.std.proofs.Common.{◌≡◌, ◌++◌, map, drop, length}
use Rattle.ini_interp.specs.Joins.{Sets, section_settings}
use Rattle.ini_interp.specs.Known.{known_replaced}
use Rattle.ini_interp.specs.Changes.{settings_of}
use Rattle.ini_interp.proofs.joins.push_section.Given as goal

abbrev pub invariant-loop-index : goal.invariant-loop-index
invariant-loop-index l =
    settings_of l.changes ++ map (λ item. Sets l.section item.0 (known_replaced l.before l.section item.1)) (drop l.index l.items.items)
    ≡ settings_of l.fn.changes ++ section_settings l.before (l.section, l.items.items)
