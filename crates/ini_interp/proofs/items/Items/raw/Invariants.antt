use Rattle.std.proofs.Common.{◌≡◌, drop}
use Rattle.std.specs.Str.{str_to_ascii_lowercase}
use Rattle.ini_interp.specs.Entries.{by_bytes}
use Rattle.ini_interp.specs.Sections.{value_of}
use Rattle.ini_interp.proofs.items.Items.raw.Given as goal

-- what is looked for is not in front of the place
abbrev pub invariant-loop-index : goal.invariant-loop-index
invariant-loop-index l =
    value_of (str_to_ascii_lowercase l.name) (by_bytes l.self-inside.map.entries)
    ≡ value_of (str_to_ascii_lowercase l.name) (by_bytes (drop l.index l.self-inside.map.entries))
