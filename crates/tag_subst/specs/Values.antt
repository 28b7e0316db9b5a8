-- The value of the item that a static tag names.
use Rattle.std.specs.Prelude.{ℕ, List, ◌∷◌, Option, None, Result, Ok, is_some, not, filter, codes, if◌then◌else◌}
use Rattle.std.specs.List.{before_first, after_first, list_any}
use Rattle.std.specs.Str.{bytes_eq}
use Rattle.ini_interp.specs.declared.value_error.InterpError.{InterpError}
use Rattle.ini_interp.specs.Sections.{Sections, raw}
use Rattle.ini_interp.specs.Values.{Scope, is_slash, value_in}

-- a scope without the options that a jail gives
abbrev pub without_options : Scope → Scope
without_options scope = filter (λ section. not (bytes_eq section (codes "]options"))) scope

-- the value that a name has in a section: what it refers to is looked for in that section first, then in the scope
abbrev pub value_of_section : Sections → Scope → List ℕ → List ℕ → Result (Option (List ℕ)) InterpError
value_of_section sections scope section name =
    if is_some (raw sections section name) then value_in sections (section ∷ scope) name else Ok None

-- the value behind a slash: `known` stands for the scope without its options, any other word for the section of that name
abbrev pub value_behind : Sections → Scope → List ℕ → List ℕ → Result (Option (List ℕ)) InterpError
value_behind sections scope word name =
    if bytes_eq word (codes "known") then value_in sections (without_options scope) name else value_of_section sections scope word name

-- the value of the item that a tag names, if it has one; the first slash divides
abbrev pub tag_value : Sections → Scope → List ℕ → Result (Option (List ℕ)) InterpError
tag_value sections scope tag =
    if list_any is_slash tag then value_behind sections scope (before_first is_slash tag) (after_first is_slash tag)
    else value_in sections scope tag
