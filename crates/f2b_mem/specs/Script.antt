-- What the parts of a script give.
use Rattle.std.specs.Prelude.{ℕ, ◌+◌, ◌-◌, ◌^◌, ◌==◌, Bool, true, false, ◌&&◌, if◌then◌else◌, leb, min, Option, Some, None, List, [], ◌∷◌, length, take, drop, get_or}
use Rattle.std.specs.Str.{bytes_eq}
use Rattle.f2b_base.specs.declared.outside.Reading.{Reading}
use Rattle.f2b_base.specs.declared.outside.TreeAnswer.{TreeAnswer}
use Rattle.f2b_base.specs.declared.outside.TreeAnswer.TheVariants.{Tree as ConfigTree, TooLarge as ConfigTooLarge}
use Rattle.f2b_world.specs.declared.answer.Look.{Look}
use Rattle.f2b_world.specs.declared.answer.Look.TheVariants.{File, Absent}
use Rattle.f2b_world.specs.declared.pattern.Made.{Made}
use Rattle.f2b_world.specs.declared.pattern.Made.TheVariants.{TooBig}
use Rattle.f2b_mem.specs.TreeBounds.{is_tree}
use Rattle.f2b_mem.specs.declared.script.FileChange.{FileChange}
use Rattle.f2b_mem.specs.declared.script.Image.{Image}

-- a count that stays at the greatest number
abbrev pub counted : ℕ → Bool → ℕ
counted count more = min (count + (if more then 1 else 0)) (2 ^ 64 - 1)

-- whether a pattern was refused for its size
abbrev pub is_too_big : Made → Bool
is_too_big TooBig = true
is_too_big _ = false

-- the item at that place, or the last where there are fewer; or else that one
abbrev pub at_or_last : {A : Type 0} → List A → ℕ → A → A
at_or_last items place none = get_or items (min place (length items - 1)) none

-- the reading of that number
abbrev pub reading_at : List Reading → ℕ → Reading
reading_at readings number = at_or_last readings number (record { secs = 0; word = 0 })

-- a script's tree, or too large where it does not keep to the bounds of a tree or has a path that is none of a configuration
abbrev pub tree_or_too_large : TreeAnswer → TreeAnswer
tree_or_too_large (ConfigTree tree) = if is_tree tree.files then ConfigTree tree else ConfigTooLarge
tree_or_too_large _ = ConfigTooLarge

-- the tree of that number
abbrev pub tree_at : List TreeAnswer → ℕ → TreeAnswer
tree_at trees number = tree_or_too_large (at_or_last trees number (ConfigTree (record { files = [] })))

-- whether a change of this path holds after so many pauses
abbrev pub is_change_of : List ℕ → ℕ → FileChange → Bool
is_change_of path pauses change = leb change.pauses pauses && bytes_eq change.path path

-- the content of a path after these changes, where it had that content before them
abbrev pub content_after : Option (List ℕ) → List FileChange → List ℕ → ℕ → Option (List ℕ)
content_after content [] path pauses = content
content_after content (change ∷ changes) path pauses = content_after (if is_change_of path pauses change then change.content else content) changes path pauses

-- the content of a path after so many pauses
abbrev pub content_at : List FileChange → List ℕ → ℕ → Option (List ℕ)
content_at changes path pauses = content_after None changes path pauses

-- what a look shows of a file
abbrev pub seen : Option (List ℕ) → ℕ → ℕ → ℕ → Look
seen (Some content) head from max = File (record { size = length content; head = take head content; bytes = take max (drop from content) })
seen None head from max = Absent

-- one of two slots
abbrev pub of_two : List ℕ → List ℕ → ℕ → List ℕ
of_two zero one slot = if slot == 0 then zero else (if slot == 1 then one else [])

-- the slots of an image
abbrev pub slots_of : Image → ℕ → List ℕ
slots_of image slot = of_two image.slot0 image.slot1 slot
