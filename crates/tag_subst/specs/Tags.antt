-- A text with its static tags replaced.
--
-- The text is read from the left, and what has been read is kept. Where a `>` ends a tag that has a value, the tag is taken out of what
-- is kept, and the value is read in its place, one deeper; all else is kept as it is. So the innermost tag goes first, and a tag may be
-- made of others.
use Rattle.std.specs.Prelude.{ℕ, zero, suc, ◌+◌, ◌-◌, ◌==◌, ◌&&◌, not, max, nat_lt, List, [], ◌∷◌, drop, fold, Option, None, Some, Result, Ok, Err, if◌then◌else◌}
use Rattle.ini_interp.specs.declared.value_error.InterpError.{InterpError}
use Rattle.ini_interp.specs.Sections.{Sections}
use Rattle.ini_interp.specs.Values.{Scope, name_of, most_depth}
use Rattle.tag_subst.specs.declared.substitutes.Replacement.{Replacement}
use Rattle.tag_subst.specs.declared.tag_error.TagError.{TagError}
use Rattle.tag_subst.specs.declared.tag_error.TagError.TheVariants.{TooDeep}
use Rattle.tag_subst.specs.Errors.{tag_fault}
use Rattle.tag_subst.specs.Marked.{Marked, no_text, added, cut}
use Rattle.tag_subst.specs.Names.{name_start, is_open, open_name, is_reserved}
use Rattle.tag_subst.specs.Values.{tag_value}

-- the value of a name, if it has one
abbrev pub Valuation : Type 0
Valuation = List ℕ → Result (Option (List ℕ)) InterpError

-- ---- one tag

-- the depth of the tag that a `>` of this depth ends: one more than the greatest among its bytes
abbrev pub tag_depth : ℕ → Marked → ℕ
tag_depth depth kept = 1 + fold max depth (drop (name_start kept.text - 1) kept.depths)

-- what replaces a tag: the value, if there is one
abbrev pub replacement : ℕ → ℕ → Result (Option (List ℕ)) InterpError → Result (Option Replacement) TagError
replacement place depth (Err fault) = Err (tag_fault fault)
replacement place depth (Ok None) = Ok None
replacement place depth (Ok (Some text)) = Ok (Some record { place = place; depth = depth; text = text })

-- the same, where a tag may not be so deep
abbrev pub asked : Valuation → List ℕ → ℕ → ℕ → Result (Option Replacement) TagError
asked value tag place depth = if nat_lt most_depth depth then Err (TooDeep (name_of tag)) else replacement place depth (value tag)

-- what a `>` of this depth replaces behind what is kept, if it ends a static tag with a value
abbrev pub closed : Valuation → ℕ → Marked → Result (Option Replacement) TagError
closed value depth kept =
    if is_open kept.text && not (is_reserved (open_name kept.text))
    then asked value (open_name kept.text) (name_start kept.text - 1) (tag_depth depth kept)
    else Ok None

-- ---- the whole text

-- `more` with what was kept, or the fault
abbrev pub onward : (Marked → Result Marked TagError) → Result Marked TagError → Result Marked TagError
onward more (Ok kept) = more kept
onward more (Err fault) = Err fault

-- `same` where nothing is replaced, and else the value read in place of the tag
abbrev pub replaced_by : (Replacement → Marked → Result Marked TagError) → Marked → Marked → Result (Option Replacement) TagError → Result Marked TagError
replaced_by read_value kept same (Err fault) = Err fault
replaced_by read_value kept same (Ok None) = Ok same
replaced_by read_value kept same (Ok (Some r)) = read_value r (cut r.place kept)

-- one more byte
abbrev pub read_byte : Valuation → (Replacement → Marked → Result Marked TagError) → ℕ → ℕ → Marked → Result Marked TagError
read_byte value read_value depth b kept =
    if b == 62 then replaced_by read_value kept (added (b ∷ []) depth kept) (closed value depth kept) else Ok (added (b ∷ []) depth kept)

-- byte by byte
abbrev pub read_bytes : Valuation → (Replacement → Marked → Result Marked TagError) → ℕ → List ℕ → Marked → Result Marked TagError
read_bytes value read_value depth [] kept = Ok kept
read_bytes value read_value depth (b ∷ text) kept = onward (read_bytes value read_value depth text) (read_byte value read_value depth b kept)

-- a text of this depth behind what is kept, where values stand at most so many deep in it; where none may, none is read
unfoldable pub read : Valuation → ℕ → ℕ → List ℕ → Marked → Result Marked TagError
read value zero depth text kept = read_bytes value (λ r before. Ok before) depth text kept
read value (suc left) depth text kept = read_bytes value (λ r before. read value left r.depth r.text before) depth text kept

-- its text alone
abbrev pub text_of : Result Marked TagError → Result (List ℕ) TagError
text_of (Ok kept) = Ok kept.text
text_of (Err fault) = Err fault

-- the text with its static tags replaced, or the first fault from the left
abbrev pub substituted : Sections → Scope → List ℕ → Result (List ℕ) TagError
substituted sections scope text = text_of (read (tag_value sections scope) most_depth 0 text no_text)
