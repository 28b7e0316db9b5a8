-- The lines that a ban shows, one by one: which still fit in front of others, and one more behind others.
use Rattle.std.specs.Prelude.{ℕ, ◌+◌, ◌-◌, ◌&&◌, cond, nat_lt, nat_le, List, ◌++◌, length, codes, Option, Some, None}
use Rattle.f2b_model.specs.Escapes.{escaped}
use Rattle.jail_moves.specs.declared.matches.Left.{Left}

-- how much may still be shown in front of a line, unless it is one too many, or too long with the three bytes that stand between lines
abbrev pub left_after : Left → List ℕ → Option Left
left_after left line =
    cond (nat_lt 0 left.lines && nat_le (length (escaped line) + 3) left.bytes)
    (Some (record { lines = left.lines - 1; bytes = left.bytes - (length (escaped line) + 3) }))
    None

-- the text with what stands between lines behind it, unless it is empty
abbrev pub with_between : List ℕ → List ℕ
with_between text = cond (nat_lt 0 (length text)) (text ++ codes " / ") text

-- the text with a line behind it, unless that is empty
abbrev pub with_line : List ℕ → List ℕ → List ℕ
with_line text line = cond (nat_lt 0 (length line)) (with_between text ++ escaped line) text
