-- A text that knows how deep each of its bytes is.
use Rattle.std.specs.Prelude.{ℕ, List, [], ◌++◌, length, take, replicate}

-- the bytes, and the depth of each: 0 for what was given, and for a value one more than the greatest in the tag that it replaced
pub record Marked : Type 0 where
  pub text : List ℕ
  pub depths : List ℕ

-- no text yet
abbrev pub no_text : Marked
no_text = record { text = []; depths = [] }

-- with a text of this depth behind it
abbrev pub added : List ℕ → ℕ → Marked → Marked
added text depth before = record { text = before.text ++ text; depths = before.depths ++ replicate (length text) depth }

-- what stands before a place
abbrev pub cut : ℕ → Marked → Marked
cut place marked = record { text = take place marked.text; depths = take place marked.depths }
