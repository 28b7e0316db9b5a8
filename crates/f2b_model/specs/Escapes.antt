-- Text that means nothing to a shell.
use Rattle.std.specs.Prelude.{ℕ, Bool, ◌||◌, ◌==◌, List, map, if◌then◌else◌}
use Rattle.std.specs.Char.{is_ascii_alphanumeric}
use Rattle.std.specs.Str.{chars}

-- an ASCII letter or digit, the space, or one of . _ : , = @ / + -
abbrev pub is_safe : ℕ → Bool
is_safe c =
    is_ascii_alphanumeric c
    || (c == 32 || (c == 46 || (c == 95 || (c == 58 || (c == 44 || (c == 61 || (c == 64 || (c == 47 || (c == 43 || c == 45)))))))))

-- the character, or `_` in its place
abbrev pub safe_character : ℕ → ℕ
safe_character c = if is_safe c then c else 95

-- the text with `_` in place of each character that is not safe
abbrev pub escaped : List ℕ → List ℕ
escaped text = map safe_character (chars text)
