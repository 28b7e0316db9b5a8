-- The text of bytes that may be no UTF-8.
use Rattle.std.specs.Prelude.{ℕ, zero, suc, ◌==◌, ◌-◌, if◌then◌else◌, List, [], ◌∷◌, ◌++◌, take}
use Rattle.std.specs.Str.{is_utf8}

-- U+FFFD in UTF-8
abbrev pub replacement : List ℕ
replacement = 0xEF ∷ 0xBF ∷ 0xBD ∷ []

-- how many bytes the well-formed sequence has that stands at the front, or 0 where none does: a character has 1 to 4 bytes
unfoldable pub front_length : List ℕ → ℕ
front_length bytes = if is_utf8 (take 1 bytes) then 1 else (if is_utf8 (take 2 bytes) then 2 else (if is_utf8 (take 3 bytes) then 3 else (if is_utf8 (take 4 bytes) then 4 else 0)))

-- the text of bytes of which the first n are the rest of a well-formed sequence
abbrev pub decoded_behind : ℕ → List ℕ → List ℕ
decoded_behind n [] = []
decoded_behind (suc n) (byte ∷ bytes) = byte ∷ decoded_behind n bytes
decoded_behind zero (byte ∷ bytes) = if front_length (byte ∷ bytes) == 0 then replacement ++ decoded_behind zero bytes
    else byte ∷ decoded_behind (front_length (byte ∷ bytes) - 1) bytes

-- the text: a well-formed sequence is kept, and each byte that is in none becomes U+FFFD
unfoldable pub decoded : List ℕ → List ℕ
decoded bytes = decoded_behind zero bytes
