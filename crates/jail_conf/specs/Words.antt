-- Parts of a value.
use Rattle.std.specs.Prelude.{◌≡◌, ℕ, ◌-◌, ◌==◌, ◌&&◌, not, nat_le, Bool, true, List, [], length, take, drop, map, filter, Option, None, Some, codes, if◌then◌else◌}
use Rattle.std.specs.Char.{is_ascii_digit}
use Rattle.std.specs.List.{slice_split, list_all, list_any, suffix_len}
use Rattle.std.specs.Str.{bytes_eq, str_eq_ignore_ascii_case}
use Rattle.std.specs.Str.Parse.{digits_value}
use Rattle.ini_interp.specs.Lines.{is_blank, trimmed}

abbrev pub is_empty : List ℕ → Bool
is_empty text = length text == 0

-- one of these bytes
abbrev pub is_among_bytes : List ℕ → ℕ → Bool
is_among_bytes bytes byte = list_any (λ one. one == byte) bytes

-- none of these bytes is in the text
abbrev pub HasNone : List ℕ → List ℕ → Type 0
HasNone bytes text = list_all (λ byte. not (is_among_bytes bytes byte)) text ≡ true

-- the parts between the bytes that divide
abbrev pub parts_by : List ℕ → List ℕ → List (List ℕ)
parts_by dividers text = slice_split (is_among_bytes dividers) text

-- the parts of what is left behind a byte that divides, if there is one
abbrev pub parts_of : (ℕ → Bool) → Option (List ℕ) → List (List ℕ)
parts_of divides None = []
parts_of divides (Some rest) = slice_split divides rest

-- the parts that are not empty
abbrev pub words_by : List ℕ → List ℕ → List (List ℕ)
words_by dividers text = filter (λ word. not (is_empty word)) (parts_by dividers text)

-- the lines, trimmed, that are not empty then
abbrev pub full_lines : List ℕ → List (List ℕ)
full_lines text = filter (λ line. not (is_empty line)) (map trimmed (parts_by (codes "\n") text))

-- the bytes behind the last blank of a line, and what stands before them
abbrev pub last_word_len : List ℕ → ℕ
last_word_len line = suffix_len (λ byte. not (is_blank byte)) line

abbrev pub last_word : List ℕ → List ℕ
last_word line = drop (length line - last_word_len line) line

abbrev pub before_last_word : List ℕ → List ℕ
before_last_word line = trimmed (take (length line - last_word_len line) line)

abbrev pub is_among : List (List ℕ) → List ℕ → Bool
is_among texts text = list_any (bytes_eq text) texts

-- the word, in any ASCII case, is one of those that are listed, each divided from the next by a space
abbrev pub is_one_of : List ℕ → List ℕ → Bool
is_one_of listed word = list_any (str_eq_ignore_ascii_case word) (parts_by (codes " ") listed)

-- decimal digits, at least one; leading zeros are allowed
abbrev pub is_decimal : List ℕ → Bool
is_decimal text = not (is_empty text) && list_all is_ascii_digit text

abbrev pub number : List ℕ → Option ℕ
number text = if is_decimal text then Some (digits_value 10 text) else None

abbrev pub if_from : ℕ → ℕ → Option ℕ
if_from least n = if nat_le least n then Some n else None

abbrev pub if_between : ℕ → ℕ → ℕ → Option ℕ
if_between least most n = if nat_le least n && nat_le n most then Some n else None
