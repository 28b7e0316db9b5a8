-- Which part of a text is a static tag. A tag is looked for where a `>` stands: the text before it ends with a `<` and a name.
use Rattle.std.specs.Prelude.{ℕ, Bool, false, ◌||◌, ◌&&◌, ◌==◌, ◌-◌, nat_lt, nat_eq, not, List, [], ◌∷◌, length, take, drop, slice_index, codes}
use Rattle.std.specs.Char.{is_ascii_alphabetic, is_ascii_alphanumeric}
use Rattle.std.specs.List.{list_any, starts_with, suffix_len}
use Rattle.std.specs.Str.{bytes_eq}
use Rattle.f2b_model.specs.Render.{opens_group}

-- a letter, a digit, or one of _ . : / ? = -
abbrev pub is_name_byte : ℕ → Bool
is_name_byte b =
    is_ascii_alphanumeric b || (b == 95 || (b == 46 || (b == 58 || (b == 47 || (b == 63 || (b == 61 || b == 45))))))

-- a name begins with a letter or `_`
abbrev pub begins_name : List ℕ → Bool
begins_name [] = false
begins_name (b ∷ bs) = is_ascii_alphabetic b || b == 95

-- where the bytes of a name begin with which the text ends
abbrev pub name_start : List ℕ → ℕ
name_start text = length text - suffix_len is_name_byte text

-- a `<` stands right before them, they are a name, and the `<` begins no group of a pattern
abbrev pub is_open_at : ℕ → List ℕ → Bool
is_open_at start text =
    nat_lt 0 start && (slice_index text (start - 1) == 60 && (begins_name (drop start text) && not (opens_group (take (start - 1) text))))

-- a `>` behind the text ends a tag
abbrev pub is_open : List ℕ → Bool
is_open text = is_open_at (name_start text) text

-- the name of that tag
abbrev pub open_name : List ℕ → List ℕ
open_name text = drop (name_start text) text

-- names that stand for no item: they are filled in later, or are hosts of a pattern
abbrev pub reserved_names : List (List ℕ)
reserved_names =
    codes "ip" ∷ codes "family" ∷ codes "failures" ∷ codes "time" ∷ codes "bantime" ∷ codes "bancount" ∷ codes "matches" ∷ codes "br"
    ∷ codes "HOST" ∷ codes "ADDR" ∷ codes "IP4" ∷ codes "IP6" ∷ codes "DNS" ∷ codes "SUBNET" ∷ codes "CIDR" ∷ codes "SKIPLINES" ∷ []

abbrev pub is_listed : List ℕ → Bool
is_listed name = list_any (bytes_eq name) reserved_names

-- one of them, or a name that begins with `F-`
abbrev pub is_reserved : List ℕ → Bool
is_reserved name = is_listed name || starts_with nat_eq name (codes "F-")
