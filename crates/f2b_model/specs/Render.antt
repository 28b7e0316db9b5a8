-- A command's template with its tags filled in. The text is taken apart at each `<`: a tag stands at the front of a part.
use Rattle.std.specs.Prelude.{ℕ, Bool, ◌||◌, ◌==◌, List, [], ◌∷◌, ◌++◌, length, find, nat_lt, nat_eq, Option, Some, None, option_map, codes, bytes_eq, if◌then◌else◌}
use Rattle.std.specs.List.{slice_split, ends_with, before_first, after_first, position_or_len}
use Rattle.std.specs.Fmt.{decimal, signed_decimal}
use Rattle.f2b_base.specs.declared.addr.Addr.{Addr}
use Rattle.f2b_base.specs.declared.addr.Family.{Family}
use Rattle.f2b_base.specs.declared.addr.Family.TheVariants.{Both, Inet4, Inet6}
use Rattle.f2b_base.specs.Addresses.{printed}
use Rattle.f2b_model.specs.declared.fill.Fill.{Fill}

-- ---- values

-- the address, or nothing
abbrev pub ip_text : Option Addr → List ℕ
ip_text None = []
ip_text (Some addr) = printed addr

-- a family as commands name it
abbrev pub family_text : Family → List ℕ
family_text Both = codes "inet4"
family_text Inet4 = codes "inet4"
family_text Inet6 = codes "inet6"

-- each tag's name, and what it stands for
abbrev pub values : Fill → List (List ℕ × List ℕ)
values f =
    (codes "ip", ip_text f.ip)
    ∷ (codes "family", family_text f.family)
    ∷ (codes "failures", decimal f.failures)
    ∷ (codes "time", decimal f.time)
    ∷ (codes "bantime", signed_decimal f.bantime)
    ∷ (codes "bancount", decimal f.bancount)
    ∷ (codes "matches", f.matches)
    ∷ (codes "br", 10 ∷ [])
    ∷ []

-- what a name stands for, if it is that of a tag
abbrev pub value_of : Fill → List ℕ → Option (List ℕ)
value_of f name = option_map (λ entry. entry.1) (find (λ entry. bytes_eq entry.0 name) (values f))

-- ---- templates

-- whether a `<` after this text begins the name of a group of a pattern
abbrev pub opens_group : List ℕ → Bool
opens_group before = ends_with nat_eq before (codes "(?") || ends_with nat_eq before (codes "(?P")

-- the value of the tag at the front of a part, which is a name and then a `>`
abbrev pub front_value : Fill → List ℕ → Option (List ℕ)
front_value f part =
    if nat_lt (position_or_len (λ b. b == 62) part) (length part) then value_of f (before_first (λ b. b == 62) part) else None

-- the value of the tag of a part, by the part before its `<`
abbrev pub part_value : Fill → List ℕ → List ℕ → Option (List ℕ)
part_value f before part = if opens_group before then None else front_value f part

-- a part behind its `<`: the value in place of the tag, or as it is written where it has no tag
abbrev pub filled : Option (List ℕ) → List ℕ → List ℕ
filled None part = 60 ∷ part
filled (Some value) part = value ++ after_first (λ b. b == 62) part

-- the parts behind a `<`, by the part before each
abbrev pub filled_after : Fill → List ℕ → List (List ℕ) → List ℕ
filled_after f before [] = []
filled_after f before (part ∷ parts) = filled (part_value f before part) part ++ filled_after f part parts

-- all parts, of which the first is behind no `<`
abbrev pub filled_parts : Fill → List (List ℕ) → List ℕ
filled_parts f [] = []
filled_parts f (first ∷ parts) = first ++ filled_after f first parts

-- the template with each tag filled in; what a value contains is not looked at again
unfoldable pub rendered : List ℕ → Fill → List ℕ
rendered template f = filled_parts f (slice_split (λ b. b == 60) template)
