-- The tags of a pattern by their names, and what each stands for.
use Rattle.std.specs.Prelude.{ℕ, Bool, true, false, ◌&&◌, ◌||◌, ◌==◌, List, ◌++◌, Option, Some, None, codes, nat_eq, if◌then◌else◌}
use Rattle.std.specs.Char.{is_ascii_alphanumeric}
use Rattle.std.specs.Option.{option_or}
use Rattle.std.specs.List.{starts_with, list_all}
use Rattle.std.specs.Str.{bytes_eq}
use Rattle.host_ident.specs.declared.tag.Tag.{Tag}
use Rattle.host_ident.specs.declared.tag.Tag.TheVariants.{Ip4, Ip6, Dns, Addr, Host, Content, Open, Close}

-- ---- names

abbrev pub host_tag_named : List ℕ → Option Tag
host_tag_named name =
    if bytes_eq name (codes "IP4") then Some Ip4
    else if bytes_eq name (codes "IP6") then Some Ip6
    else if bytes_eq name (codes "DNS") then Some Dns
    else if bytes_eq name (codes "ADDR") then Some Addr
    else if bytes_eq name (codes "HOST") then Some Host
    else None

-- a letter, a digit, or one of _ . : / ? = -
abbrev pub is_name_byte : ℕ → Bool
is_name_byte b =
    is_ascii_alphanumeric b || (b == 95 || (b == 46 || (b == 58 || (b == 47 || (b == 63 || (b == 61 || b == 45))))))

-- a name that begins so
abbrev pub is_mark_name : List ℕ → List ℕ → Bool
is_mark_name front name = starts_with nat_eq name front && list_all is_name_byte name

abbrev pub mark_named : List ℕ → Option Tag
mark_named name =
    if bytes_eq name (codes "F-CONTENT") then Some Content
    else if is_mark_name (codes "F-") name then Some Open
    else if is_mark_name (codes "/F-") name then Some Close
    else None

-- the tag with that name, if it is one
abbrev pub tag_named : List ℕ → Option Tag
tag_named name = option_or (host_tag_named name) (mark_named name)

-- ---- expansions

abbrev pub hex : List ℕ
hex = codes "[0-9A-Fa-f]{1,4}"

abbrev pub ip4 : List ℕ
ip4 = codes "(?:::[fF]{4}:)?(?P<f2b4>[0-9]{1,3}(?:\\.[0-9]{1,3}){3})"

-- none to seven numbers
abbrev pub few : List ℕ
few = codes "(?:" ++ hex ++ codes "(?::" ++ hex ++ codes "){0,6})?"

abbrev pub ip6 : List ℕ
ip6 = codes "\\[?(?P<f2b6>" ++ few ++ codes "::" ++ few ++ codes "|" ++ hex ++ codes "(?::" ++ hex ++ codes "){7})\\]?"

abbrev pub dns : List ℕ
dns = codes "(?P<f2bn>[A-Za-z0-9_](?:[A-Za-z0-9._-]*[A-Za-z0-9_])?)"

-- the beginning of a choice, with an address of either family
abbrev pub addresses : List ℕ
addresses = codes "(?:" ++ ip4 ++ codes "|" ++ ip6

-- the piece of a pattern that the tag stands for
abbrev pub expansion : Tag → List ℕ
expansion Ip4 = ip4
expansion Ip6 = ip6
expansion Dns = dns
expansion Addr = addresses ++ codes ")"
expansion Host = addresses ++ codes "|" ++ dns ++ codes ")"
expansion Content = codes "(?P<f2bc>"
expansion Open = codes "(?:"
expansion Close = codes ")"

-- it finds a host
abbrev pub is_host : Tag → Bool
is_host Ip4 = true
is_host Ip6 = true
is_host Dns = true
is_host Addr = true
is_host Host = true
is_host _ = false
