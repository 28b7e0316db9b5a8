-- Which words name a filter: its file `filter.d/NAME.conf`, or its name in a directory of a configuration.
use Rattle.std.specs.Prelude.{ℕ, ◌-◌, ◌==◌, ◌&&◌, ◌||◌, not, nat_eq, nat_le, Bool, List, [], ◌∷◌, length, take, drop, Option, None, Some, option_and_then, option_copied, option_map, codes, if◌then◌else◌}
use Rattle.std.specs.List.{after_first, before_first, ends_with, list_all, position_or_len, suffix_len}
use Rattle.std.specs.Option.{option_or}
use Rattle.std.specs.Str.{bytes_eq}
use Rattle.jail_conf.specs.Jails.{is_jail_name}
use Rattle.regex_tool.specs.declared.target.Target as code

-- a filter by its name, the directory of its configuration, and what stands behind the bracket that begins its options
pub record Target : Type 0 where
  pub dir : List ℕ
  pub name : List ℕ
  pub options : Option (List ℕ)

-- how many bytes stand behind the last slash
abbrev pub file_len : List ℕ → ℕ
file_len path = suffix_len (λ byte. not (byte == 47)) path

abbrev pub file_in : List ℕ → List ℕ
file_in path = drop (length path - file_len path) path

abbrev pub before_file : List ℕ → List ℕ
before_file path = take (length path - file_len path) path

-- what stands before an ending, if the text has it
abbrev pub before_ending : (ending text : List ℕ) → Option (List ℕ)
before_ending ending text = if ends_with nat_eq text ending then Some (take (length text - length ending) text) else None

-- a filter has the name of a jail, and not that of a section which is none
abbrev pub is_filter_name : List ℕ → Bool
is_filter_name name = is_jail_name name && not (bytes_eq name (codes "DEFAULT") || bytes_eq name (codes "INCLUDES"))

abbrev pub if_name : List ℕ → Option (List ℕ)
if_name name = if is_filter_name name then Some name else None

-- the name of the filter that a file is
abbrev pub name_in : List ℕ → Option (List ℕ)
name_in file = option_and_then if_name (before_ending (codes ".conf") file)

-- the root is the one directory whose path ends in a slash
abbrev pub or_root : List ℕ → List ℕ
or_root [] = codes "/"
or_root (byte ∷ bytes) = byte ∷ bytes

-- the directory that stands before `filter.d/`
abbrev pub directory : List ℕ → Option (List ℕ)
directory before = if length before == 0 then Some (codes ".") else option_map or_root (before_ending (codes "/") before)

abbrev pub directory_in : List ℕ → Option (List ℕ)
directory_in path = option_and_then directory (before_ending (codes "filter.d/") path)

abbrev pub target : List ℕ → List ℕ → Target
target dir name = record { dir = dir; name = name; options = None }

-- the filter that a path names, if it is the file of one
unfoldable pub target_of : List ℕ → Option Target
target_of path = option_and_then (λ name. option_map (λ dir. target dir name) (directory_in (before_file path))) (name_in (file_in path))

-- options stand in one line
abbrev pub is_option_text : List ℕ → Bool
is_option_text text = list_all (λ byte. nat_le 32 byte) text

abbrev pub optioned : (dir name options : List ℕ) → Option Target
optioned dir name options =
    if is_filter_name name && is_option_text options then Some (record { dir = dir; name = name; options = Some options }) else None

abbrev pub bare : (dir name : List ℕ) → Option Target
bare dir name = if is_filter_name name then Some (target dir name) else None

abbrev pub is_bracket : ℕ → Bool
is_bracket byte = byte == 91

-- the filter that a name gives, perhaps with options, in the configuration of a directory
unfoldable pub named_target : (dir regex : List ℕ) → Option Target
named_target dir regex =
    if position_or_len is_bracket regex == length regex then bare dir regex
    else optioned dir (before_first is_bracket regex) (after_first is_bracket regex)

-- the filter that a word names, where a directory may be given
abbrev pub target_in : Option (List ℕ) → List ℕ → Option Target
target_in None regex = target_of regex
target_in (Some dir) regex = option_or (named_target dir regex) (target_of regex)

-- what the code has of it
abbrev pub shown : code.Target → Target
shown t = record { dir = t.dir.now; name = t.name.now; options = option_copied t.options }

-- the name of the jail that is tested
abbrev pub name_if : Option Target → List ℕ
name_if None = codes "regex"
name_if (Some t) = t.name
