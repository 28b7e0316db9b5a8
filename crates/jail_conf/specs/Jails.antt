-- The definition of a jail. The lines of a `do` block stand in the order in which refusals are told.
use Rattle.std.specs.Prelude.{ℕ, ◌+◌, ◌==◌, ◌&&◌, ◌||◌, not, nat_le, Bool, false, List, [], ◌∷◌, ◌++◌, length, map, unwrap_or, Result, Ok, codes, if◌then◌else◌}
use Rattle.std.specs.Char.{is_ascii_alphanumeric}
use Rattle.std.specs.List.{list_all}
use Rattle.f2b_base.specs.declared.addr.Addr.TheVariants.{V4, V6}
use Rattle.f2b_base.specs.declared.addr.Cidr.{Cidr}
use Rattle.f2b_base.specs.declared.ban.BanRule.{BanRule}
use Rattle.f2b_base.specs.declared.jail.JailDef.{JailDef}
use Rattle.ini_interp.specs.Lines.{trimmed}
use Rattle.ini_interp.specs.Sections.{Items, Sections, items_of, raw}
use Rattle.jail_conf.specs.declared.conf_error.ConfError.{ConfError}
use Rattle.jail_conf.specs.declared.conf_error.ConfKind.TheVariants.{BadOptions}
use Rattle.jail_conf.specs.declared.counts.Counts.{Counts}
use Rattle.jail_conf.specs.declared.filter.Filter.{Filter}
use Rattle.jail_conf.specs.declared.lines.Lines.{Lines}
use Rattle.jail_conf.specs.declared.source.Source.{Source}
use Rattle.jail_conf.specs.Actions.{actions_of}
use Rattle.jail_conf.specs.Options.{named}
use Rattle.jail_conf.specs.Sources.{Bases, sections_of, of_definition, with_known, own, own_or, told, without_file}
use Rattle.jail_conf.specs.Table as table
use Rattle.jail_conf.specs.Then.{◌>>=◌, ◌>>◌, Fine, refuse_if, or_refuse}
use Rattle.jail_conf.specs.Words.{is_empty}

-- ---- name and filter

abbrev pub is_name_byte : ℕ → Bool
is_name_byte byte = is_ascii_alphanumeric byte || (byte == 95 || (byte == 46 || byte == 45))

abbrev pub is_jail_name : List ℕ → Bool
is_jail_name name = nat_le 1 (length name) && (nat_le (length name) 64 && list_all is_name_byte name)

abbrev pub base_of : List ℕ → List ℕ
base_of name = codes "filter.d/" ++ name

abbrev pub file_of : List ℕ → List ℕ
file_of name = base_of name ++ codes ".conf"

-- a jail without a filter is one whose filter has no items, and no tags
abbrev pub no_filter : (jail : List ℕ) → Filter
no_filter jail = record { source = record { file = []; section = jail; sections = []; scope = []; tags = false }; known = [] }

-- the items of [Definition], each with its raw value
abbrev pub known_of : Sections → Items
known_of sections = map (λ item. (item.0, unwrap_or (raw sections (codes "Definition") item.0) [])) (items_of (codes "Definition") sections)

unfoldable pub named_filter : Bases → (jail : Source) → List ℕ → Result Filter ConfError
named_filter bases jail text = do
  given ← or_refuse (told jail table.filter.name BadOptions) (named text)
  refuse_if (not (bases.has_file (file_of given.name))) (without_file jail table.filter.name (file_of given.name))
  sections ← sections_of bases (base_of given.name)
  Ok (record { source = of_definition (file_of given.name) jail.section given.options sections; known = known_of sections })

-- what a jail takes from its filter: where its values are read, and what it sets
unfoldable pub filter_of : Bases → (jail : Source) → Result Filter ConfError
filter_of bases jail = do
  text ← own jail table.filter
  if is_empty (trimmed text) then Ok (no_filter jail.section) else named_filter bases jail text

-- ---- items

abbrev pub loopback : List Cidr
loopback = record { base = V4 0x7f00_0000; bits = 8 } ∷ record { base = V6 1; bits = 128 } ∷ []

-- the addresses that are never banned
abbrev pub never_banned : List Cidr → Bool → List Cidr → List Cidr
never_banned listed self own_addresses = listed ++ (if self then loopback ++ own_addresses else [])

unfoldable pub ignored_of : (jail : Source) → Result (List Cidr) ConfError
ignored_of jail = do
  self ← own jail table.ignoreself
  listed ← own jail table.ignoreip
  addresses ← own jail table.selfaddresses
  Ok (never_banned listed self addresses)

unfoldable pub rule_of : (jail : Source) → Result BanRule ConfError
rule_of jail = do
  base ← own jail table.bantime
  increment ← own jail table.bantime_increment
  factor ← own jail table.bantime_factor
  multipliers ← own jail table.bantime_multipliers
  maxtime ← own jail table.bantime_maxtime
  rndtime ← own jail table.bantime_rndtime
  own jail table.bantime_overalljails
  Ok (record { base = base; increment = increment; factor = factor; multipliers = multipliers; maxtime = maxtime; rndtime = rndtime })

-- which lines are failures, where the jails before have so many patterns
unfoldable pub lines_of : (jail filter : Source) → (patterns : ℕ) → Result Lines ConfError
lines_of jail filter patterns = do
  pref ← own filter table.prefregex
  fail ← own_or jail filter (table.failregex patterns)
  ignore_lines ← own_or jail filter (table.ignoreregex (patterns + length fail))
  Ok (record { pref = pref; fail = fail; ignore_lines = ignore_lines })

-- how many failures in which time are a ban, and how many lines are kept
unfoldable pub counts_of : (jail : Source) → Result Counts ConfError
counts_of jail = do
  findtime ← own jail table.findtime
  maxretry ← own jail table.maxretry
  maxmatches ← own jail (table.maxmatches maxretry)
  Ok (record { findtime = findtime; maxretry = maxretry; maxmatches = maxmatches })

-- what other values would be asked for is not offered
unfoldable pub unsupported_in : (jail filter : Source) → Result Fine ConfError
unsupported_in jail filter = do
  own jail table.usedns
  own jail table.backend
  own jail table.logencoding
  own jail table.maxlines
  own filter table.maxlines
  own jail table.ignorecommand
  own jail table.ignorecache
  own jail table.bantime_formula

-- an enabled jail with its filter, where the jails before it have so many patterns
unfoldable pub jail_with : Bases → (jail filter : Source) → (patterns : ℕ) → Result JailDef ConfError
jail_with bases jail filter patterns = do
  watches ← own jail table.logpath
  zone ← own jail table.logtimezone
  date ← own_or jail filter table.datepattern
  lines ← lines_of jail filter patterns
  ignore ← ignored_of jail
  unsupported_in jail filter
  counts ← counts_of jail
  rule ← rule_of jail
  actions ← actions_of bases jail
  Ok (record {
    name = jail.section;
    watches = watches;
    zone = zone;
    date = date;
    pref = lines.pref;
    fail = lines.fail;
    ignore_lines = lines.ignore_lines;
    ignore = ignore;
    findtime = counts.findtime;
    maxretry = counts.maxretry;
    maxmatches = counts.maxmatches;
    rule = rule;
    actions = actions;
  })

unfoldable pub jail_of : Bases → (jail : Source) → (patterns : ℕ) → Result JailDef ConfError
jail_of bases jail patterns = do
  filter ← filter_of bases jail
  jail_with bases (with_known filter.known jail) filter.source patterns
