-- What a configuration comes to: the definitions of its enabled jails, or the first refusal.
use Rattle.std.specs.Prelude.{ℕ, ◌+◌, ◌&&◌, not, nat_lt, Bool, true, false, List, [], ◌∷◌, ◌++◌, length, filter, sum_by, Option, None, Some, Result, Ok, codes}
use Rattle.std.specs.Str.{bytes_eq}
use Rattle.f2b_base.specs.declared.jail.JailDef.{JailDef}
use Rattle.f2b_base.specs.declared.outside.Tree.{Tree}
use Rattle.ini_interp.specs.Merges.{files_of}
use Rattle.ini_interp.specs.Sections.{Sections}
use Rattle.jail_conf.specs.declared.conf_error.ConfError.{ConfError}
use Rattle.jail_conf.specs.declared.conf_error.ConfKind.TheVariants.{BadName, TooMany}
use Rattle.jail_conf.specs.declared.settings.Settings.{Settings}
use Rattle.jail_conf.specs.Jails.{is_jail_name, jail_of}
use Rattle.jail_conf.specs.Sources.{Bases, bases_of, section_names, sections_of, of_server, of_jail, own, told}
use Rattle.jail_conf.specs.declared.source.Source.{Source}
use Rattle.jail_conf.specs.Table as table
use Rattle.jail_conf.specs.Then.{◌>>=◌, ◌>>◌, refuse_if}

abbrev pub but_default : List (List ℕ) → List (List ℕ)
but_default names = filter (λ name. not (bytes_eq name (codes "DEFAULT"))) names

-- each section but [DEFAULT] is a jail, in the order in which they are named first
abbrev pub jail_names : Sections → List (List ℕ)
jail_names sections = but_default (section_names sections)

abbrev pub most_jails : ℕ
most_jails = 256

-- whether a jail is enabled, where so many are before it. Its name is looked at in any case.
unfoldable pub is_enabled : (jail : Source) → (before : ℕ) → Result Bool ConfError
is_enabled jail before = do
  refuse_if (not (is_jail_name jail.section)) (told jail [] BadName)
  enabled ← own jail table.enabled
  refuse_if (enabled && not (nat_lt before most_jails)) (told jail table.enabled.name TooMany)
  Ok enabled

abbrev pub if_enabled : Bases → (jail : Source) → (patterns : ℕ) → Bool → Result (Option JailDef) ConfError
if_enabled bases jail patterns false = Ok None
if_enabled bases jail patterns true = do
  definition ← jail_of bases jail patterns
  Ok (Some definition)

abbrev pub patterns_in : JailDef → ℕ
patterns_in jail = length jail.fail + length jail.ignore_lines

-- the definition of a jail where it is enabled, behind these
unfoldable pub next_jail : Bases → (jail : Source) → (before : List JailDef) → Result (Option JailDef) ConfError
next_jail bases jail before = do
  enabled ← is_enabled jail (length before)
  if_enabled bases jail (sum_by patterns_in before) enabled

abbrev pub with_next : List JailDef → Option JailDef → List JailDef
with_next before None = before
with_next before (Some jail) = before ++ jail ∷ []

-- the definitions of those that are enabled, behind those of the jails before them
abbrev pub jails_behind : Bases → Sections → (before : List JailDef) → (names : List (List ℕ)) → Result (List JailDef) ConfError
jails_behind bases sections before [] = Ok before
jails_behind bases sections before (name ∷ names) = do
  next ← next_jail bases (of_jail sections name) before
  jails_behind bases sections (with_next before next) names

unfoldable pub settings_in : Bases → Result Settings ConfError
settings_in bases = do
  server ← sections_of bases (codes "fail2ban")
  socket ← own (of_server server) table.socket
  purge ← own (of_server server) table.dbpurgeage
  sections ← sections_of bases (codes "jail")
  jails ← jails_behind bases sections [] (jail_names sections)
  Ok (record { defs = record { purge = purge; jails = jails }; socket = socket })

-- what the files of a tree come to
abbrev pub conf : Tree → Result Settings ConfError
conf tree = settings_in (bases_of (files_of tree))
