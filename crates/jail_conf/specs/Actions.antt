-- The actions of a jail.
use Rattle.std.specs.Prelude.{ℕ, not, nat_lt, List, [], ◌∷◌, ◌++◌, length, fold, Result, Ok, codes, if◌then◌else◌}
use Rattle.std.specs.Str.{bytes_eq}
use Rattle.f2b_base.specs.declared.addr.Family.{Family}
use Rattle.f2b_base.specs.declared.addr.Family.TheVariants.{Both, Inet4, Inet6}
use Rattle.f2b_base.specs.declared.jail.ActionDef.{ActionDef}
use Rattle.ini_interp.specs.Sections.{Sections}
use Rattle.jail_conf.specs.declared.actions.Action.{Action}
use Rattle.jail_conf.specs.declared.conf_error.ConfError.{ConfError}
use Rattle.jail_conf.specs.declared.conf_error.ConfKind.TheVariants.{BadOptions, DoubleAction, TooMany}
use Rattle.jail_conf.specs.declared.options.Named.{Named}
use Rattle.jail_conf.specs.declared.source.Source.{Source}
use Rattle.jail_conf.specs.Options.{named}
use Rattle.jail_conf.specs.Sources.{Bases, section_names, sections_of, of_definition, inet6_section, for_inet6, own, told, without_file}
use Rattle.jail_conf.specs.Table.{command, timeout, action}
use Rattle.jail_conf.specs.Then.{◌>>=◌, ◌>>◌, refuse_if, or_refuse}
use Rattle.jail_conf.specs.Words.{full_lines, is_among}

-- the base and the file of a name
abbrev pub base_of : List ℕ → List ℕ
base_of name = codes "action.d/" ++ name

abbrev pub file_of : List ℕ → List ℕ
file_of name = base_of name ++ codes ".conf"

-- its option `actname`, of which the last counts, and else its name
abbrev pub name_of : Named → List ℕ
name_of action = fold (λ name option. if bytes_eq option.0 (codes "actname") then option.1 else name) action.name action.options

-- ---- lanes

unfoldable pub lane : Source → (name : List ℕ) → Family → Result ActionDef ConfError
lane source name family = do
  start ← own source (command (codes "actionstart"))
  stop ← own source (command (codes "actionstop"))
  ban ← own source (command (codes "actionban"))
  unban ← own source (command (codes "actionunban"))
  check ← own source (command (codes "actioncheck"))
  seconds ← own source timeout
  Ok (record { name = name; family = family; start = start; stop = stop; ban = ban; unban = unban; check = check; timeout = seconds })

unfoldable pub lane_of_both : Source → (name : List ℕ) → Result (List ActionDef) ConfError
lane_of_both source name = do
  both ← lane source name Both
  Ok (both ∷ [])

unfoldable pub lane_of_each : Source → (name : List ℕ) → Result (List ActionDef) ConfError
lane_of_each source name = do
  inet4 ← lane source name Inet4
  inet6 ← lane (for_inet6 source) name Inet6
  Ok (inet4 ∷ inet6 ∷ [])

-- one for both families, or one for each where IPv6 has a section of its own
abbrev pub lanes_of : Sections → Source → (name : List ℕ) → Result (List ActionDef) ConfError
lanes_of sections source name =
    if is_among (section_names sections) inet6_section then lane_of_each source name else lane_of_both source name

-- ---- actions

abbrev pub most_actions : ℕ
most_actions = 16

-- the name and the options of an action, whose files are there, and whose name none of these is
unfoldable pub named_action : Bases → (jail : Source) → (names : List (List ℕ)) → (line : List ℕ) → Result Named ConfError
named_action bases jail names line = do
  given ← or_refuse (told jail action.name BadOptions) (named line)
  refuse_if (not (bases.has_file (file_of given.name))) (without_file jail action.name (file_of given.name))
  refuse_if (is_among names (name_of given)) (told jail action.name DoubleAction)
  Ok given

-- one action, behind those of these names
unfoldable pub action_of : Bases → (jail : Source) → (names : List (List ℕ)) → (line : List ℕ) → Result Action ConfError
action_of bases jail names line = do
  given ← named_action bases jail names line
  sections ← sections_of bases (base_of given.name)
  lanes ← lanes_of sections (of_definition (file_of given.name) jail.section given.options sections) (name_of given)
  refuse_if (not (nat_lt (length names) most_actions)) (told jail action.name TooMany)
  Ok (record { name = name_of given; lanes = lanes })

abbrev pub actions_behind : Bases → Source → (names : List (List ℕ)) → (lines : List (List ℕ)) → Result (List ActionDef) ConfError
actions_behind bases jail names [] = Ok []
actions_behind bases jail names (line ∷ lines) = do
  first ← action_of bases jail names line
  others ← actions_behind bases jail (names ++ first.name ∷ []) lines
  Ok (first.lanes ++ others)

-- the actions that a jail lists, one a line
unfoldable pub actions_of : Bases → (jail : Source) → Result (List ActionDef) ConfError
actions_of bases jail = do
  text ← own jail action
  actions_behind bases jail [] (full_lines text)
