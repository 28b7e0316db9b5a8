-- The start: the configuration, its patterns, the journal, the socket, the first reading of the clock, the names for wildcards, and the
-- configuration as an input.
use Rattle.std.specs.Prelude.{ℕ, List, [], ◌∷◌, Option, Some, Result, Ok, Err}
use Rattle.f2b_base.specs.declared.jail.Defs.{Defs}
use Rattle.f2b_base.specs.declared.outside.Reading.{Reading}
use Rattle.f2b_base.specs.declared.outside.TreeAnswer.{TreeAnswer}
use Rattle.f2b_world.specs.declared.answer.Listen.{Listen}
use Rattle.f2b_world.specs.declared.answer.Listen.TheVariants.{Listening, Failed as ListenFailed}
use Rattle.f2b_world.specs.declared.answer.MakeAnswer.{MakeAnswer}
use Rattle.f2b_world.specs.declared.answer.NamesAnswer.{NamesAnswer}
use Rattle.jail_conf.specs.declared.conf_error.ConfError.{ConfError}
use Rattle.jail_conf.specs.declared.settings.Settings.{Settings}
use Rattle.run_law.specs.Calls.{Call, AskListen, AskStore}
use Rattle.run_law.specs.Changes.{config_changes}
use Rattle.reconcile.specs.Loads.{Loaded, loaded}
use Rattle.run_law.specs.News.{News, brings, goes_to, refused}
use Rattle.run_law.specs.Paths.{Path, Naming, first_naming}
use Rattle.run_law.specs.Patterns.{Pattern}
use Rattle.run_law.specs.Points.{Point, AtMakes, AtStore, AtListen, AtFirst, AtNames, AtTurn, AtClock, Run}
use Rattle.run_law.specs.Reading.{config_news, makes_next, makes_one, names_from, names_next, read_as, reads_names, reads_tree}
use Rattle.run_law.specs.Said.{ready_line}
use Rattle.run_law.specs.Server.{Server, begun, following}
use Rattle.run_law.specs.declared.status.Status.TheVariants.{GateFault, NotAJournal}

-- ---- calls

-- the slots are beside the socket
abbrev pub store_call : Settings → Option Call
store_call settings = Some (AskStore settings.socket)

abbrev pub listen_call : Settings → Option Call
listen_call settings = Some (AskListen settings.socket)

-- ---- the configuration and its patterns

-- the patterns that are left, and behind the last the journal
abbrev pub to_makes : Settings → List Pattern → Point
to_makes settings [] = AtStore settings
to_makes settings (p ∷ ps) = AtMakes settings (p ∷ ps)

abbrev pub left_to_make : Settings → List Pattern → Run → Run
left_to_make settings left r = goes_to (to_makes settings left) r

-- one that is not taken ends the run
abbrev pub defined : Result Settings ConfError → Run → Run
defined o r = read_as left_to_make (refused 0) o r

abbrev pub tree_read : TreeAnswer → Run → Run
tree_read answer r = reads_tree left_to_make (refused 0) answer r

abbrev pub made : MakeAnswer → Settings → Pattern → List Pattern → Run → Run
made answer settings p ps r = makes_one left_to_make (refused 0) answer settings p ps r

abbrev pub makes_on : List Pattern → MakeAnswer → Settings → Run → Run
makes_on left answer settings r = makes_next left_to_make (refused 0) left answer settings r

-- ---- the journal

abbrev pub loads : Result Loaded (ℕ × ℕ) → Settings → Run → Run
loads (Ok l) settings r = goes_to (AtListen settings l) r
loads (Err place) settings r = refused 0 (NotAJournal place.0 place.1) r

-- What the slots held as the run began is loaded: nothing was written since.
abbrev pub store_named : Settings → Run → Run
store_named settings r = loads (loaded r.plan.limit r.slots) settings r

-- ---- the socket

abbrev pub listened : Listen → Settings → Loaded → Run → Run
listened Listening settings l r = goes_to (AtFirst settings l) r
listened ListenFailed settings l r = refused 0 GateFault r

-- ---- the names, and the configuration as an input

-- the start is said behind all that the configuration tells
abbrev pub start_news : List (List ℕ) → Defs → Server → News
start_news before defs s = config_news (config_changes s.state defs) before defs (ready_line s.now ∷ [])

-- the first turn, with the logs of the jails
abbrev pub first_turn : Server → Point
first_turn s = AtTurn AtClock (following s)

abbrev pub starts_with : List (List ℕ) → Defs → Server → Run → Run
starts_with before defs s r = brings (start_news before defs s) first_turn s r

abbrev pub to_names : List (List ℕ) → Settings → Naming → List Path → Server → Run → Run
to_names before settings naming left s r = names_next AtNames starts_with before settings naming left s r

abbrev pub naming_on : List (List ℕ) → Settings → Naming → Server → Run → Run
naming_on before settings naming s r = names_from AtNames starts_with before settings naming s r

abbrev pub first_read : Reading → Settings → Loaded → Run → Run
first_read answer settings l r = naming_on [] settings (first_naming settings.defs) (begun r.plan.turns l answer) r

abbrev pub names_read : NamesAnswer → Settings → Naming → Server → Run → Run
names_read answer settings naming s r = reads_names AtNames starts_with answer settings naming s r
