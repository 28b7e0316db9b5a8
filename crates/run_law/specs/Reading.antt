-- How a configuration is read: the tree, its patterns one by one, and the names for its wildcards. It is told once, for the start of a run and for a
-- client that asks for it; each says what comes behind.
use Rattle.std.specs.Prelude.{ℕ, Bool, true, false, List, [], ◌∷◌, Option, Some, None, Result, Ok, Err}
use Rattle.f2b_base.specs.declared.input.What.TheVariants.{Config as Configured}
use Rattle.f2b_base.specs.declared.jail.Defs.{Defs}
use Rattle.f2b_base.specs.declared.outside.TreeAnswer.{TreeAnswer}
use Rattle.f2b_base.specs.declared.outside.TreeAnswer.TheVariants.{Tree as TreeGiven, Failed as TreeFailed, TooLarge as TreeTooLarge, NoMemory as TreeNoMemory}
use Rattle.f2b_world.specs.declared.answer.MakeAnswer.{MakeAnswer}
use Rattle.f2b_world.specs.declared.answer.MakeAnswer.TheVariants.{Built, Syntax as WasSyntax, TooBig as WasTooBig}
use Rattle.f2b_world.specs.declared.answer.NamesAnswer.{NamesAnswer}
use Rattle.f2b_world.specs.declared.answer.NamesAnswer.TheVariants.{Names as NamesGiven, Failed as NamesFailed}
use Rattle.filter_regex.specs.declared.error.BuildKind.TheVariants.{Syntax, TooBig}
use Rattle.jail_conf.specs.Conf.{conf}
use Rattle.jail_conf.specs.declared.conf_error.ConfError.{ConfError}
use Rattle.jail_conf.specs.declared.settings.Settings.{Settings}
use Rattle.run_law.specs.Calls.{Call, AskMake, AskNames}
use Rattle.run_law.specs.News.{News, brings}
use Rattle.run_law.specs.Paths.{Path, Naming, directory, named, with_paths}
use Rattle.run_law.specs.Patterns.{Pattern, patterns_of}
use Rattle.run_law.specs.Points.{Point, Run}
use Rattle.run_law.specs.Said.{unread_line}
use Rattle.run_law.specs.Server.{Server}
use Rattle.run_law.specs.declared.status.Status.{Status}
use Rattle.run_law.specs.declared.status.Status.TheVariants.{ConfFault, ConfRefused, ConfTooLarge, PatternRefused}

-- ---- calls

abbrev pub make_call : List Pattern → Option Call
make_call [] = None
make_call (p ∷ ps) = Some (AskMake p.text)

abbrev pub names_call : List Path → Option Call
names_call [] = None
names_call (p ∷ ps) = Some (AskNames (directory p.watch.path))

-- ---- the tree and its patterns

-- what a configuration is not taken for
abbrev pub IsUntaken : Status → Type 0
IsUntaken ConfFault = Unit {0}
IsUntaken ConfTooLarge = Unit {0}
IsUntaken (ConfRefused error) = Unit {0}
IsUntaken (PatternRefused jail place kind) = Unit {0}
IsUntaken _ = ⊥

-- with what comes where these patterns are left, and where the configuration is not taken
module _ (left_to_make : Settings → List Pattern → Run → Run) (untaken : Status → Run → Run) where
  abbrev pub read_as : Result Settings ConfError → Run → Run
  read_as (Ok settings) r = left_to_make settings (patterns_of settings.defs) r
  read_as (Err error) r = untaken (ConfRefused error) r

  abbrev pub reads_tree : TreeAnswer → Run → Run
  reads_tree (TreeGiven tree) r = read_as (conf tree) r
  reads_tree TreeFailed r = untaken ConfFault r
  reads_tree TreeTooLarge r = untaken ConfTooLarge r
  reads_tree TreeNoMemory r = r

  abbrev pub makes_one : MakeAnswer → Settings → Pattern → List Pattern → Run → Run
  makes_one Built settings p ps r = left_to_make settings ps r
  makes_one WasSyntax settings p ps r = untaken (PatternRefused p.jail p.place Syntax) r
  makes_one WasTooBig settings p ps r = untaken (PatternRefused p.jail p.place TooBig) r

  abbrev pub makes_next : List Pattern → MakeAnswer → Settings → Run → Run
  makes_next [] answer settings r = r
  makes_next (p ∷ ps) answer settings r = makes_one answer settings p ps r

-- ---- the names

-- the names that were given; a directory that is not there has none
abbrev pub names_in : NamesAnswer → List (List ℕ)
names_in (NamesGiven names) = names
names_in _ = []

-- the line of a path whose directory could not be listed
abbrev pub unread_by : NamesAnswer → ℕ → List Path → List (List ℕ)
unread_by NamesFailed now (p ∷ ps) = unread_line now p.jail p.watch.path ∷ []
unread_by _ now _ = []

-- a configuration that changes nothing is no input
abbrev pub config_news : Bool → List (List ℕ) → Defs → List (List ℕ) → News
config_news true before defs behind = record { before = before; what = Some (Configured defs); behind = behind }
config_news false before defs behind = record { before = before; what = None; behind = behind }

-- with the point at which a path is left, and with what comes with the paths that were found
module _ (at_names : Settings → Naming → Server → Point) (found : List (List ℕ) → Defs → Server → Run → Run) where
  -- the next path with a wildcard, or the configuration with the paths that were found
  abbrev pub names_next : List (List ℕ) → Settings → Naming → List Path → Server → Run → Run
  names_next before settings naming [] s r = found before (with_paths settings.defs naming.found) s r
  names_next before settings naming (p ∷ ps) s r = brings (record { before = before; what = None; behind = [] }) (at_names settings naming) s r

  abbrev pub names_from : List (List ℕ) → Settings → Naming → Server → Run → Run
  names_from before settings naming s r = names_next before settings naming naming.left s r

  abbrev pub reads_names : NamesAnswer → Settings → Naming → Server → Run → Run
  reads_names answer settings naming s r = names_from (unread_by answer s.now naming.left) settings (named (names_in answer) naming) s r
