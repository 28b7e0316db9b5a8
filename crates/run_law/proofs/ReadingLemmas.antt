-- Where the reading of a configuration leads, for any property of runs.
use Rattle.std.proofs.Common.{ℕ, List, [], ◌∷◌, None, Result, Ok, Err}
use Rattle.f2b_base.specs.declared.jail.Defs.{Defs}
use Rattle.f2b_base.specs.declared.outside.TreeAnswer.{TreeAnswer}
use Rattle.f2b_base.specs.declared.outside.TreeAnswer.TheVariants.{Tree, Failed as TreeFailed, TooLarge as TreeTooLarge, NoMemory as TreeNoMemory}
use Rattle.f2b_world.specs.declared.answer.MakeAnswer.{MakeAnswer}
use Rattle.f2b_world.specs.declared.answer.MakeAnswer.TheVariants.{Built, Syntax as WasSyntax, TooBig as WasTooBig}
use Rattle.jail_conf.specs.Conf.{conf}
use Rattle.jail_conf.specs.declared.conf_error.ConfError.{ConfError}
use Rattle.jail_conf.specs.declared.settings.Settings.{Settings}
use Rattle.f2b_world.specs.declared.event.Event.{Event}
use Rattle.run_law.specs.Calls.{AskMake, AskNames, AskTree, IsNext, Makes}
use Rattle.run_law.specs.News.{brings}
use Rattle.run_law.specs.Paths.{Naming, Path, with_paths}
use Rattle.run_law.specs.Patterns.{Pattern, patterns_of}
use Rattle.run_law.specs.Points.{Point, Rereading, OfTree, OfMakes, OfNames, Run}
use Rattle.run_law.specs.Reading.{IsUntaken, make_call, makes_next, makes_one, names_call, names_next, read_as, reads_tree}
use Rattle.run_law.specs.Reload.{reload_call}
use Rattle.run_law.specs.Server.{Server}
use Rattle.run_law.specs.declared.plan.Plan.{Plan}
use Rattle.run_law.specs.declared.status.Status.{Status}
use Rattle.run_law.specs.declared.status.Status.TheVariants.{ConfFault, ConfRefused, ConfTooLarge, PatternRefused}

-- what holds where patterns are left, where the configuration is not taken, and where nothing happens
module _ (P : Run → Type 0) (left_to_make : Settings → List Pattern → Run → Run) (untaken : Status → Run → Run) (r : Run)
    (left : (settings : Settings) (ps : List Pattern) → P (left_to_make settings ps r)) (not : (status : Status) → IsUntaken status → P (untaken status r)) (stays : P r) where
  read_by : (o : Result Settings ConfError) → P (read_as left_to_make untaken o r)
  read_by (Ok settings) = left settings (patterns_of settings.defs)
  read_by (Err error) = not (ConfRefused error) tt

  pub tree_by : (answer : TreeAnswer) → P (reads_tree left_to_make untaken answer r)
  tree_by (Tree tree) = read_by (conf tree)
  tree_by TreeFailed = not ConfFault tt
  tree_by TreeTooLarge = not ConfTooLarge tt
  tree_by TreeNoMemory = stays

  one_by : (answer : MakeAnswer) (settings : Settings) (p : Pattern) (ps : List Pattern) → P (makes_one left_to_make untaken answer settings p ps r)
  one_by Built settings p ps = left settings ps
  one_by WasSyntax settings p ps = not _ tt
  one_by WasTooBig settings p ps = not _ tt

  pub makes_by : (ps : List Pattern) (answer : MakeAnswer) (settings : Settings) → P (makes_next left_to_make untaken ps answer settings r)
  makes_by [] answer settings = stays
  makes_by (p ∷ ps) answer settings = one_by answer settings p ps

-- what holds where a path is left, and with the paths that were found
module _ (P : Run → Type 0) (at_names : Settings → Naming → Server → Point) (found : List (List ℕ) → Defs → Server → Run → Run) (s : Server) (r : Run)
    (on : (before : List (List ℕ)) (settings : Settings) (naming : Naming) → P (brings (record { before = before; what = None; behind = [] }) (at_names settings naming) s r))
    (with_found : (before : List (List ℕ)) (defs : Defs) → P (found before defs s r)) where
  pub names_by : (before : List (List ℕ)) (settings : Settings) (naming : Naming) (left : List Path) → P (names_next at_names found before settings naming left s r)
  names_by before settings naming [] = with_found before (with_paths settings.defs naming.found)
  names_by before settings naming (p ∷ ps) = on before settings naming

-- ---- calls of a reload

-- an event that reads no configuration, builds no pattern and lists no names is not its call
module _ (event : Event) (tree : (root : List ℕ) → Makes (AskTree root) event → ⊥) (make : (text : List ℕ) → Makes (AskMake text) event → ⊥) (names : (dir : List ℕ) → Makes (AskNames dir) event → ⊥) where
  make_none : (left : List Pattern) → IsNext (make_call left) event → ⊥
  make_none [] next = next
  make_none (p ∷ ps) next = make p.text next

  names_none : (left : List Path) → IsNext (names_call left) event → ⊥
  names_none [] next = next
  names_none (p ∷ ps) next = names _ next

  pub reload_none : (plan : Plan) (reading : Rereading) → IsNext (reload_call plan reading) event → ⊥
  reload_none plan OfTree next = tree plan.root next
  reload_none plan (OfMakes settings left) next = make_none left next
  reload_none plan (OfNames settings naming) next = names_none naming.left next
