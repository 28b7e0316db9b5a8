-- Who reads a configuration: the start of a run, or a client that asked for it. A part of the reading says what it does for each of them.
use Rattle.std.specs.Prelude.{ℕ, ◌≡◌, List, ◌∷◌, Some}
use Rattle.f2b_base.specs.declared.jail.Defs.{Defs}
use Rattle.f2b_base.specs.declared.outside.TreeAnswer.{TreeAnswer}
use Rattle.f2b_world.specs.declared.answer.MakeAnswer.{MakeAnswer}
use Rattle.f2b_world.specs.declared.answer.NamesAnswer.{NamesAnswer}
use Rattle.f2b_world.specs.declared.event.Event.TheVariants.{Config, Make, Names}
use Rattle.jail_conf.specs.declared.settings.Settings.{Settings}
use Rattle.run_law.specs.Calls.{AskMake, AskTree}
use Rattle.run_law.specs.Law.{moved, point_call}
use Rattle.run_law.specs.News.{goes_to}
use Rattle.run_law.specs.Paths.{Naming}
use Rattle.run_law.specs.Patterns.{Pattern}
use Rattle.run_law.specs.Points.{Point, Run}
use Rattle.run_law.specs.Reading.{makes_one, names_call, reads_names, reads_tree}
use Rattle.run_law.specs.Server.{Server}
use Rattle.run_law.specs.Stages.{IsSaying}
use Rattle.run_law.specs.declared.plan.Plan.{Plan}
use Rattle.run_law.specs.declared.status.Status.{Status}

-- Of the tree and its patterns: the points at which it stands, and what comes where patterns are left and where the configuration is not taken.
pub record Reader : Type 0 where
  pub at_tree : Point
  pub at_makes : Settings → Pattern → List Pattern → Point
  pub left_to_make : Settings → List Pattern → Run → Run
  pub untaken : Status → Run → Run
  -- the law at these points
  pub asks_tree : (plan : Plan) → point_call plan at_tree ≡ Some (AskTree plan.root)
  pub reads : (root : List ℕ) (answer : TreeAnswer) (r : Run) → moved at_tree (Config root answer) r ≡ reads_tree left_to_make untaken answer r
  pub stands : (settings : Settings) (p : Pattern) (ps : List Pattern) (r : Run) → left_to_make settings (p ∷ ps) r ≡ goes_to (at_makes settings p ps) r
  pub asks_make : (plan : Plan) (settings : Settings) (p : Pattern) (ps : List Pattern) → point_call plan (at_makes settings p ps) ≡ Some (AskMake p.text)
  pub makes : (settings : Settings) (p : Pattern) (ps : List Pattern) (text : List ℕ) (answer : MakeAnswer) (r : Run)
      → moved (at_makes settings p ps) (Make text answer) r ≡ makes_one left_to_make untaken answer settings p ps r
  -- it matters not from which point they come
  pub from_any : (settings : Settings) (ps : List Pattern) (point : Point) (r : Run) → left_to_make settings ps (goes_to point r) ≡ left_to_make settings ps r
  pub untaken_from_any : (status : Status) (point : Point) (r : Run) → untaken status (goes_to point r) ≡ untaken status r

-- Of the names: the points at which a path is left, and what comes with the paths that were found.
pub record Namer : Type 0 where
  pub at_names : Settings → Naming → Server → Point
  pub found : List (List ℕ) → Defs → Server → Run → Run
  -- the law at these points
  pub asks : (plan : Plan) (settings : Settings) (naming : Naming) (s : Server) → point_call plan (at_names settings naming s) ≡ names_call naming.left
  pub names : (settings : Settings) (naming : Naming) (s : Server) (dir : List ℕ) (answer : NamesAnswer) (r : Run)
      → moved (at_names settings naming s) (Names dir answer) r ≡ reads_names at_names found answer settings naming s r
  pub saying : (settings : Settings) (naming : Naming) (s : Server) → IsSaying (at_names settings naming s)
