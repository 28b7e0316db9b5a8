-- Who reads a configuration is a client of a place.
use Rattle.std.proofs.Common.{ℕ, ◌≡◌, List, [], ◌∷◌, None, refl}
use Rattle.jail_conf.specs.declared.settings.Settings.{Settings}
use Rattle.run_law.specs.News.{goes_to}
use Rattle.run_law.specs.Paths.{Path, first_naming}
use Rattle.run_law.specs.Patterns.{Pattern}
use Rattle.run_law.specs.Points.{OfMakes, OfTree, AtReload, Point, AtTurn, Run}
use Rattle.run_law.specs.Reading.{names_next}
use Rattle.run_law.specs.Readers.{Namer, Reader}
use Rattle.run_law.specs.Reload.{left_for, names_for, reload_news, reloaded, taken_for, tells_taken, tells_untaken, untaken_for}
use Rattle.run_law.specs.Server.{Server}
use Rattle.run_law.specs.Serving.{point_on, with_clients}
use Rattle.run_law.specs.declared.status.Status.{Status}
use Rattle.run_law.proofs.ReaderLemmas.{brings_any}

module _ (i : ℕ) (s : Server) where
  names_any : (before : List (List ℕ)) (settings : Settings) (left : List Path) (point : Point) (r : Run)
      → names_next (names_for i) (taken_for i) before settings (first_naming settings.defs) left s (goes_to point r) ≡ names_next (names_for i) (taken_for i) before settings (first_naming settings.defs) left s r
  names_any before settings [] point r = brings_any (reload_news before _ s) (reloaded i) (tells_taken i s) point r
  names_any before settings (p ∷ ps) point r = brings_any (record { before = before; what = None; behind = [] }) (names_for i settings (first_naming settings.defs)) s point r

  pub left_any : (settings : Settings) (ps : List Pattern) (point : Point) (r : Run) → left_for i s settings ps (goes_to point r) ≡ left_for i s settings ps r
  left_any settings [] point r = names_any [] settings (first_naming settings.defs).left point r
  left_any settings (p ∷ ps) point r = refl

  pub untaken_any : (status : Status) (point : Point) (r : Run) → untaken_for i s status (goes_to point r) ≡ untaken_for i s status r
  untaken_any status point r = (let x = tells_untaken status i s in brings_any x.news (point_on x.onward) (with_clients x.clients s) point r)

  abbrev pub client_reader : Reader
  client_reader = record {
    at_tree = AtTurn (AtReload OfTree i) s;
    at_makes = λ settings p ps. AtTurn (AtReload (OfMakes settings (p ∷ ps)) i) s;
    left_to_make = left_for i s;
    untaken = untaken_for i s;
    asks_tree = λ plan. refl;
    reads = λ root answer r. refl;
    stands = λ settings p ps r. refl;
    asks_make = λ plan settings p ps. refl;
    makes = λ settings p ps text answer r. refl;
    from_any = left_any;
    untaken_from_any = untaken_any;
  }

abbrev pub client_namer : ℕ → Namer
client_namer i = record {
  at_names = names_for i;
  found = taken_for i;
  asks = λ plan settings naming s. refl;
  names = λ settings naming s dir answer r. refl;
  saying = λ settings naming s. tt;
}
