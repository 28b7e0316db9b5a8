-- The walk over the paths, from its beginning to its end.
use Rattle.std.proofs.Common.{◌≡◌, List, [], sym, ap, ◌∙◌, subst}
use Rattle.f2b_world.specs.Told.{Standing}
use Rattle.jail_conf.specs.declared.settings.Settings.{Settings}
use Rattle.run_law.specs.Law.{Goes, Halts}
use Rattle.run_law.specs.Paths.{Path, with_paths}
use Rattle.run_law.specs.Points.{Run}
use Rattle.run_law.specs.Readers.{Namer}
use Rattle.run_law.specs.Reading.{names_from, names_next}
use Rattle.run_law.specs.Server.{Server}
use Rattle.run_law.specs.declared.status.Status.{Status}
use Rattle.run_law.specs.declared.status.Status.TheVariants.{NoMemory}
use Rattle.run_law.proofs.PointLemmas.{halts_here}
use Rattle.run_start.specs.Names.{HasFound, IsOfWalk, NameFails, Names, naming}
use Rattle.run_start.specs.Read.{IsFirstWalk}
use Rattle.run_start.specs.Walks.{WalkFails, WalksTo, walking}
use Rattle.run_start.specs.declared.named.Named.{Named}
use Rattle.run_start.specs.declared.walk.PathWalk.{PathWalk}
use Rattle.run_start.proofs.WalkLemmas.{walk_fails_on, walk_memory}
use Rattle.run_steps.specs.Keeping.{IsPlacedIn, KeepsClocked}
use Rattle.run_steps.specs.declared.clocked.Clocked.{Clocked}

module _ (settings : Settings) (kept : Clocked) (walk : PathWalk) (first : IsFirstWalk settings kept walk) where
  -- the walk begins where the reading comes to the names
  begins_so : (k : Namer) (s : Server) (here : Run) → naming k settings s here ≡ walking k settings walk s here
  begins_so k s here = λ i. names_from k.at_names k.found (sym first.before i) settings (sym first.naming i) s here

  keeps_so : (s : Server) → KeepsClocked s kept → KeepsClocked s walk.clocked
  keeps_so s keeps = subst (KeepsClocked s) (sym first.clocked) keeps

  pub first_placed : (a : Standing) → IsPlacedIn a.told kept → IsPlacedIn a.told walk.clocked
  first_placed a placed = subst (IsPlacedIn a.told) (sym first.clocked) placed

  -- it ended
  pub walked : (a b : Standing) (last : PathWalk) (to : Named) → WalksTo a b settings walk last → last.left.now ≡ [] → IsOfWalk settings last to → Names a b settings kept to
  walked a b last to walks none is = record {
    runs = λ k here s still keeps.
        let one = walks.runs k here s still (keeps_so s keeps) in
        let P : Run → Type 0 = λ r. Goes a.told b.told r (k.found to.before to.defs s one.here) in
        let Q : Run → Type 0 = λ r. Goes a.told b.told (walking k settings walk s here) r in
        let all : walking k settings last s one.here ≡ k.found last.before (with_paths settings.defs last.found) s one.here =
        ap (λ (left : List Path). names_next k.at_names k.found last.before settings (record { found = last.found; left = left }) left s one.here) none in
        let same : k.found last.before (with_paths settings.defs last.found) s one.here ≡ k.found to.before to.defs s one.here = λ i. k.found (sym is.before i) (sym is.defs i) s one.here in
        record {
          here = one.here;
          still = one.still;
          goes = subst P (sym (begins_so k s here)) (subst Q (all ∙ same) one.goes);
          keeps = subst (KeepsClocked s) (sym is.clocked) one.keeps;
        };
  }

  -- the run ended on the way
  pub walk_fails : (a b : Standing) (status : Status) → WalkFails a b settings walk status → NameFails a b settings kept status
  walk_fails a b status fails = record {
    runs = λ k here s still keeps.
        let P : Run → Type 0 = λ r. Halts a.told b.told r status in
        subst P (sym (begins_so k s here)) (fails.runs k here s still (keeps_so s keeps));
  }

  -- memory ran out at its end
  pub walk_unended : (a b : Standing) (last : PathWalk) → WalksTo a b settings walk last → NameFails a b settings kept NoMemory
  walk_unended a b last walks = walk_fails a b NoMemory (walk_fails_on a b b settings walk last NoMemory walks (walk_memory b settings last))

-- memory ran out before it began
pub unbegun : (a : Standing) (settings : Settings) (kept : Clocked) → NameFails a a settings kept NoMemory
unbegun a settings kept = record { runs = λ k here s still keeps. halts_here a.told (naming k settings s here) }

pub found_paths : (settings : Settings) (last : PathWalk) (to : Named) → IsOfWalk settings last to → HasFound settings.defs to.defs
found_paths settings last to is = record { paths = last.found; is = is.defs }

pub placed_end : (b : Standing) (settings : Settings) (last : PathWalk) (to : Named) → IsOfWalk settings last to → IsPlacedIn b.told last.clocked → IsPlacedIn b.told to.clocked
placed_end b settings last to is placed = subst (IsPlacedIn b.told) (sym is.clocked) placed

pub ruleset naming_all = (first_placed, walked, walk_fails, walk_unended, unbegun, found_paths, placed_end)
