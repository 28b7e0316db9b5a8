-- A configuration that is read again, from its tree to what comes of it.
use Rattle.std.proofs.Common.{ℕ, ◌≡◌, List, [], map, sym, ap, ◌∙◌, subst}
use Rattle.f2b_base.specs.declared.jail.JailDef.{JailDef}
use Rattle.f2b_world.specs.Told.{Standing}
use Rattle.filter_regex.specs.Rules.{Rules, rules_of}
use Rattle.jail_conf.specs.Laws.{AreWithinLimits}
use Rattle.jail_conf.specs.declared.settings.Settings.{Settings}
use Rattle.jail_conf.proofs.AcceptedLemmas.{conf_is_within}
use Rattle.run_law.specs.Law.{Goes, Halts}
use Rattle.run_law.specs.News.{goes_to}
use Rattle.run_law.specs.Points.{Point, Run}
use Rattle.run_law.specs.Reload.{at_reload}
use Rattle.run_law.specs.Server.{Server}
use Rattle.run_law.specs.Stages.{IsAt}
use Rattle.run_law.specs.Turn.{behind_client}
use Rattle.run_law.specs.declared.plan.Plan.{Plan}
use Rattle.run_law.specs.declared.status.Status.{Status}
use Rattle.run_law.specs.declared.status.Status.TheVariants.{NoMemory}
use Rattle.run_law.proofs.PointLemmas.{goes_trans, halts_after}
use Rattle.run_start.specs.Followed.{ArePlaces, rules_in}
use Rattle.run_steps.specs.Keeping.{KeepsRunning}
use Rattle.run_steps.specs.declared.clocked.Clocked.{Clocked}
use Rattle.run_steps.specs.declared.running.Running.{Running}
use Rattle.run_trees.specs.Reads.{Reads, ReadsShort, at_tree, not_taken, with_left}
use Rattle.run_trees.specs.Trees.{IsOfTree}
use Rattle.turn_reload.specs.Leaving.{LeaveFails, Leaves}
use Rattle.turn_reload.specs.Reloading.{ReadsTo, RereadFails, Rereads, TakesRead}
use Rattle.turn_reload.specs.Taking.{TakeFails}
use Rattle.turn_reload.specs.declared.reloaded.Reread.{Reread}
use Rattle.turn_reload.specs.declared.reloaded.Reread.TheVariants.{Untaken, Taken}
use Rattle.turn_reload.proofs.ReaderLemmas.{client_reader}

-- ---- what was read

pub limits_of : (settings : Settings) → IsOfTree settings → AreWithinLimits settings.defs
limits_of settings of = conf_is_within of.tree settings of.defined

-- the filters are those of the jails that there are then
pub can_follow : (ds : List JailDef) (filters : List Rules) (kept : Clocked) → filters ≡ map rules_of ds → rules_in kept ≡ map rules_of ds → ArePlaces kept → (filters ≡ rules_in kept) × ArePlaces kept
can_follow ds filters kept read has places = (read ∙ sym has, places)

pub ruleset taking = (limits_of, can_follow)

-- ---- from the tree on

module _ (a b : Standing) (plan : Plan) (place : ℕ) where
  -- the run is there already
  from_there : (r : Run) (s : Server) (there : Run) → IsAt r (at_reload place s) → Goes a.told b.told (at_tree (client_reader place s) r) there → Goes a.told b.told r there
  from_there r s there at goes =
      let P : Run → Type 0 = λ x. Goes a.told b.told x there in
      subst P (ap (λ (p : Point). goes_to p r) (sym at.point)) goes

  -- memory ran out on the way
  pub reread_short : (before : Running) → ReadsShort a b plan at_tree → RereadFails a b plan place before NoMemory
  reread_short before short = record {
    runs = λ r s is at keeps.
        let P : Run → Type 0 = λ x. Halts a.told b.told x NoMemory in
        subst P (ap (λ (p : Point). goes_to p r) (sym at.point)) (short.runs (client_reader place s) r is at.still);
  }

  module _ (c : Standing) (before : Running) (status : Status) (reads : Reads a b plan at_tree (not_taken status)) where
    -- it was not taken
    pub read_left : (after : Running) → Leaves b c place status before after → ReadsTo KeepsRunning a c plan place (behind_client place) before after
    read_left after leaves = record {
      runs = λ r s is at keeps.
          let k = client_reader place s in
          let one = leaves.runs r s at.still keeps in
          record {
            to = one.to;
            server = one.server;
            goes = goes_trans a.told b.told c.told r (not_taken status k r) one.to (from_there r s (not_taken status k r) at (reads.runs k r is at.still)) one.goes;
            at = one.at;
            keeps = one.keeps;
          };
    }

    pub left_fails : (fault : Status) → LeaveFails b c place status before fault → RereadFails a c plan place before fault
    left_fails fault fails = record {
      runs = λ r s is at keeps.
          let k = client_reader place s in
          halts_after a.told b.told c.told r (not_taken status k r) fault (from_there r s (not_taken status k r) at (reads.runs k r is at.still)) (fails.runs r s at.still keeps);
    }

  module _ (c : Standing) (before : Running) (settings : Settings) (reads : Reads a b plan at_tree (with_left settings [])) where
    -- it was taken
    pub read_taken : (after : Reread) → TakesRead b c settings place before after → Rereads a c plan place before after
    read_taken (Untaken after) takes = absurd takes
    read_taken (Taken filters after) takes = record {
      runs = λ r s is at keeps.
          let k = client_reader place s in
          let one = takes.runs r s at.still keeps in
          record {
            to = one.to;
            server = one.server;
            goes = goes_trans a.told b.told c.told r (with_left settings [] k r) one.to (from_there r s (with_left settings [] k r) at (reads.runs k r is at.still)) one.goes;
            at = one.at;
            keeps = one.keeps;
          };
    }

    pub taken_fails : (status : Status) → TakeFails b c settings place before status → RereadFails a c plan place before status
    taken_fails status fails = record {
      runs = λ r s is at keeps.
          let k = client_reader place s in
          halts_after a.told b.told c.told r (with_left settings [] k r) status (from_there r s (with_left settings [] k r) at (reads.runs k r is at.still)) (fails.runs r s at.still keeps);
    }

pub ruleset reloading = (reread_short, read_left, left_fails, read_taken, taken_fails)
