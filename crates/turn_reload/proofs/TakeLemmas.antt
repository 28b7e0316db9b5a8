-- A configuration that is taken, and what is kept behind it.
use Rattle.std.proofs.Common.{ℕ, ◌≡◌, false, List, [], ◌∷◌, length, map, refl, sym, ap, ◌∙◌, subst}
use Rattle.client_table.specs.Clients.{Client, answered, changed_at}
use Rattle.f2b_model.specs.Lists.{AllOf}
use Rattle.f2b_model.specs.Nows.{jail_now}
use Rattle.f2b_model.specs.Whole.{Now}
use Rattle.f2b_model.specs.declared.jail_now.JailNow.{JailNow}
use Rattle.f2b_world.specs.Told.{Standing}
use Rattle.jail_conf.specs.declared.settings.Settings.{Settings}
use Rattle.log_set.specs.Logs.{AreLogs}
use Rattle.log_set.specs.declared.log.Log.{Log}
use Rattle.run_law.specs.Law.{Goes, Halts}
use Rattle.run_law.specs.News.{after_news, brings, server_after}
use Rattle.run_law.specs.Points.{Run}
use Rattle.run_law.specs.Reload.{left_for, reloaded, taken_for, tells_taken}
use Rattle.run_law.specs.Said.{reloaded_line}
use Rattle.run_law.specs.Server.{Server, following, jails}
use Rattle.run_law.specs.Stages.{Brings, BringFails, IsSaying}
use Rattle.run_law.specs.declared.status.Status.{Status}
use Rattle.run_law.specs.declared.status.Status.TheVariants.{NoMemory}
use Rattle.run_law.proofs.EntryLemmas.{saying_behind}
use Rattle.run_law.proofs.PointLemmas.{goes_trans, halts_after, halts_here}
use Rattle.run_start.specs.Configured.{HasJails, configuring}
use Rattle.run_start.specs.Names.{NameFails, Names}
use Rattle.run_start.specs.declared.named.Named.{Named}
use Rattle.run_start.proofs.BeginLemmas.{StaysBeside, first_rules, stays_beside}
use Rattle.run_start.proofs.JailLemmas.{awake_kept}
use Rattle.run_steps.specs.Keeping.{KeepsClocked}
use Rattle.run_steps.specs.declared.clocked.Clocked.{Clocked}
use Rattle.run_steps.specs.declared.running.Running.{Running}
use Rattle.turn_reload.specs.Taking.{ConfigureFails, Configures, TakeFails, Takes}
use Rattle.turn_reload.specs.Telling.{ok_answer}
use Rattle.turn_reload.specs.declared.reloaded.Reloaded.{Reloaded}
use Rattle.turn_reload.proofs.LeaveLemmas.{length-changed_at}
use Rattle.turn_reload.proofs.ReaderLemmas.{client_namer}

-- ---- the configuration alone

saying_reloaded : (place : ℕ) (s : Server) → IsSaying (reloaded place s)
saying_reloaded place s = saying_behind place (following s)

-- what takes inputs knows no client
keeps_clocked : (place : ℕ) (s : Server) (kept : Clocked) → KeepsClocked s kept → KeepsClocked (tells_taken place s) kept
keeps_clocked place s kept keeps = record { core = keeps.core; sound = keeps.sound; journal = keeps.journal; now = keeps.now; word = keeps.word }

-- its paths could not be found
pub names_fail : (a b : Standing) (settings : Settings) (kept : Clocked) (status : Status) → NameFails a b settings kept status → ConfigureFails a b settings kept status
names_fail a b settings kept status fails = record { runs = λ place r s still keeps. fails.runs (client_namer place) r s still keeps }

module _ (a b : Standing) (settings : Settings) (kept : Clocked) (named : Named) (names : Names a b settings kept named) where
  -- memory ran out behind them
  pub named_memory : ConfigureFails a b settings kept NoMemory
  named_memory = record {
    runs = λ place r s still keeps.
        let one = names.runs (client_namer place) r s still keeps in
        halts_after a.told b.told b.told _ _ NoMemory one.goes (halts_here b.told _);
  }

  module _ (lines slice : List (List ℕ)) (lines_are : lines ≡ reloaded_line named.clocked.now ∷ []) (shown : slice ≡ lines) where
    taken_so : (place : ℕ) (r : Run) (s : Server) → KeepsClocked s named.clocked
        → taken_for place named.before named.defs s r ≡ brings (configuring named.before named.defs slice (tells_taken place s)) (reloaded place) (tells_taken place s) r
    taken_so place r s keeps =
        let same : reloaded_line s.now ∷ [] ≡ slice = ap (λ (n : ℕ). reloaded_line n ∷ []) (sym keeps.now) ∙ sym lines_are ∙ sym shown in
        ap (λ (ls : List (List ℕ)). brings (configuring named.before named.defs ls s) (reloaded place) (tells_taken place s) r) same

    -- it was taken
    pub configures : (c : Standing) (after : Clocked) → Brings KeepsClocked b c (configuring named.before named.defs slice) named.clocked after → HasJails named.defs after.engine.core
        → Configures a c settings kept after
    configures c after brought has = record {
      runs = λ place r s still keeps.
          let one = names.runs (client_namer place) r s still keeps in
          let t = tells_taken place s in
          let news = configuring named.before named.defs slice t in
          let two = brought.runs one.here (λ u. one.here.point) (reloaded place) t (saying_reloaded place) (record { point = refl; still = one.still }) (keeps_clocked place s named.clocked one.keeps) in
          let P : Run → Type 0 = λ x. Goes b.told c.told x two.to in
          let core : after.engine.core.jails.jails ≡ map jail_now (jails (after_news news t)) = ap (λ (n : Now). n.jails.jails) two.keeps.core in
          record {
            to = two.to;
            what = news.what;
            goes = goes_trans a.told b.told c.told _ _ two.to one.goes (subst P (sym (taken_so place one.here s one.keeps)) two.goes);
            at = two.at;
            keeps = two.keeps;
            awake = awake_kept (jails (after_news news t)) (subst (AllOf (λ (j : JailNow). j.idle ≡ false)) core has.awake);
          };
    }

    -- it could not be taken
    pub configure_fails : (c : Standing) (status : Status) → BringFails KeepsClocked b c (configuring named.before named.defs slice) named.clocked status → ConfigureFails a c settings kept status
    configure_fails c status fails = record {
      runs = λ place r s still keeps.
          let one = names.runs (client_namer place) r s still keeps in
          let t = tells_taken place s in
          let P : Run → Type 0 = λ x. Halts b.told c.told x status in
          halts_after a.told b.told c.told _ _ status one.goes
          (subst P (sym (taken_so place one.here s one.keeps))
          (fails.runs one.here (λ u. one.here.point) (reloaded place) t (saying_reloaded place) (record { point = refl; still = one.still }) (keeps_clocked place s named.clocked one.keeps)));
    }

pub ruleset taking_configuration = (names_fail, named_memory, configures, configure_fails, first_rules)

-- ---- with all that is kept

module _ (a b : Standing) (settings : Settings) (place : ℕ) (before : Running) where
  pub takes : (after : Clocked) (to : Reloaded) → Configures a b settings before.clocked after → to.clocked ≡ after → to.logs.items ≡ before.logs.logs → to.children ≡ before.children
      → to.clients ≡ changed_at place (answered ok_answer) before.clients → to.left ≡ before.left → Takes a b settings place before to
  takes after to configures clocked logs children clients left = record {
    runs = λ r s still keeps.
        let one = configures.runs place r s still keeps.clocked in
        let t = server_after one.what (tells_taken place s) in
        let beside : StaysBeside (tells_taken place s) t = stays_beside one.what (tells_taken place s) in
        let P : List Log → Type 0 = λ ls. AreLogs ls s.logs in
        record {
          to = one.to;
          server = t;
          goes = one.goes;
          at = one.at;
          keeps = record {
            clocked = subst (KeepsClocked t) (sym clocked) one.keeps;
            awake = one.awake;
            logs = subst (AreLogs to.logs.items) (sym beside.logs) (subst P (sym logs) keeps.logs.logs);
            children = children ∙ keeps.children ∙ sym beside.children;
            clients = clients ∙ ap (changed_at place (answered ok_answer)) keeps.clients ∙ sym beside.clients;
            left = left ∙ keeps.left ∙ sym beside.left;
          };
        };
  }

  pub take_fails : (status : Status) → ConfigureFails a b settings before.clocked status → TakeFails a b settings place before status
  take_fails status fails = record { runs = λ r s still keeps. fails.runs place r s still keeps.clocked }

-- memory ran out before that
pub take_memory : (a : Standing) (settings : Settings) (place : ℕ) (before : Running) → TakeFails a a settings place before NoMemory
take_memory a settings place before = record { runs = λ r s still keeps. halts_here a.told (left_for place s settings [] r) }

-- as many clients are there as before
pub taken_many : (place : ℕ) (before after : List Client) → after ≡ changed_at place (answered ok_answer) before → length after ≡ length before
taken_many place before after is = ap length is ∙ length-changed_at place (answered ok_answer) before

pub ruleset taking = (takes, take_fails, take_memory, taken_many)
