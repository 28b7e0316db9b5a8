-- From the first reading of the clock to the first turn.
use Rattle.std.proofs.Common.{ℕ, ◌≡◌, ◌≤◌, max, min, false, List, [], ◌∷◌, Option, Some, None, map, refl, sym, ap, ◌∙◌, subst, arith}
use Rattle.ban_journal.specs.Places.{IsPlaced}
use Rattle.f2b_base.specs.Limits.{last_moment, latest_reading}
use Rattle.f2b_base.specs.declared.input.What.{What}
use Rattle.f2b_base.specs.declared.jail.Defs.{Defs}
use Rattle.f2b_base.specs.declared.outside.Reading.{Reading}
use Rattle.f2b_model.specs.Lists.{AllOf}
use Rattle.f2b_model.specs.Nows.{jail_now}
use Rattle.f2b_model.specs.Storable.{IsStorable}
use Rattle.f2b_model.specs.Whole.{Now}
use Rattle.f2b_model.specs.declared.jail_now.JailNow.{JailNow}
use Rattle.f2b_world.specs.Told.{Called, Standing}
use Rattle.f2b_world.specs.declared.event.Event.TheVariants.{Clock as ClockRead}
use Rattle.filter_regex.specs.Rules.{rules_of}
use Rattle.jail_conf.specs.declared.settings.Settings.{Settings}
use Rattle.reconcile.specs.Engines.{EngineNow}
use Rattle.reconcile.specs.Loads.{Loaded}
use Rattle.run_law.specs.Law.{Goes, Halts}
use Rattle.run_law.specs.News.{News, after_news, brings, server_after}
use Rattle.run_law.specs.Points.{AtFirst, AtNames, Run}
use Rattle.run_law.specs.Readers.{Namer}
use Rattle.run_law.specs.Said.{ready_line}
use Rattle.run_law.specs.Server.{Server, begun, jails, moment_of}
use Rattle.run_law.specs.Stages.{Brings, BringFails, IsAt}
use Rattle.run_law.specs.Start.{first_read, first_turn, start_news, starts_with}
use Rattle.run_law.specs.declared.plan.Plan.{Plan}
use Rattle.run_law.specs.declared.status.Status.{Status}
use Rattle.run_law.specs.declared.status.Status.TheVariants.{NoMemory}
use Rattle.run_law.proofs.CauseLemmas.{steady_call, steady_placed}
use Rattle.run_law.proofs.PointLemmas.{goes_trans, halts_after, halts_here, point_goes}
use Rattle.run_start.specs.Configured.{HasJails, configuring}
use Rattle.run_start.specs.First.{BeginFails, Begins, Begun, ConfigureFails, Configures, KeepsBegun}
use Rattle.run_start.specs.Followed.{rules_in}
use Rattle.run_start.specs.Names.{HasFound, NameFails, Names, naming}
use Rattle.run_start.specs.Read.{IsRead}
use Rattle.run_start.specs.declared.named.Named.{Named}
use Rattle.run_start.proofs.JailLemmas.{awake_kept, definitions_kept, rules_has}
use Rattle.run_steps.specs.Keeping.{IsPlacedIn, KeepsClocked}
use Rattle.run_steps.specs.Starting.{KeepsLoaded}
use Rattle.run_steps.specs.declared.clocked.Clocked.{Clocked}

-- ---- the first reading

pub is_read : (engine : EngineNow) (reading : Reading) (kept : Clocked) (core : Now) (at moment : ℕ) → core ≡ engine.core → at ≡ core.jails.at → moment ≡ min reading.secs latest_reading
    → kept.engine ≡ engine → kept.now ≡ max at moment → kept.word ≡ reading.word → IsRead engine reading kept
is_read engine reading kept core at moment same loaded read own now word = record {
  engine = own;
  now = now ∙ ap (λ (n : ℕ). max n moment) (loaded ∙ ap (λ (n : Now). n.jails.at) same) ∙ ap (max engine.core.jails.at) read;
  word = word;
}

-- no moment is later than the last one
pub is_timely : (core : Now) (at moment now secs : ℕ) → IsStorable core → at ≡ core.jails.at → moment ≡ min secs latest_reading → now ≡ max at moment → now ≤ last_moment
is_timely core at moment now secs storable loaded read is = (let early : core.jails.at ≤ last_moment = storable.at in omega (arith, early, loaded, read, is))

pub ruleset reading = (is_read, is_timely)

-- ---- the names behind it

-- a start reads them
abbrev pub start_namer : Namer
start_namer = record {
  at_names = AtNames;
  found = starts_with;
  asks = λ plan settings naming s. refl;
  names = λ settings naming s dir answer r. refl;
  saying = λ settings naming s. tt;
}

module _ (a b : Standing) (settings : Settings) (engine : EngineNow) (reading : Reading) (kept : Clocked) (call : Called a (ClockRead reading) b) (read : IsRead engine reading kept) where
  begins_at : (plan : Plan) (l : Loaded) (r : Run) → r.plan ≡ plan → IsAt r (AtFirst settings l) → Goes a.told b.told r (naming start_namer settings (begun plan.turns l reading) r)
  begins_at plan l r is at =
      let Q : Run → Type 0 = λ x. Goes a.told b.told r x in
      let there : first_read reading settings l r ≡ naming start_namer settings (begun plan.turns l reading) r = λ i. naming start_namer settings (begun ((is i).turns) l reading) r in
      subst Q there (point_goes a b (ClockRead reading) r (AtFirst settings l) call at tt refl)

  begins_keeping : (plan : Plan) (l : Loaded) → KeepsLoaded l engine → KeepsBegun plan (begun plan.turns l reading) kept
  begins_keeping plan l loaded = record {
    clocked = record {
      core = ap (λ (e : EngineNow). e.core) read.engine ∙ loaded.core;
      sound = loaded.sound;
      journal = ap (λ (e : EngineNow). e.journal) read.engine ∙ loaded.journal;
      now = read.now ∙ ap (λ (n : Now). max n.jails.at (moment_of reading)) loaded.core;
      word = read.word;
    };
    logs = refl;
    children = refl;
    clients = refl;
    left = refl;
  }

  -- the journal's places are where they were
  pub placed_first : IsPlaced engine.journal a.told → IsPlacedIn b.told kept
  placed_first placed =
      let P : EngineNow → Type 0 = λ e. IsPlaced e.journal b.told in
      subst P (sym read.engine) (steady_placed engine.journal a b (steady_call a b (ClockRead reading) call) placed)

  -- the configuration was taken behind the last listing
  pub begins : (c d : Standing) (plan : Plan) (named : Named) (after : Clocked) → Names b c settings kept named → HasFound settings.defs named.defs → Configures c d named after
      → Begins a d plan settings engine after
  begins c d plan named after names found configures = record {
    runs = λ r l is at loaded.
        let s = begun plan.turns l reading in
        let one = names.runs start_namer r s at.still (begins_keeping plan l loaded).clocked in
        let two = configures.runs plan settings one.here s one.still found (record { clocked = one.keeps; logs = refl; children = refl; clients = refl; left = refl }) in
        record {
          to = two.to;
          server = two.server;
          goes = goes_trans a.told c.told d.told r _ two.to (goes_trans a.told b.told c.told r _ _ (begins_at plan l r is at) one.goes) two.goes;
          at = two.at;
          keeps = two.keeps;
        };
  }

  -- the run ended on the way
  pub begin_fails : (c : Standing) (plan : Plan) (status : Status) → NameFails b c settings kept status → BeginFails a c plan settings engine status
  begin_fails c plan status fails = record {
    runs = λ r l is at loaded.
        halts_after a.told b.told c.told r _ status (begins_at plan l r is at) (fails.runs start_namer r (begun plan.turns l reading) at.still (begins_keeping plan l loaded).clocked);
  }

  -- the run ended behind the last listing
  pub begin_ends : (c d : Standing) (plan : Plan) (named : Named) (status : Status) → Names b c settings kept named → ConfigureFails c d named status → BeginFails a d plan settings engine status
  begin_ends c d plan named status names fails = record {
    runs = λ r l is at loaded.
        let s = begun plan.turns l reading in
        let one = names.runs start_namer r s at.still (begins_keeping plan l loaded).clocked in
        halts_after a.told c.told d.told r _ status (goes_trans a.told b.told c.told r _ _ (begins_at plan l r is at) one.goes) (fails.runs one.here s one.still one.keeps);
  }

-- the filters of the configuration serve
pub first_rules : (defs found : Defs) (kept : Clocked) → HasFound defs found → HasJails found kept.engine.core → rules_in kept ≡ map rules_of defs.jails
first_rules defs found kept of has =
    let P : Defs → Type 0 = λ ds. HasJails ds kept.engine.core in
    rules_has defs of.paths kept.engine.core (subst P of.is has)

pub ruleset beginning = (placed_first, begins, begin_fails, begin_ends, first_rules)

-- ---- the configuration, and that the server is ready

-- it changes nothing else that is kept
pub record StaysBeside (s t : Server) : Type 0 where
  pub logs : t.logs ≡ s.logs
  pub children : t.children ≡ s.children
  pub clients : t.clients ≡ s.clients
  pub left : t.left ≡ s.left

pub stays_beside : (what : Option What) (s : Server) → StaysBeside s (server_after what s)
stays_beside None s = record { logs = refl; children = refl; clients = refl; left = refl }
stays_beside (Some what) s = record { logs = refl; children = refl; clients = refl; left = refl }

module _ (a b : Standing) (named : Named) (behind slice : List (List ℕ)) (ready : behind ≡ ready_line named.clocked.now ∷ []) (shown : slice ≡ behind) where
  news_is : (s : Server) → KeepsClocked s named.clocked → start_news named.before named.defs s ≡ configuring named.before named.defs slice s
  news_is s keeps =
      let same : slice ≡ ready_line s.now ∷ [] = shown ∙ ready ∙ ap (λ (n : ℕ). ready_line n ∷ []) keeps.now in
      ap (λ (ls : List (List ℕ)). configuring named.before named.defs ls s) (sym same)

  starts_so : (s : Server) (here : Run) → KeepsClocked s named.clocked → starts_with named.before named.defs s here ≡ brings (configuring named.before named.defs slice s) first_turn s here
  starts_so s here keeps = ap (λ (n : News). brings n first_turn s here) (news_is s keeps)

  pub gets_ready : (after : Clocked) → Brings KeepsClocked a b (configuring named.before named.defs slice) named.clocked after → HasJails named.defs after.engine.core → Configures a b named after
  gets_ready after brought has = record {
    runs = λ plan settings here s still found keeps.
        let P : Run → Type 0 = λ r. Begun a b plan settings r after in
        let news = configuring named.before named.defs slice s in
        let t = after_news news s in
        let one = brought.runs here (λ u. here.point) first_turn s (λ u. tt) (record { point = refl; still = still }) keeps.clocked in
        let beside : StaysBeside s t = stays_beside news.what s in
        let core : after.engine.core.jails.jails ≡ map jail_now (jails t) = ap (λ (n : Now). n.jails.jails) one.keeps.core in
        subst P (sym (starts_so s here keeps.clocked)) (record {
          to = one.to;
          server = t;
          goes = one.goes;
          at = one.at;
          keeps = record {
            clocked = one.keeps;
            found = found.paths;
            definitions = definitions_kept (jails t) ∙ ap (map (λ (j : JailNow). j.definition)) (sym core) ∙ has.definitions ∙ ap (λ (ds : Defs). ds.jails) found.is;
            awake = awake_kept (jails t) (subst (AllOf (λ (j : JailNow). j.idle ≡ false)) core has.awake);
            logs = beside.logs ∙ keeps.logs;
            children = beside.children ∙ keeps.children;
            clients = beside.clients ∙ keeps.clients;
            left = beside.left ∙ keeps.left;
          };
        });
  }

  pub unready : (status : Status) → BringFails KeepsClocked a b (configuring named.before named.defs slice) named.clocked status → ConfigureFails a b named status
  unready status fails = record {
    runs = λ here s still keeps.
        let P : Run → Type 0 = λ r. Halts a.told b.told r status in
        subst P (sym (starts_so s here keeps)) (fails.runs here (λ t. here.point) first_turn s (λ t. tt) (record { point = refl; still = still }) keeps);
  }

-- memory ran out before that
pub unready_memory : (a : Standing) (named : Named) → ConfigureFails a a named NoMemory
unready_memory a named = record { runs = λ here s still keeps. halts_here a.told (starts_with named.before named.defs s here) }

pub ruleset getting_ready = (gets_ready, unready, unready_memory)
