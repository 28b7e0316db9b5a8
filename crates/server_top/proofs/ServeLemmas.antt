-- A run from its plan to its first turn.
use Rattle.std.proofs.Common.{ℕ, ◌≡◌, List, [], Option, Some, None, refl, sym, ◌∙◌, subst}
use Rattle.f2b_world.specs.Told.{Adds, History, Standing}
use Rattle.jail_conf.specs.Laws.{AreWithinLimits}
use Rattle.jail_conf.specs.declared.settings.Settings.{Settings}
use Rattle.jail_conf.proofs.AcceptedLemmas.{conf_is_within}
use Rattle.reconcile.specs.Engines.{EngineNow}
use Rattle.reconcile.specs.Loads.{AreSound}
use Rattle.run_law.specs.Law.{Halts, opening}
use Rattle.run_law.specs.Points.{AtStore, AtTree, Over, Run}
use Rattle.run_law.specs.Stages.{IsSteady}
use Rattle.run_law.specs.Stops.{HoldsThese}
use Rattle.run_law.specs.declared.plan.Plan.{Plan}
use Rattle.run_law.specs.declared.status.Status.{Status}
use Rattle.run_law.proofs.LongLemmas.{Any}
use Rattle.run_law.proofs.PointLemmas.{goes_trans, halts_after, over_ends, paid_call}
use Rattle.run_load.specs.Listening.{ListenFails, Listens}
use Rattle.run_load.specs.Loading.{IsUnloaded, LoadFails, LoadsTo}
use Rattle.run_start.specs.First.{BeginFails, Begins}
use Rattle.run_steps.proofs.StartLemmas.{holds_on}
use Rattle.run_steps.specs.Starting.{Arrives, LeavesSlots, StartFails, Starts}
use Rattle.run_steps.specs.declared.clocked.Clocked.{Clocked}
use Rattle.run_trees.specs.Trees.{IsOfTree}
use Rattle.server_top.specs.Prepared.{OpensTo, PlanHalts, Prepares, ResumeFails, Resumes}

-- ---- worlds that do not tell

-- a history that is told was told before
pub told_before : (old new : Option History) → Adds old new Any → (h : History) → new ≡ Some h → (g : History) × (old ≡ Some g)
told_before old None on h told = absurd (let e : None ≡ Some h = told in cc)
told_before old (Some k) on h told = (on.0, on.2)

-- of a history that is not told any more a run has halted
halts_untold : (old : Option History) (r : Run) (status : Status) → Halts old None r status
halts_untold old r status =
    let last : Run = record r { point = Over status; owed = []; writes = [] } in
    record { last = last; goes = record { events = tt }; ends = over_ends status last (record { point = refl; none = paid_call r.plan (Over status) }) }

pub halts_by : (old new : Option History) (r : Run) (status : Status) → ((h : History) → new ≡ Some h → Halts old new r status) → Halts old new r status
halts_by old None r status halts = halts_untold old r status
halts_by old (Some h) r status halts = halts h refl

-- ---- from the naming of the slots on

-- a configuration that was accepted is within its limits
pub limits_of : (settings : Settings) → IsOfTree settings → AreWithinLimits settings.defs
limits_of settings of = conf_is_within of.tree settings of.defined

-- the slots could not be loaded
pub load_fails : (a b : Standing) (plan : Plan) (settings : Settings) (status : Status) → LoadFails a b plan settings status → ResumeFails a b plan settings status
load_fails a b plan settings status fails = record { runs = λ r at un sound. fails.runs r at un }

module _ (a b c : Standing) (plan : Plan) (settings : Settings) (engine : EngineNow) (loads : LoadsTo a b plan settings engine) (steady : IsSteady b c) where
  -- the socket behind them
  pub opens : Listens b c settings → OpensTo a c plan settings engine
  opens listens = record {
    runs = λ r at un sound h told.
        let t = told_before b.told c.told steady.history h told in
        let one = loads.runs r at un sound t.0 t.1 in
        let two = (listens.starts plan one.comes).runs one.arrives.to one.arrives.asked one.arrives.at in
        record {
          comes = one.comes;
          arrives = record {
            to = two.to;
            goes = goes_trans a.told b.told c.told r one.arrives.to two.to one.arrives.goes two.goes;
            at = two.at;
            asked = two.asked;
            slots = two.slots ∙ one.arrives.slots;
            unclosed = two.unclosed ∙ one.arrives.unclosed;
          };
          keeps = one.keeps;
        };
  }

  pub listen_fails : (status : Status) → ListenFails b c settings status → ResumeFails a c plan settings status
  listen_fails status fails = record {
    runs = λ r at un sound. halts_by a.told c.told r status (λ h told.
        let t = told_before b.told c.told steady.history h told in
        let one = loads.runs r at un sound t.0 t.1 in
        halts_after a.told b.told c.told r one.arrives.to status one.arrives.goes ((fails.fails plan one.comes).runs one.arrives.to one.arrives.asked one.arrives.at));
  }

pub ruleset letting_in = (load_fails, opens, listen_fails)

module _ (a b c : Standing) (plan : Plan) (settings : Settings) (engine : EngineNow) (opened : OpensTo a b plan settings engine) (steady : IsSteady b c) where
  pub resumes : (kept : Clocked) → Begins b c plan settings engine kept → Resumes a c plan settings kept
  resumes kept begins = record {
    runs = λ r at un sound h told.
        let t = told_before b.told c.told steady.history h told in
        let one = opened.runs r at un sound t.0 t.1 in
        let begun = begins.runs one.arrives.to one.comes one.arrives.asked one.arrives.at one.keeps in
        record {
          to = begun.to;
          server = begun.server;
          goes = goes_trans a.told b.told c.told r one.arrives.to begun.to one.arrives.goes begun.goes;
          at = begun.at;
          keeps = begun.keeps;
        };
  }

  pub resume_fails_on : (status : Status) → BeginFails b c plan settings engine status → ResumeFails a c plan settings status
  resume_fails_on status fails = record {
    runs = λ r at un sound. halts_by a.told c.told r status (λ h told.
        let t = told_before b.told c.told steady.history h told in
        let one = opened.runs r at un sound t.0 t.1 in
        halts_after a.told b.told c.told r one.arrives.to status one.arrives.goes (fails.runs one.arrives.to one.comes one.arrives.asked one.arrives.at one.keeps));
  }

pub ruleset resuming = (limits_of, resumes, resume_fails_on)

-- ---- the whole start

-- the configuration cannot be had
pub fails_read : (a b : Standing) (plan : Plan) (status : Status) → StartFails a b plan AtTree status → PlanHalts a b plan status
fails_read a b plan status fails = record {
  runs = λ slots holds sound. fails.runs (opening plan slots) refl (record { point = refl; still = record { written = refl; paid = refl } });
}

module _ (a b c : Standing) (plan : Plan) (settings : Settings) (starts : Starts a b plan AtTree (AtStore settings)) (leaves : LeavesSlots a b) where
  arrived : (slots : ℕ → List ℕ) → Arrives a b plan (opening plan slots) (AtStore settings)
  arrived slots = starts.runs (opening plan slots) refl (record { point = refl; still = record { written = refl; paid = refl } })

  unloaded : (slots : ℕ → List ℕ) → HoldsThese slots a.told → IsUnloaded b.told plan (arrived slots).to
  unloaded slots holds =
      let one = arrived slots in
      let P : (ℕ → List ℕ) → Type 0 = λ s. HoldsThese s b.told in
      record { asked = one.asked; unclosed = one.unclosed; holds = subst P (sym one.slots) (holds_on slots a b leaves holds) }

  sound_still : (slots : ℕ → List ℕ) → AreSound slots → AreSound (arrived slots).to.slots
  sound_still slots sound = subst AreSound (sym (arrived slots).slots) sound

  pub prepares : (kept : Clocked) → Resumes b c plan settings kept → Prepares a c plan kept
  prepares kept resumes = record {
    settings = settings;
    runs = λ slots holds sound h told.
        let one = arrived slots in
        let begun = resumes.runs one.to one.at (unloaded slots holds) (sound_still slots sound) h told in
        record {
          to = begun.to;
          server = begun.server;
          goes = goes_trans a.told b.told c.told (opening plan slots) one.to begun.to one.goes begun.goes;
          at = begun.at;
          keeps = begun.keeps;
        };
  }

  pub fails_on : (status : Status) → ResumeFails b c plan settings status → PlanHalts a c plan status
  fails_on status fails = record {
    runs = λ slots holds sound.
        let one = arrived slots in
        halts_after a.told b.told c.told (opening plan slots) one.to status one.goes (fails.runs one.to one.at (unloaded slots holds) (sound_still slots sound));
  }

pub ruleset preparing = (fails_read, prepares, fails_on)
