-- The slots of a run are named, and what they hold is loaded, or the run ends.
use Rattle.std.proofs.Common.{ℕ, ◌≡◌, Some, Result, Ok, Err, IfOk, refl, sym, ap, ◌∙◌, subst}
use Rattle.std.specs.Prelude.{IfErr}
use Rattle.f2b_world.specs.Told.{Called, History, Standing}
use Rattle.f2b_world.specs.declared.answer.StoreAnswer.TheVariants.{Kept}
use Rattle.f2b_world.specs.declared.event.Event.{Event}
use Rattle.f2b_world.specs.declared.event.Event.TheVariants.{StoreAt}
use Rattle.jail_conf.specs.declared.settings.Settings.{Settings}
use Rattle.reconcile.specs.Engines.{EngineNow}
use Rattle.reconcile.specs.Loads.{AreSound, Loaded, loaded}
use Rattle.run_law.specs.Law.{Goes}
use Rattle.run_law.specs.News.{goes_to}
use Rattle.run_law.specs.Points.{AtListen, AtStore, Run}
use Rattle.run_law.specs.Stages.{HasCause, IsAt}
use Rattle.run_law.specs.Start.{loads, store_named}
use Rattle.run_law.specs.declared.plan.Plan.{Plan}
use Rattle.run_law.specs.declared.status.Status.{Status}
use Rattle.run_law.specs.declared.status.Status.TheVariants.{NoMemory}
use Rattle.run_law.proofs.CauseLemmas.{cause_later, steady_call}
use Rattle.run_law.proofs.PointLemmas.{goes_trans, halts_after, halts_here, point_goes}
use Rattle.run_steps.proofs.StartLemmas.{holds_on, leaves_call}
use Rattle.run_load.specs.Loading.{IsUnloaded, LoadFails, Loads, LoadsTo, ReadFails, ReadsTo}
use Rattle.run_load.proofs.ReadLemmas.{reads_leave, reads_stay}
use Rattle.slot_reader.specs.Reads.{content}

module _ (a b : Standing) (plan : Plan) (settings : Settings) (call : Called a (StoreAt settings.socket Kept) b) where
  abbrev event : Event
  event = StoreAt settings.socket Kept

  named_goes : (r : Run) → IsAt r (AtStore settings) → Goes a.told b.told r (store_named settings r)
  named_goes r at = point_goes a b event r (AtStore settings) call at refl refl

  -- naming them leaves them alone
  named_holds : (r : Run) → IsUnloaded a.told plan r → IsUnloaded b.told plan r
  named_holds r is = record { asked = is.asked; unclosed = is.unclosed; holds = holds_on r.slots a b (leaves_call a b event tt call) is.holds }

  module _ (c : Standing) where
    named_loads : (engine : EngineNow) → ReadsTo b c plan.limit engine → (r : Run) → IsAt r (AtStore settings) → IsUnloaded a.told plan r → AreSound r.slots → (h : History) → c.told ≡ Some h → Loads a c plan settings engine r
    named_loads engine read r at is sound h told =
        let held : r.slots ≡ content h = (holds_on r.slots b c (reads_leave b c read.reads) (named_holds r is).holds).each h told in
        let own = read.comes h told in
        let comes : loaded plan.limit r.slots ≡ Ok own.comes = ap (loaded plan.limit) held ∙ own.loads in
        let first : Run = goes_to (AtListen settings own.comes) r in
        let named : store_named settings r ≡ first = ap (λ (o : Result Loaded (ℕ × ℕ)). loads o settings r) (ap (λ (p : Plan). loaded p.limit r.slots) is.asked ∙ comes) in
        let sound_there : AreSound (content h) = subst AreSound held sound in
        record {
          comes = own.comes;
          loads = comes;
          arrives = record {
            to = first;
            goes = goes_trans a.told b.told c.told r first first (subst (λ (x : Run). Goes a.told b.told r x) named (named_goes r at)) (reads_stay b c first tt read.reads);
            at = record { point = refl; still = record { written = at.still.written; paid = at.still.paid } };
            asked = is.asked;
            slots = refl;
            unclosed = refl;
          };
          keeps = record { core = own.core sound_there; sound = own.sound sound_there; journal = own.journal };
        }

    -- what is read of them is loaded
    pub loads_all : (result : Result EngineNow Status) → IfOk result (ReadsTo b c plan.limit) → IfOk result (LoadsTo a c plan settings)
    loads_all (Ok engine) read = record { runs = λ r at is sound h told. named_loads engine read r at is sound h told }
    loads_all (Err status) read = tt

    -- where they are not read the run ends
    pub load_fails : (result : Result EngineNow Status) → IfErr result (ReadFails b c plan) → IfErr result (LoadFails a c plan settings)
    load_fails (Ok engine) fails = tt
    load_fails (Err status) fails = record {
      runs = λ r at is. halts_after a.told b.told c.told r (store_named settings r) status (named_goes r at) (fails.runs settings r at.still (named_holds r is));
    }

    -- for the same cause
    pub load_caused : (result : Result EngineNow Status) → IfErr result (HasCause b c) → IfErr result (HasCause a c)
    load_caused (Ok engine) cause = tt
    load_caused (Err status) cause = cause_later a b c status (steady_call a b event call) cause

-- memory ran out before they were named
pub load_unnamed : (a b : Standing) (plan : Plan) (settings : Settings) → b ≡ a → LoadFails a b plan settings NoMemory
load_unnamed a b plan settings same =
    let P : Standing → Type 0 = λ s. LoadFails a s plan settings NoMemory in
    subst P (sym same) (record { runs = λ r at is. halts_here a.told r })

pub ruleset naming = (loads_all, load_fails, load_caused, load_unnamed)
