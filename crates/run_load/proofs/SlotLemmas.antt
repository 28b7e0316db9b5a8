-- The slots of a run that were named are read: they were loaded, or the run ends.
use Rattle.std.proofs.Common.{ℕ, ◌≡◌, ◌++◌, false, true, List, [], ◌∷◌, Option, Some, None, Result, Ok, Err, refl, sym, ap, ◌∙◌, subst}
use Rattle.f2b_base.specs.declared.input.Input.{Input}
use Rattle.f2b_world.specs.Told.{History, Standing}
use Rattle.ban_journal.specs.declared.load_error.LoadError.{LoadError}
use Rattle.ban_journal.specs.declared.load_error.LoadError.TheVariants.{DiskFault as LostDisk, NotAJournal as NoSuchJournal, NoMemory as NoRoom}
use Rattle.ban_journal.specs.Loads.{is_fault}
use Rattle.jail_conf.specs.declared.settings.Settings.{Settings}
use Rattle.reconcile.specs.Engines.{EngineNow}
use Rattle.reconcile.specs.LoadedEngines.{IsEngineLoaded}
use Rattle.reconcile.specs.Loads.{Loaded, loaded}
use Rattle.reconcile.specs.Opens.{WhereTold}
use Rattle.run_law.specs.Disk.{IsLoading, broken, moment_in}
use Rattle.run_law.specs.Law.{Goes}
use Rattle.run_law.specs.News.{refused}
use Rattle.run_law.specs.Points.{Over, Run}
use Rattle.run_law.specs.Refusals.{status_lines}
use Rattle.run_law.specs.Stages.{HasCause, IsRefusedAs, IsStill, IsSteady, Refuses}
use Rattle.run_law.specs.Start.{loads, store_named}
use Rattle.run_law.specs.declared.plan.Plan.{Plan}
use Rattle.run_law.specs.declared.status.Status.{Status}
use Rattle.run_law.specs.declared.status.Status.TheVariants.{DiskFault, NoMemory, NotAJournal}
use Rattle.run_law.proofs.CauseLemmas.{refused_cause}
use Rattle.run_law.proofs.PointLemmas.{halts_after, halts_here}
use Rattle.run_steps.proofs.StartLemmas.{holds_on}
use Rattle.run_load.specs.Loading.{IsEnded, IsUnloaded, ReadFails, ReadsTo, status_of}
use Rattle.run_load.proofs.ReadLemmas.{reads_break, reads_leave, reads_stay, reads_steady}
use Rattle.slot_reader.specs.Reads.{OnlyReads, content}

-- ---- a run whose slots were named

refusal_loading : (slot at : ℕ) → IsLoading (Over (NotAJournal slot at)) (status_lines 0 (NotAJournal slot at))
unfolding status_lines
refusal_loading slot at = tt

-- whatever they come to, they may be read
loads_loading : (outcome : Result Loaded (ℕ × ℕ)) (settings : Settings) (r : Run) → IsStill r → IsLoading (loads outcome settings r).point (loads outcome settings r).owed
loads_loading (Ok l) settings r still = tt
loads_loading (Err place) settings r still =
    subst (λ (lines : List (List ℕ)). IsLoading (Over (NotAJournal place.0 place.1)) (lines ++ status_lines 0 (NotAJournal place.0 place.1))) (sym still.paid) (refusal_loading place.0 place.1)

named_loading : (settings : Settings) (r : Run) → IsStill r → IsLoading (store_named settings r).point (store_named settings r).owed
named_loading settings r still = loads_loading (loaded r.plan.limit r.slots) settings r still

-- the run with nothing left of what would come next
abbrev bare : Run → Run
bare r = record r { owed = []; writes = []; held = [] }

-- a run that had no input breaks as one that is refused before the first reading of the clock, whatever its slots come to
loads_broken : (outcome : Result Loaded (ℕ × ℕ)) (settings : Settings) (r : Run) → r.unclosed ≡ None → broken (loads outcome settings r) ≡ refused 0 DiskFault (bare r)
loads_broken (Ok l) settings r none = ap (λ (o : Option Input). let t : Run = record r { point = Over DiskFault; owed = status_lines (moment_in o) DiskFault; writes = []; held = [] } in t) none
loads_broken (Err place) settings r none = ap (λ (o : Option Input). let t : Run = record r { point = Over DiskFault; owed = status_lines (moment_in o) DiskFault; writes = []; held = [] } in t) none

-- ---- the slots are read

-- to their ends
pub read_all : (a b : Standing) (limit : ℕ) (engine : EngineNow) → OnlyReads false a b → WhereTold b.told (λ g. IsEngineLoaded limit (content g) (Ok engine)) → ReadsTo a b limit engine
read_all a b limit engine reads comes = record { reads = reads; comes = comes }

-- one could not be read
read_broke : (a b c : Standing) (plan : Plan) (status : Status) → OnlyReads true a b → Refuses b c 0 DiskFault status → ReadFails a c plan status
read_broke a b c plan status reads refuses = record {
  runs = λ settings r still is.
      let named = store_named settings r in
      let Q : Run → Type 0 = λ x. Goes a.told b.told named x in
      halts_after a.told b.told c.told named (refused 0 DiskFault (bare r)) status
      (subst Q (loads_broken (loaded r.plan.limit r.slots) settings r is.unclosed) (reads_break a b named (named_loading settings r still) reads))
      (refuses.runs (bare r) (record { written = refl; paid = refl }));
}

-- one is no journal
refused_so : (a b : Standing) (plan : Plan) (slot at : ℕ) → OnlyReads false a b → WhereTold b.told (λ g. IsEngineLoaded plan.limit (content g) (Err (NoSuchJournal slot at))) → (settings : Settings) (r : Run)
    → IsStill r → IsUnloaded a.told plan r → (told : Option History) → b.told ≡ told → Goes a.told told (store_named settings r) (refused 0 (NotAJournal slot at) r)
refused_so a b plan slot at reads none settings r still is None untold = record { events = tt }
refused_so a b plan slot at reads none settings r still is (Some h) told =
    let held : r.slots ≡ content h = (holds_on r.slots a b (reads_leave a b reads) is.holds).each h told in
    let comes : loaded r.plan.limit r.slots ≡ Err (slot, at) = ap (λ (p : Plan). loaded p.limit r.slots) is.asked ∙ ap (loaded plan.limit) held ∙ none h told in
    let Q : Option History → Run → Type 0 = λ o x. Goes a.told o (store_named settings r) x in
    let goes : Q b.told (store_named settings r) = reads_stay a b (store_named settings r) (named_loading settings r still) reads in
    subst (Q (Some h)) (ap (λ (o : Result Loaded (ℕ × ℕ)). loads o settings r) comes) (subst (λ (o : Option History). Q o (store_named settings r)) told goes)

read_none : (a b c : Standing) (plan : Plan) (slot at : ℕ) (status : Status) → OnlyReads false a b → WhereTold b.told (λ g. IsEngineLoaded plan.limit (content g) (Err (NoSuchJournal slot at)))
    → Refuses b c 0 (NotAJournal slot at) status → ReadFails a c plan status
read_none a b c plan slot at status reads none refuses = record {
  runs = λ settings r still is.
      halts_after a.told b.told c.told (store_named settings r) (refused 0 (NotAJournal slot at) r) status (refused_so a b plan slot at reads none settings r still is b.told refl) (refuses.runs r still);
}

-- memory ran out
read_short : (a b : Standing) (plan : Plan) → OnlyReads false a b → ReadFails a b plan NoMemory
read_short a b plan reads = record {
  runs = λ settings r still is.
      let named = store_named settings r in
      halts_after a.told b.told b.told named named NoMemory (reads_stay a b named (named_loading settings r still) reads) (halts_here b.told named);
}

-- the answer of a load, and the runs that end behind it
abbrev failed : LoadError → Result EngineNow LoadError
failed e = Err e

pub read_ended : (a b c : Standing) (plan : Plan) (e : LoadError) (status : Status) → OnlyReads (is_fault (failed e)) a b → WhereTold b.told (λ g. IsEngineLoaded plan.limit (content g) (failed e))
    → IsEnded e b c status → ReadFails a c plan status
read_ended a b c plan LostDisk status reads comes ended = read_broke a b c plan status reads ended
read_ended a b c plan (NoSuchJournal slot at) status reads comes ended = read_none a b c plan slot at status reads comes ended
read_ended a b c plan NoRoom status reads comes ended =
    subst (λ (s : Status). ReadFails a c plan s) (sym ended.0) (subst (λ (d : Standing). ReadFails a d plan NoMemory) (sym ended.1) (read_short a b plan reads))

-- ---- causes

own_cause : (a b : Standing) (e : LoadError) → OnlyReads (is_fault (failed e)) a b → HasCause a b (status_of e)
own_cause a b LostDisk reads = reads.counted
own_cause a b (NoSuchJournal slot at) reads = tt
own_cause a b NoRoom reads = tt

pub read_cause : (a b c : Standing) (e : LoadError) (status : Status) → OnlyReads (is_fault (failed e)) a b → IsSteady b c → IsRefusedAs b c (status_of e) status → HasCause a c status
read_cause a b c e status reads steady seen = refused_cause a b c (status_of e) status (own_cause a b e reads) (reads_steady (is_fault (failed e)) a b reads) steady seen

pub ruleset reading = (read_all, read_ended, read_cause, reads_steady)
