-- Runs of words that ask for nothing.
use Rattle.std.proofs.Common.{ℕ, ◌≡◌, List, Option, Some, None, inl, inr, sym, subst}
use Rattle.f2b_world.specs.Told.{Standing}
use Rattle.run_law.specs.Served.{IsCaused, IsRun}
use Rattle.run_law.specs.Stages.{IsRefusedAs, IsUnsaid}
use Rattle.run_law.specs.Words.{plan_of}
use Rattle.run_law.specs.declared.plan.Plan.{Plan}
use Rattle.run_law.specs.declared.status.Status.{Status}
use Rattle.run_law.specs.declared.status.Status.TheVariants.{Stopped, TurnsSpent, WorkloadDone, Usage, ConfFault, ConfRefused, DiskFault, NotAJournal, JournalFull, GateFault, SinkFault, ConfTooLarge, PatternRefused, NumbersSpent, NoMemory}
use Rattle.run_law.proofs.ServeLemmas.{run_memory}
use Rattle.server_top.specs.Prepared.{BeginsSound}
use Rattle.server_top.specs.Usage.{IsOfUsage}

unsaid_usage : (words : List (List ℕ)) (old new : Standing) (status : Status) → IsUnsaid old new status → IsCaused words old new status × IsOfUsage status
unsaid_usage words old new Stopped is = absurd is
unsaid_usage words old new TurnsSpent is = absurd is
unsaid_usage words old new WorkloadDone is = absurd is
unsaid_usage words old new Usage is = absurd is
unsaid_usage words old new ConfFault is = absurd is
unsaid_usage words old new (ConfRefused error) is = absurd is
unsaid_usage words old new DiskFault is = absurd is
unsaid_usage words old new (NotAJournal slot at) is = absurd is
unsaid_usage words old new (JournalFull need limit) is = absurd is
unsaid_usage words old new GateFault is = absurd is
unsaid_usage words old new SinkFault is = (is, tt)
unsaid_usage words old new ConfTooLarge is = absurd is
unsaid_usage words old new (PatternRefused jail place kind) is = absurd is
unsaid_usage words old new NumbersSpent is = absurd is
unsaid_usage words old new NoMemory is = (tt, tt)

pub usage_caused : (words : List (List ℕ)) (old new : Standing) (status : Status) → plan_of words ≡ None → IsRefusedAs old new Usage status → IsCaused words old new status × IsOfUsage status
usage_caused words old new status none (inl is) =
    let P : Status → Type 0 = λ s. IsCaused words old new s × IsOfUsage s in
    subst P (sym is) (none, tt)
usage_caused words old new status none (inr is) = unsaid_usage words old new status is

pub not_none : (plan : Plan) (o : Option Plan) → o ≡ Some plan → o ≡ None → ⊥
not_none plan None some none = absurd (cc)
not_none plan (Some other) some none = absurd (cc)

-- memory ran out before the words were read
pub begins_memory : (s : Standing) (words : List (List ℕ)) → BeginsSound s.told → IsRun s.told s.told words NoMemory
begins_memory s words begins = run_memory s words

pub ruleset running = (begins_memory)
