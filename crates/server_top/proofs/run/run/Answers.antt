use Rattle.std.proofs.Common.{◌≡◌, ◌∙◌, ap, sym, subst, refl, List, ℕ, map, string_bytes, Some, None, Option, IsSome}
use Rattle.f2b_world.specs.Told.{Standing}
use Rattle.run_law.specs.Served.{IsRun}
use Rattle.run_law.specs.Stages.{IsSteady}
use Rattle.run_law.specs.Stops.{HoldsThese, held_in}
use Rattle.run_law.specs.Words.{plan_of}
use Rattle.run_law.specs.declared.plan.Plan.{Plan}
use Rattle.run_law.specs.declared.status.Status.{Status}
use Rattle.run_law.specs.declared.status.Status.TheVariants.{TurnsSpent}
use Rattle.run_law.proofs.ServeLemmas.{run_planned, run_refused, caused}
use Rattle.run_law.proofs.WordLemmas.{plan_turns}
use Rattle.server_top.specs.Prepared.{BeginsSound, PlanHalts}
use Rattle.server_top.proofs.ResultLemmas.{on_ok_more, if_err_more, on_ok_always, if_err_always}
use Rattle.server_top.proofs.UsageLemmas.{usage_caused, not_none}
use Rattle.server_top.proofs.run.run.Goals as goal

-- where a plan halts there is a whole run
runs_as : (a b : Standing) (words : List (List ℕ)) (plan : Plan) (status : Status) → plan_of words ≡ Some plan → IsSteady a b → PlanHalts a b plan status → BeginsSound a.told → IsRun a.told b.told words status
runs_as a b words plan status is steady halts begins = run_planned a b words plan status is steady (λ g told.
    let holds : HoldsThese (held_in g) a.told = record { each = λ h same. ap held_in (let e : Some g ≡ Some h = sym told ∙ same in let f : g ≡ h = cc in f) } in
    halts.runs (held_in g) holds (begins.sound g told))

pub serve-requires : goal.serve-requires
serve-requires g c = plan_turns (map string_bytes c.args.words.now) c.in-Some.plan (sym c.in_ok-plan.ensures ∙ c.in-Some.is)

pub returns-in_default : goal.returns-in_default
returns-in_default g c =
    let words : List (List ℕ) = map string_bytes c.args.words.now in
    let none : plan_of words ≡ None = sym c.in_ok-plan.ensures ∙ c.in_default.is in
    let a = g.W.Outside.stands c.args.world.now in
    let b = g.W.Outside.stands c.refuse.new.world in
    let both = usage_caused words a b c.refuse.result none c.refuse.ensures.cause in
    record {
      ok = tt;
      err = λ begins. run_refused a b words c.refuse.result none c.refuse.ensures.steady c.refuse.ensures.ends;
      cause = both.0;
      planned = tt;
      usage = λ _. both.1;
    }

pub returns : goal.returns
returns g c =
    let words : List (List ℕ) = map string_bytes c.args.words.now in
    let is : plan_of words ≡ Some c.in-Some.plan = sym c.in_ok-plan.ensures ∙ c.in-Some.is in
    let a = g.W.Outside.stands c.args.world.now in
    let b = g.W.Outside.stands c.serve.new.world in
    let steady = c.serve.ensures.steady in
    record {
      ok = on_ok_more c.serve.result _ _ (λ halts begins. runs_as a b words c.in-Some.plan TurnsSpent is steady halts begins) c.serve.ensures.ok;
      err = if_err_more c.serve.result _ _ (λ status halts begins. runs_as a b words c.in-Some.plan status is steady halts begins) c.serve.ensures.err;
      cause = if_err_more c.serve.result _ _ (λ status cause. caused words a b status cause) c.serve.ensures.cause;
      planned = on_ok_always c.serve.result _ (let P : Option Plan → Type 0 = λ o. IsSome o in subst P (sym is) refl);
      usage = if_err_always c.serve.result _ (λ status none. absurd (not_none c.in-Some.plan (plan_of words) is none));
    }
