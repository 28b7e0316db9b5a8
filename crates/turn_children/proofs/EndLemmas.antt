-- The end of a child, as an input.
use Rattle.std.proofs.Common.{ℕ, ℤ, pos, negsuc, ◌≡◌, [], Some, subst, arith, w64, FitsSigned}
use Rattle.std.proofs.lemmas.Int.{ints}
use Rattle.f2b_base.specs.declared.input.What.{What}
use Rattle.f2b_base.specs.declared.job.Outcome.{Outcome}
use Rattle.f2b_base.specs.declared.job.Outcome.TheVariants.{Status as EndedWith}
use Rattle.f2b_model.specs.Storable.{IsSigned, IsStorableOutcome}
use Rattle.f2b_world.specs.Told.{Standing}
use Rattle.child_table.specs.declared.child.Task.{Task}
use Rattle.child_table.specs.declared.child.Task.TheVariants.{Check, Command}
use Rattle.run_law.specs.Polls.{end_of}
use Rattle.run_law.specs.Stages.{Brings, BringFails}
use Rattle.run_law.specs.declared.status.Status.{Status}
use Rattle.run_law.proofs.JailLemmas.{ended_jails, failed_jails}
use Rattle.run_steps.specs.Keeping.{KeepsClocked, KeepsRunning, Makes, news_of}
use Rattle.run_steps.specs.declared.clocked.Clocked.{Clocked}
use Rattle.run_steps.specs.declared.running.Running.{Running}
use Rattle.run_steps.proofs.RunningLemmas.{LeavesJails, bring_beside, bring_fails_beside, clocked_as}

-- ---- the input

-- a status is a number of 64 bits
abbrev pub FitsOutcome : Outcome → Type 0
FitsOutcome (EndedWith status) = FitsSigned w64 status
FitsOutcome _ = Unit {0}

signed_fits : (z : ℤ) → FitsSigned w64 z → IsSigned z
signed_fits (pos n) fits = omega (arith, ints, fits)
signed_fits (negsuc n) fits = omega (arith, ints, fits)

-- so how a child ended can be stored
pub outcome_fits : (outcome : Outcome) → FitsOutcome outcome → IsStorableOutcome outcome
outcome_fits (EndedWith status) fits = signed_fits status fits
outcome_fits _ fits = tt

-- the input leaves the jails as the set of the logs has them
leaves_of : (task : Task) (job : ℕ) (outcome : Outcome) → LeavesJails (end_of task job outcome)
leaves_of Check job outcome = failed_jails job outcome
leaves_of Command job outcome = ended_jails job outcome

module _ (task : Task) (job : ℕ) (outcome : Outcome) (what : What) (is : what ≡ end_of task job outcome) where
  -- it is taken beside the logs and the commands that run
  pub end_beside : (a b : Standing) (kept : Running) (after : Clocked) → Brings KeepsClocked a b (news_of [] (Some what) []) kept.clocked after
      → Brings KeepsRunning a b (news_of [] (Some (end_of task job outcome)) []) kept (clocked_as kept after)
  end_beside a b kept after brought =
      let P : What → Type 0 = λ w. Brings KeepsClocked a b (news_of [] (Some w) []) kept.clocked after in
      bring_beside kept after a b [] [] (Some (end_of task job outcome)) (leaves_of task job outcome) (subst P is brought)

  pub end_fails : (a b : Standing) (kept : Running) (status : Status) → BringFails KeepsClocked a b (news_of [] (Some what) []) kept.clocked status
      → BringFails KeepsRunning a b (news_of [] (Some (end_of task job outcome)) []) kept status
  end_fails a b kept status fails =
      let P : What → Type 0 = λ w. BringFails KeepsClocked a b (news_of [] (Some w) []) kept.clocked status in
      bring_fails_beside a b kept [] [] (Some (end_of task job outcome)) status (subst P is fails)

  pub end_makes : (before after : Clocked) → Makes before (Some what) after → Makes before (Some (end_of task job outcome)) after
  end_makes before after makes = let P : What → Type 0 = λ w. Makes before (Some w) after in subst P is makes

pub ruleset ending = (end_beside, end_fails, end_makes)
