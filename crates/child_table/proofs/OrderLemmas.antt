-- Children stay few, and by the numbers of their jobs.
use Rattle.std.proofs.Common.{ℕ, suc, zero, ◌≡◌, ◌+◌, ◌<◌, ◌≤◌, true, false, nat_lt, List, [], ◌∷◌, length, arith}
use Rattle.std.proofs.lemmas.Bool.{ltb-true}
use Rattle.std.proofs.lemmas.Bool.Decides.{nat_tests}
use Rattle.std.proofs.lemmas.List.Edits.{length-remove}
use Rattle.std.specs.List.{insert, remove}
use Rattle.std.specs.Prelude.{◌==◌}
use Rattle.f2b_model.proofs.ListLemmas.{by_test}
use Rattle.f2b_model.specs.Lists.{placed}
use Rattle.child_table.specs.declared.child.Child.{Child}
use Rattle.child_table.specs.Children.{AreChildren, ByJob, comes_before, has, jobs_of, most_children}
use Rattle.child_table.specs.Places.{place_for}
use Rattle.child_table.proofs.PlaceLemmas.{placed_there}

-- from a lower number on too
by_job_from : (from more : ℕ) (cs : List Child) → from ≤ more → ByJob more cs → ByJob from cs
by_job_from from more [] le h = tt
by_job_from from more (c ∷ cs) le h = (omega (arith, h.0, le), h.1)

by_job_placed : (from : ℕ) (c : Child) (cs : List Child) → from ≤ c.job → has c.job (jobs_of cs) ≡ false → ByJob from cs → ByJob from (placed comes_before c cs)
by_job_placed from c [] le apart h = (le, tt)
by_job_placed from c (d ∷ ds) le apart h =
    by_test (nat_lt c.job d.job) _
    (λ before. rw before (le, (omega (arith, ltb-true _ _ before), h.1)))
    (λ behind. by_test (d.job == c.job) _
    (λ same. absurd (let k : true ≡ false = rw same at apart in cc))
    (λ other. let later : has c.job (jobs_of ds) ≡ false = rw other at apart in
    rw behind (h.0, by_job_placed (d.job + 1) c ds (grind (arith, nat_tests, behind, other)) later h.1)))

by_job_removed : (from : ℕ) (cs : List Child) (place : ℕ) → ByJob from cs → ByJob from (remove cs place)
by_job_removed from [] zero h = tt
by_job_removed from [] (suc place) h = tt
by_job_removed from (c ∷ cs) zero h = by_job_from from (c.job + 1) cs (omega (arith, h.0)) h.1
by_job_removed from (c ∷ cs) (suc place) h = (h.0, by_job_removed (c.job + 1) cs place h.1)

length-placed : (c : Child) (cs : List Child) → length (placed comes_before c cs) ≡ length cs + 1
length-placed c [] = omega arith
length-placed c (d ∷ ds) = by_test (nat_lt c.job d.job) _ (λ before. rw before (omega arith)) (λ behind. rw behind (omega (arith, length-placed c ds)))

-- one child more, where there is room and none runs for its job
pub children_more : (cs : List Child) (place : ℕ) (c : Child) → place ≡ place_for c.job cs → length cs < most_children → has c.job (jobs_of cs) ≡ false
    → AreChildren cs → AreChildren (insert cs place c)
children_more cs place c is room apart h =
    rw (placed_there cs place c is) record {
      few = omega (arith, length-placed c cs);
      by_job = by_job_placed 0 c cs (omega arith) apart h.by_job;
    }

-- one child less
pub children_less : (cs : List Child) (place : ℕ) → place < length cs → AreChildren cs → AreChildren (remove cs place)
children_less cs place within h = record {
  few = let fewer = length-remove cs place within in let few = h.few in omega arith;
  by_job = by_job_removed 0 cs place h.by_job;
}
