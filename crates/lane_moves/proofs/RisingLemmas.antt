-- Jobs by rising id.
use Rattle.std.proofs.Common.{ℕ, zero, suc, ◌≡◌, ◌+◌, ◌<◌, ◌≤◌, List, [], ◌∷◌, length, take, get_or, ap, arith}
use Rattle.f2b_base.specs.declared.job.Job.{Job}
use Rattle.f2b_model.specs.Jobs.{AllIdsBelow, AreById}

-- no id is below the number that they rise from
from_first : (from : ℕ) (jobs : List Job) (next i : ℕ) (job : Job) → AreById from jobs next → i < length jobs → job ≡ get_or jobs i job → from ≤ job.id
from_first from [] next i job rise less is = absurd (omega arith)
from_first from (x ∷ jobs) next zero job rise less is = let same : job.id ≡ x.id = ap (λ (j : Job). j.id) is in omega (arith, same, rise.0)
from_first from (x ∷ jobs) next (suc i) job rise less is =
    let later : x.id + 1 ≤ job.id = from_first (x.id + 1) jobs next i job rise.1 (omega arith) is in omega (arith, later, rise.0)

-- the ids before a job's are below it
pub below_before : (from : ℕ) (jobs : List Job) (next i : ℕ) (job : Job) → AreById from jobs next → i < length jobs → job ≡ get_or jobs i job → AllIdsBelow job.id (take i jobs)
below_before from [] next i job rise less is = absurd (omega arith)
below_before from (x ∷ jobs) next zero job rise less is = tt
below_before from (x ∷ jobs) next (suc i) job rise less is =
    let later : x.id + 1 ≤ job.id = from_first (x.id + 1) jobs next i job rise.1 (omega arith) is in
    (omega (arith, later), below_before (x.id + 1) jobs next i job rise.1 (omega arith) is)
