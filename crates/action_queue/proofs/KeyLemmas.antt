-- Entries whose ids rise: what stands under an id, and what a new greatest id does.
use Rattle.std.proofs.Common.{ℕ, zero, suc, ◌≡◌, ◌+◌, ◌<◌, ◌≤◌, inl, inr, Bool, true, false, Option, Some, None, List, [], ◌∷◌, ◌++◌, length, refl, sym, ap, ◌∙◌, subst, arith}
use Rattle.std.specs.Prelude.{◌==◌, ◌-◌, nat_lt, find, slice_get, IsTrue}
use Rattle.std.specs.Ordering.{nat_cmp}
use Rattle.std.specs.BTreeMap.{is_at, insert_entry}
use Rattle.std.proofs.lemmas.Bool.{cases_Bool, cases_order, cases_eq, eq-eqb, ne_eqb, lt-ltb, le-ltb}
use Rattle.std.proofs.lemmas.Option.{same_Some, slice_get_within}
use Rattle.f2b_base.specs.declared.job.Job.{Job}
use Rattle.f2b_model.specs.Jobs.{job_by_id, AllIdsBelow}
use Rattle.f2b_model.proofs.FullLemmas.{lt_true, true_lt}
use Rattle.action_queue.specs.Index.{jobs_of, job_at, with_job, IsKeyed}

-- ---- the test of a key

pub at_same : (n k : ℕ) → n ≡ k → is_at (nat_cmp n) k ≡ true
at_same n k same = rw (le-ltb n k (omega (arith, same)), eq-eqb n k same) refl

pub at_apart : (n k : ℕ) → (n ≡ k → ⊥) → is_at (nat_cmp n) k ≡ false
at_apart n k apart = elim (cases_order n k) [
  | inl same ↦ absurd (apart same)
  | inr (inl less) ↦ rw (lt-ltb n k less) refl
  | inr (inr more) ↦ rw (le-ltb n k (omega (arith, more)), ne_eqb n k apart) refl
]

-- ---- a job and the id under which it stands

pub keyed_from : (from more : ℕ) (es : List (ℕ × Job)) → from ≤ more → IsKeyed more es → IsKeyed from es
keyed_from from more [] le keyed = tt
keyed_from from more (e ∷ es) le keyed = (omega (arith, keyed.0), keyed.1, keyed.2)

found_from : (test : Job → Bool) (from : ℕ) (es : List (ℕ × Job)) (job : Job) → IsKeyed from es → find test (jobs_of es) ≡ Some job → from ≤ job.id
found_from test from [] job keyed is = cc
found_from test from (e ∷ es) job keyed is = elim (cases_Bool (test e.1)) [
  | inl h ↦ let same : e.1 ≡ job = same_Some e.1 job (rw h at is) in let id : e.1.id ≡ job.id = ap (λ (j : Job). j.id) same in omega (arith, id, keyed.0, keyed.1)
  | inr h ↦ let on : e.0 + 1 ≤ job.id = found_from test (e.0 + 1) es job keyed.2 (rw h at is) in omega (arith, on, keyed.0)
]

-- a job that a search finds stands under its id
pub found_at : (test : Job → Bool) (from : ℕ) (es : List (ℕ × Job)) (job : Job) → IsKeyed from es → find test (jobs_of es) ≡ Some job → job_at job.id es ≡ Some job
found_at test from [] job keyed is = cc
found_at test from (e ∷ es) job keyed is = elim (cases_Bool (test e.1)) [
  | inl h ↦
      let same : e.1 ≡ job = same_Some e.1 job (rw h at is) in
      let at : is_at (nat_cmp job.id) e.0 ≡ true = at_same job.id e.0 (sym (ap (λ (j : Job). j.id) same) ∙ keyed.1) in
      rw at (ap (λ j. Some j) same)
  | inr h ↦
      let on : e.0 + 1 ≤ job.id = found_from test (e.0 + 1) es job keyed.2 (rw h at is) in
      let at : is_at (nat_cmp job.id) e.0 ≡ false = at_apart job.id e.0 (λ same. absurd (omega (arith, on, same))) in
      rw at (found_at test (e.0 + 1) es job keyed.2 (rw h at is))
]

-- the job under an id has that id, and is the one that a search by id finds
pub key_found : (id from : ℕ) (es : List (ℕ × Job)) (job : Job) → IsKeyed from es → job_at id es ≡ Some job → (job.id ≡ id) × (job_by_id id (jobs_of es) ≡ Some job)
key_found id from [] job keyed is = absurd (let e : None ≡ Some job = is in cc)
key_found id from (e ∷ es) job keyed is = elim (cases_eq id e.0) [
  | inl same ↦
      let this : e.1 ≡ job = same_Some e.1 job (rw (at_same id e.0 same) at is) in
      (sym (ap (λ (x : Job). x.id) this) ∙ keyed.1 ∙ sym same, (let at : (e.1.id == id) ≡ true = eq-eqb e.1.id id (keyed.1 ∙ sym same) in rw at (ap (λ x. Some x) this)))
  | inr apart ↦
      let on = key_found id (e.0 + 1) es job keyed.2 (rw (at_apart id e.0 apart) at is) in
      (on.0, (let at : (e.1.id == id) ≡ false = ne_eqb e.1.id id (λ same. apart (sym same ∙ keyed.1)) in rw at on.1))
]

pub key_missing : (id from : ℕ) (es : List (ℕ × Job)) → IsKeyed from es → job_at id es ≡ None → job_by_id id (jobs_of es) ≡ None
key_missing id from [] keyed is = refl
key_missing id from (e ∷ es) keyed is = elim (cases_eq id e.0) [
  | inl same ↦ absurd (let w : Some e.1 ≡ None = rw (at_same id e.0 same) at is in cc)
  | inr apart ↦
      let at : (e.1.id == id) ≡ false = ne_eqb e.1.id id (λ same. apart (sym same ∙ keyed.1)) in
      rw at (key_missing id (e.0 + 1) es keyed.2 (rw (at_apart id e.0 apart) at is))
]

by_id_one : (id : ℕ) (es : List (ℕ × Job)) (o : Option Job) → IsKeyed 0 es → job_at id es ≡ o → o ≡ job_by_id id (jobs_of es)
by_id_one id es None keyed is = sym (key_missing id 0 es keyed is)
by_id_one id es (Some job) keyed is = sym (key_found id 0 es job keyed is).1

pub by_id : (id : ℕ) (es : List (ℕ × Job)) → IsKeyed 0 es → job_at id es ≡ job_by_id id (jobs_of es)
by_id id es keyed = by_id_one id es (job_at id es) keyed refl

-- ---- a job is put last

pub insert_last : (id : ℕ) (job : Job) (from : ℕ) (es : List (ℕ × Job)) → IsKeyed from es → AllIdsBelow id (jobs_of es) → insert_entry nat_cmp es id job ≡ es ++ (id, job) ∷ []
insert_last id job from [] keyed below = refl
insert_last id job from (e ∷ es) keyed below =
    let less : e.0 < id = omega (arith, keyed.1, below.0) in
    rw (le-ltb id e.0 (omega (arith, less)), ne_eqb id e.0 (λ same. absurd (omega (arith, less, same)))) (ap (λ rest. e ∷ rest) (insert_last id job (e.0 + 1) es keyed.2 below.1))

pub remove_last : (id : ℕ) (job : Job) (from : ℕ) (es : List (ℕ × Job)) → IsKeyed from es → AllIdsBelow id (jobs_of es) → with_job id None (es ++ (id, job) ∷ []) ≡ es
remove_last id job from [] keyed below = rw (at_same id id refl) refl
remove_last id job from (e ∷ es) keyed below =
    let less : e.0 < id = omega (arith, keyed.1, below.0) in
    rw (at_apart id e.0 (λ same. absurd (omega (arith, less, same)))) (ap (λ rest. e ∷ rest) (remove_last id job (e.0 + 1) es keyed.2 below.1))

pub last_at : (id : ℕ) (job : Job) (from : ℕ) (es : List (ℕ × Job)) → IsKeyed from es → AllIdsBelow id (jobs_of es) → job_at id (es ++ (id, job) ∷ []) ≡ Some job
last_at id job from [] keyed below = rw (at_same id id refl) refl
last_at id job from (e ∷ es) keyed below =
    let less : e.0 < id = omega (arith, keyed.1, below.0) in
    rw (at_apart id e.0 (λ same. absurd (omega (arith, less, same)))) (last_at id job (e.0 + 1) es keyed.2 below.1)

pub keyed_last : (id : ℕ) (job : Job) (from : ℕ) (es : List (ℕ × Job)) → IsKeyed from es → AllIdsBelow id (jobs_of es) → from ≤ id → job.id ≡ id → IsKeyed from (es ++ (id, job) ∷ [])
keyed_last id job from [] keyed below le same = (le, same, tt)
keyed_last id job from (e ∷ es) keyed below le same = (keyed.0, keyed.1, keyed_last id job (e.0 + 1) es keyed.2 below.1 (omega (arith, keyed.1, below.0)) same)

pub jobs_last : (id : ℕ) (job : Job) (es : List (ℕ × Job)) → jobs_of (es ++ (id, job) ∷ []) ≡ jobs_of es ++ job ∷ []
jobs_last id job [] = refl
jobs_last id job (e ∷ es) = ap (λ rest. e.1 ∷ rest) (jobs_last id job es)

-- ---- the last entry has the greatest id

at_from : (from i : ℕ) (es : List (ℕ × Job)) (last : ℕ × Job) → IsKeyed from es → slice_get es i ≡ Some last → from ≤ last.0
at_from from i [] last keyed is = absurd (let w : None ≡ Some last = is in cc)
at_from from zero (e ∷ es) last keyed is = let same : e.0 ≡ last.0 = ap (λ (x : ℕ × Job). x.0) (same_Some e last is) in omega (arith, same, keyed.0)
at_from from (suc i) (e ∷ es) last keyed is = let on : e.0 + 1 ≤ last.0 = at_from (e.0 + 1) i es last keyed.2 is in omega (arith, on, keyed.0)

-- where the last id is below a number, each is
pub below_last : (id from i : ℕ) (es : List (ℕ × Job)) (last : ℕ × Job) → IsKeyed from es → i + 1 ≡ length es → slice_get es i ≡ Some last → last.0 < id → AllIdsBelow id (jobs_of es)
below_last id from i [] last keyed end is less = tt
below_last id from zero (e ∷ []) last keyed end is less =
    let same : e.0 ≡ last.0 = ap (λ (x : ℕ × Job). x.0) (same_Some e last is) in
    let below : e.1.id < id = omega (arith, same, keyed.1, less) in
    (below, tt)
below_last id from zero (e ∷ (d ∷ es)) last keyed end is less = absurd (omega (arith, end))
below_last id from (suc i) (e ∷ es) last keyed end is less =
    let on : e.0 + 1 ≤ last.0 = at_from (e.0 + 1) i es last keyed.2 is in
    let below : e.1.id < id = omega (arith, on, keyed.1, less) in
    (below, below_last id (e.0 + 1) i es last keyed.2 (omega (arith, end)) is less)

-- where each id is below a number, the id at a place is
pub at_below : (id from i : ℕ) (es : List (ℕ × Job)) (at : ℕ × Job) → IsKeyed from es → slice_get es i ≡ Some at → AllIdsBelow id (jobs_of es) → at.0 < id
at_below id from i [] at keyed is below = absurd (let w : None ≡ Some at = is in cc)
at_below id from zero (e ∷ es) at keyed is below = let same : e.0 ≡ at.0 = ap (λ (x : ℕ × Job). x.0) (same_Some e at is) in omega (arith, same, keyed.1, below.0)
at_below id from (suc i) (e ∷ es) at keyed is below = at_below id (e.0 + 1) i es at keyed.2 is below.1

pub none_below : (id : ℕ) (es : List (ℕ × Job)) → (0 < length es → ⊥) → AllIdsBelow id (jobs_of es)
none_below id [] none = tt
none_below id (e ∷ es) none = absurd (none (omega arith))

-- a number is above each id where it is above the last
pub last_test : (id : ℕ) (es : List (ℕ × Job)) (last : ℕ × Job) (v : List Job) → IsKeyed 0 es → jobs_of es ≡ v → slice_get es (length es - 1) ≡ Some last
    → (IsTrue (nat_lt last.0 id) → AllIdsBelow id v) × (AllIdsBelow id v → IsTrue (nat_lt last.0 id))
last_test id es last v keyed view is =
    let end : length es - 1 + 1 ≡ length es = omega (arith, slice_get_within es (length es - 1) last is) in (
      (λ less. subst (AllIdsBelow id) view (below_last id 0 (length es - 1) es last keyed end is (lt_true last.0 id less))),
      (λ below. true_lt last.0 id (at_below id 0 (length es - 1) es last keyed is (subst (AllIdsBelow id) (sym view) below))),
    )
