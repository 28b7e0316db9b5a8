-- Queues that stand for the jobs by id: the first job of a lane, and a job that is put last.
use Rattle.std.proofs.Common.{ℕ, ◌≡◌, inl, inr, true, false, ◌&&◌, cond, Option, Some, None, List, [], ◌∷◌, ◌++◌, refl, sym, ap, ◌∙◌, arith}
use Rattle.std.specs.Prelude.{is_some, slice_get, option_map}
use Rattle.std.proofs.lemmas.Bool.{cases_Bool}
use Rattle.std.proofs.lemmas.Option.{same_Some}
use Rattle.f2b_base.specs.declared.job.LaneId.{LaneId}
use Rattle.f2b_base.specs.declared.job.Job.{Job}
use Rattle.f2b_model.specs.Checks.{is_stop, is_closing}
use Rattle.f2b_model.specs.Families.{same_lane}
use Rattle.f2b_model.specs.Jobs.{head, has_id, job_by_id, leads, is_head_id, AllIdsBelow}
use Rattle.action_queue.specs.declared.queue.Queue.{Queue}
use Rattle.action_queue.specs.Index.{jobs_of, job_at, ids_in, later_of, last_stop, IsKeyed, IsIndex}
use Rattle.action_queue.specs.Queues.{is_number, ids_of, stop_after, Added, SameIds}
use Rattle.action_queue.proofs.KeyLemmas.{found_at, key_found, key_missing, keyed_last, jobs_last}

-- ---- the first job of a lane

-- the first id of a lane is that of its first job
pub ids_head : (lane : LaneId) (jobs : List Job) → slice_get (ids_in lane jobs) 0 ≡ option_map (λ job. job.id) (head lane jobs)
ids_head lane [] = refl
ids_head lane (job ∷ jobs) = elim (cases_Bool (same_lane job.lane lane)) [ inl h ↦ rw h refl | inr h ↦ rw h (ids_head lane jobs) ]

pub some_id : (o : Option Job) (id : ℕ) → Some id ≡ option_map (λ job. job.id) o → (job : Job) × (o ≡ Some job) × (job.id ≡ id)
some_id None id is = absurd (let e : Some id ≡ None = is in cc)
some_id (Some job) id is = (job, refl, sym (same_Some id job.id is))

-- the job under the id of the lane's first job is that job
pub head_by_id : (lane : LaneId) (es : List (ℕ × Job)) (id : ℕ) → IsKeyed 0 es → Some id ≡ option_map (λ job. job.id) (head lane (jobs_of es)) → job_at id es ≡ head lane (jobs_of es)
head_by_id lane es id keyed is =
    let found = some_id (head lane (jobs_of es)) id is in
    ap (λ n. job_at n es) (sym found.2) ∙ found_at (λ job. same_lane job.lane lane) 0 es found.0 keyed found.1 ∙ sym found.1

pub head_missing : (o : Option Job) → None ≡ option_map (λ (job : Job). job.id) o → None ≡ o
head_missing None is = refl
head_missing (Some job) is = absurd (let e : None ≡ Some job.id = is in cc)

pub number_of_head : (id : ℕ) (o : Option Job) → is_number id (option_map (λ job. job.id) o) ≡ has_id id o
number_of_head id None = refl
number_of_head id (Some job) = refl

-- a job is the first of its lane where the lane's queue begins with its id
pub head_test : (id : ℕ) (job : Job) (es : List (ℕ × Job)) (qs : List Queue) (v : List Job) → IsIndex es qs → jobs_of es ≡ v → job_at id es ≡ Some job
    → is_number id (slice_get (ids_of job.lane qs) 0) ≡ is_head_id id v
head_test id job es qs v index view is =
    ap (λ (ids : List ℕ). is_number id (slice_get ids 0)) (index.lists job.lane) ∙ ap (is_number id) (ids_head job.lane (jobs_of es)) ∙ number_of_head id (head job.lane (jobs_of es))
    ∙ ap (leads id (jobs_of es)) (sym (key_found id 0 es job index.keyed is).1) ∙ ap (is_head_id id) view

pub head_test_none : (id : ℕ) (es : List (ℕ × Job)) (v : List Job) → IsKeyed 0 es → jobs_of es ≡ v → job_at id es ≡ None → false ≡ is_head_id id v
head_test_none id es v keyed view is = ap (leads id v) (sym (ap (job_by_id id) (sym view) ∙ key_missing id 0 es keyed is))

-- ---- a job is put last

ids_last : (lane : LaneId) (jobs : List Job) (job : Job) → ids_in lane (jobs ++ job ∷ []) ≡ cond (same_lane job.lane lane) (ids_in lane jobs ++ job.id ∷ []) (ids_in lane jobs)
ids_last lane [] job = elim (cases_Bool (same_lane job.lane lane)) [ inl h ↦ rw h refl | inr h ↦ rw h refl ]
ids_last lane (x ∷ jobs) job = elim (cases_Bool (same_lane x.lane lane)) [
  | inl k ↦ elim (cases_Bool (same_lane job.lane lane)) [
    | inl h ↦ let on : ids_in lane (jobs ++ job ∷ []) ≡ ids_in lane jobs ++ job.id ∷ [] = rw h at (ids_last lane jobs job) in rw (k, h, on) refl
    | inr h ↦ let on : ids_in lane (jobs ++ job ∷ []) ≡ ids_in lane jobs = rw h at (ids_last lane jobs job) in rw (k, h, on) refl
  ]
  | inr k ↦ rw k (ids_last lane jobs job)
]

-- ---- the last Stop of a lane

pub later_none : (o : Option ℕ) → later_of o None ≡ o
later_none None = refl
later_none (Some id) = refl

-- a lane with no job has no Stop
pub no_last_stop : (lane : LaneId) (jobs : List Job) → ids_in lane jobs ≡ [] → last_stop lane jobs ≡ None
no_last_stop lane [] none = refl
no_last_stop lane (job ∷ jobs) none = elim (cases_Bool (same_lane job.lane lane)) [
  | inl h ↦ absurd (let w : job.id ∷ ids_in lane jobs ≡ [] = rw h at none in cc)
  | inr h ↦ let on : last_stop lane jobs ≡ None = no_last_stop lane jobs (rw h at none) in rw (h, on) refl
]

stop_last : (lane : LaneId) (jobs : List Job) (job : Job) → last_stop lane (jobs ++ job ∷ []) ≡ cond (same_lane job.lane lane) (stop_after job.id job.kind (last_stop lane jobs)) (last_stop lane jobs)
stop_last lane [] job = elim (cases_Bool (same_lane job.lane lane)) [ inl h ↦ rw h refl | inr h ↦ rw h refl ]
stop_last lane (x ∷ jobs) job =
    let on : last_stop lane (jobs ++ job ∷ []) ≡ cond (same_lane job.lane lane) (stop_after job.id job.kind (last_stop lane jobs)) (last_stop lane jobs) = stop_last lane jobs job in
    elim (cases_Bool (same_lane job.lane lane)) [
      | inl h ↦ elim (cases_Bool (is_stop job.kind)) [
        | inl k ↦ let own : last_stop lane (jobs ++ job ∷ []) ≡ Some job.id = rw (h, k) at on in rw (own, h, k) refl
        | inr k ↦ let own : last_stop lane (jobs ++ job ∷ []) ≡ last_stop lane jobs = rw (h, k) at on in rw (own, h, k) refl
      ]
      | inr h ↦ let own : last_stop lane (jobs ++ job ∷ []) ≡ last_stop lane jobs = rw h at on in rw (own, h) refl
    ]

some_later : (o : Option ℕ) (id : ℕ) → is_some (later_of o (Some id)) ≡ true
some_later None id = refl
some_later (Some later) id = refl

-- a lane is about to stop where it has a last Stop
pub closing_stop : (lane : LaneId) (jobs : List Job) → is_some (last_stop lane jobs) ≡ is_closing lane jobs
closing_stop lane [] = refl
closing_stop lane (job ∷ jobs) = elim (cases_Bool (same_lane job.lane lane && is_stop job.kind)) [
  | inl h ↦ rw h (some_later (last_stop lane jobs) job.id)
  | inr h ↦ rw h (ap (λ o. is_some o) (later_none (last_stop lane jobs)) ∙ closing_stop lane jobs)
]

-- ---- the queues after a job more

pub index_push : (job : Job) (es : List (ℕ × Job)) (qs new : List Queue) → IsIndex es qs → AllIdsBelow job.id (jobs_of es) → Added job.lane job.id job.kind qs new → IsIndex (es ++ (job.id, job) ∷ []) new
index_push job es qs new index below added = record {
  keyed = keyed_last job.id job 0 es index.keyed below (omega arith) refl;
  lists = λ l.
      added.ids l
      ∙ ap (λ (ids : List ℕ). cond (same_lane job.lane l) (ids ++ job.id ∷ []) ids) (index.lists l)
      ∙ sym (ap (ids_in l) (jobs_last job.id job es) ∙ ids_last l (jobs_of es) job);
  stops = λ l.
      added.stop l
      ∙ ap (λ (stop : Option ℕ). cond (same_lane job.lane l) (stop_after job.id job.kind stop) stop) (index.stops l)
      ∙ sym (ap (last_stop l) (jobs_last job.id job es) ∙ stop_last l (jobs_of es) job);
  sound = added.keeps index.sound;
}

pub index_same : (es : List (ℕ × Job)) (qs new : List Queue) → IsIndex es qs → SameIds qs new → IsIndex es new
index_same es qs new index same = record { keyed = index.keyed; lists = λ l. same.ids l ∙ index.lists l; stops = λ l. same.stop l ∙ index.stops l; sound = same.keeps index.sound }
