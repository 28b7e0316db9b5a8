-- The least id that may start is that of the next job.
use Rattle.std.proofs.Common.{ℕ, ◌≡◌, ◌+◌, ◌<◌, ◌≤◌, inl, inr, Bool, true, false, not, ◌&&◌, ◌||◌, Option, Some, None, List, [], ◌∷◌, ◌++◌, length, take, get_or, refl, sym, ap, ◌∙◌, arith}
use Rattle.std.specs.Prelude.{◌==◌, slice_get, option_map, find, nat_le, nat_lt}
use Rattle.std.specs.List.{list_any}
use Rattle.std.proofs.lemmas.Bool.{cases_Bool, cases_eq, cases_lt, eq-eqb, eqb-true, lt-ltb, both_ways, or_cases, or_left, or_right, and_parts, and_from}
use Rattle.std.proofs.lemmas.List.Folds.{list_any-append}
use Rattle.std.proofs.lemmas.List.{take_more}
use Rattle.std.proofs.lemmas.Option.{same_Some}
use Rattle.f2b_base.specs.declared.job.LaneId.{LaneId}
use Rattle.f2b_base.specs.declared.job.Job.{Job}
use Rattle.f2b_model.specs.Families.{same_lane}
use Rattle.f2b_model.specs.Jobs.{head, has_id, is_head, next_due}
use Rattle.f2b_model.specs.LaneSound.{AtMostOne}
use Rattle.f2b_model.proofs.FullLemmas.{lt_true, same_test}
use Rattle.f2b_model.proofs.SameLemmas.{same_lane-true, same_lane-same}
use Rattle.action_queue.specs.declared.queue.Queue.{Queue}
use Rattle.action_queue.specs.Due.{is_front, is_due, is_ready_id, IsLeast, IsLeastDue, is_lesser, better_of}
use Rattle.action_queue.specs.Index.{jobs_of, job_at, IsKeyed, IsIndex}
use Rattle.action_queue.specs.Queues.{is_number, is_queue, ids_of}
use Rattle.action_queue.proofs.IndexLemmas.{ids_head, some_id}
use Rattle.action_queue.proofs.KeyLemmas.{at_same, at_apart, found_at}
use Rattle.action_queue.proofs.QueueLemmas.{no_ids}

-- ---- least numbers

-- tests that pass the same numbers have the same least one
least_agree : (o : Option ℕ) (test other : ℕ → Bool) → ((n : ℕ) → test n ≡ other n) → IsLeast o test → IsLeast o other
least_agree None test other same h = λ n. sym (same n) ∙ h n
least_agree (Some b) test other same h = ((sym (same b) ∙ h.0), (λ n k. h.1 n (same n ∙ k)))

-- a least number is the only one
least_one : (o p : Option ℕ) (test : ℕ → Bool) → IsLeast o test → IsLeast p test → o ≡ p
least_one None None test h k = refl
least_one None (Some b) test h k = absurd (both_ways (test b) (h b) k.0)
least_one (Some a) None test h k = absurd (both_ways (test a) (k a) h.0)
least_one (Some a) (Some b) test h k = let e : a ≡ b = omega (arith, h.1 b k.0, k.1 a h.0) in ap (λ x. Some x) e

-- a number more that passes
least_more : (id : ℕ) (o : Option ℕ) (test : ℕ → Bool) → IsLeast o test → is_lesser id o ≡ true → IsLeast (Some id) (λ n. test n || (id == n))
least_more id None test h lesser = (
  or_right (test id) (id == id) (eq-eqb id id refl),
  (λ n k. elim (or_cases (test n) (id == n) k) [ inl p ↦ absurd (both_ways (test n) (h n) p) | inr p ↦ let e : id ≡ n = eqb-true id n p in omega (arith, e) ]),
)
least_more id (Some b) test h lesser =
    let less : id < b = lt_true id b lesser in (
      or_right (test id) (id == id) (eq-eqb id id refl),
      (λ n k. elim (or_cases (test n) (id == n) k) [ inl p ↦ let le : b ≤ n = h.1 n p in omega (arith, le, less) | inr p ↦ let e : id ≡ n = eqb-true id n p in omega (arith, e) ]),
    )

lt_false : (a b : ℕ) → nat_lt a b ≡ false → b ≤ a
lt_false a b h = elim (cases_lt a b) [ inl less ↦ absurd (both_ways (nat_lt a b) h (lt-ltb a b less)) | inr le ↦ le ]

-- a number more that is not less
least_stays : (id : ℕ) (o : Option ℕ) (test : ℕ → Bool) → IsLeast o test → is_lesser id o ≡ false → IsLeast o (λ n. test n || (id == n))
least_stays id None test h lesser = absurd (let w : true ≡ false = lesser in cc)
least_stays id (Some b) test h lesser =
    let le : b ≤ id = lt_false id b lesser in (
      or_left (test b) (id == b) h.0,
      (λ n k. elim (or_cases (test n) (id == n) k) [ inl p ↦ h.1 n p | inr p ↦ let e : id ≡ n = eqb-true id n p in omega (arith, e, le) ]),
    )

or_false : (x : Bool) → (x || false) ≡ x
or_false true = refl
or_false false = refl

with_ready : (a x r : Bool) → (x ≡ true → r ≡ true) → ((a && r) || x) ≡ ((a || (x || false)) && r)
with_ready true true r h = rw (h refl) refl
with_ready true false true h = refl
with_ready true false false h = refl
with_ready false true r h = rw (h refl) refl
with_ready false false r h = refl

without_ready : (a x r : Bool) → (x ≡ true → r ≡ false) → (a && r) ≡ ((a || (x || false)) && r)
without_ready true x r h = refl
without_ready false true r h = sym (h refl)
without_ready false false r h = refl

-- the least of the ready ids so far, after one that is ready
better_ready : (ready : ℕ → Bool) (id : ℕ) (best : Option ℕ) (any : ℕ → Bool) → ready id ≡ true → IsLeast best (λ n. any n && ready n)
    → IsLeast (better_of ready (Some id) best) (λ n. (any n || ((id == n) || false)) && ready n)
better_ready ready id best any is h =
    least_agree (better_of ready (Some id) best) (λ n. (any n && ready n) || (id == n)) (λ n. (any n || ((id == n) || false)) && ready n)
    (λ n. with_ready (any n) (id == n) (ready n) (λ e. ap ready (sym (eqb-true id n e)) ∙ is))
    (elim (cases_Bool (is_lesser id best)) [
      | inl lesser ↦ rw (lesser, is) (least_more id best (λ n. any n && ready n) h lesser)
      | inr lesser ↦ rw lesser (least_stays id best (λ n. any n && ready n) h lesser)
    ])

unready : (id : ℕ) (best : Option ℕ) (ready : ℕ → Bool) → ready id ≡ false → better_of ready (Some id) best ≡ best
unready id best ready not_ready = elim (cases_Bool (is_lesser id best)) [ inl lesser ↦ rw (lesser, not_ready) refl | inr lesser ↦ rw lesser refl ]

better_step : (ready : ℕ → Bool) (front best : Option ℕ) (any : ℕ → Bool) → IsLeast best (λ n. any n && ready n) → IsLeast (better_of ready front best) (λ n. (any n || (is_number n front || false)) && ready n)
better_step ready None best any h = least_agree best (λ n. any n && ready n) (λ n. (any n || false) && ready n) (λ n. ap (λ x. x && ready n) (sym (or_false (any n)))) h
better_step ready (Some id) best any h = elim (cases_Bool (ready id)) [
  | inl is ↦ better_ready ready id best any is h
  | inr is ↦ rw (unready id best ready is)
      (least_agree best (λ n. any n && ready n) (λ n. (any n || ((id == n) || false)) && ready n)
      (λ n. without_ready (any n) (id == n) (ready n) (λ e. ap ready (sym (eqb-true id n e)) ∙ is)) h)
]

pub due_none : (now : ℕ) (running : List ℕ) (es : List (ℕ × Job)) → IsLeastDue None now running es []
due_none now running es = record { least = λ n. refl }

pub due_more : (now : ℕ) (running : List ℕ) (es : List (ℕ × Job)) (qs : List Queue) (i : ℕ) (q : Queue) (best next : Option ℕ) → i < length qs → q ≡ get_or qs i q → next ≡ better_of (is_ready_id now running es) (slice_get q.ids.items 0) best
    → IsLeastDue best now running es (take i qs) → IsLeastDue next now running es (take (i + 1) qs)
due_more now running es qs i q best next less read is h =
    let more : take (i + 1) qs ≡ take i qs ++ q ∷ [] = take_more qs i q less ∙ ap (λ (x : Queue). take i qs ++ x ∷ []) (sym read) in
    rw (is, more) (record {
      least = least_agree _ _ _ (λ n. ap (λ x. x && is_ready_id now running es n) (sym (list_any-append (is_front n) (take i qs) (q ∷ []))))
          (better_step (is_ready_id now running es) (slice_get q.ids.items 0) best (λ n. list_any (is_front n) (take i qs)) h.least);
    })

-- ---- the next job is the least that passes its test

any_from : (test : Job → Bool) (n from : ℕ) (es : List (ℕ × Job)) → IsKeyed from es → list_any (λ job. test job && (job.id == n)) (jobs_of es) ≡ true → from ≤ n
any_from test n from [] keyed h = cc
any_from test n from (e ∷ es) keyed h = elim (or_cases _ _ h) [
  | inl k ↦ let at : e.1.id ≡ n = eqb-true e.1.id n (and_parts (test e.1) (e.1.id == n) k).1 in omega (arith, at, keyed.0, keyed.1)
  | inr k ↦ let le : e.0 + 1 ≤ n = any_from test n (e.0 + 1) es keyed.2 k in omega (arith, le, keyed.0)
]

find_least : (test : Job → Bool) (from : ℕ) (es : List (ℕ × Job)) → IsKeyed from es → IsLeast (option_map (λ job. job.id) (find test (jobs_of es))) (λ n. list_any (λ job. test job && (job.id == n)) (jobs_of es))
find_least test from [] keyed = λ n. refl
find_least test from (e ∷ es) keyed = elim (cases_Bool (test e.1)) [
  | inl h ↦ rw h (
    or_left (e.1.id == e.1.id) _ (eq-eqb e.1.id e.1.id refl),
    (λ n k. elim (or_cases (e.1.id == n) _ k) [
      | inl p ↦ let at : e.1.id ≡ n = eqb-true e.1.id n p in omega (arith, at)
      | inr p ↦ let le : e.0 + 1 ≤ n = any_from test n (e.0 + 1) es keyed.2 p in omega (arith, le, keyed.1)
    ]),
  )
  | inr h ↦ rw h (find_least test (e.0 + 1) es keyed.2)
]

-- ---- both tests pass the same ids

member_any : (p : Job → Bool) (id : ℕ) (es : List (ℕ × Job)) (job : Job) → job_at id es ≡ Some job → p job ≡ true → list_any p (jobs_of es) ≡ true
member_any p id [] job is h = absurd (let w : None ≡ Some job = is in cc)
member_any p id (e ∷ es) job is h = elim (cases_eq id e.0) [
  | inl same ↦ or_left (p e.1) _ (ap p (same_Some e.1 job (rw (at_same id e.0 same) at is)) ∙ h)
  | inr apart ↦ or_right (p e.1) _ (member_any p id es job (rw (at_apart id e.0 apart) at is) h)
]

first_any : (p : Job → Bool) (jobs : List Job) → list_any p jobs ≡ true → (job : Job) × (find p jobs ≡ Some job) × (p job ≡ true)
first_any p [] h = absurd (let w : false ≡ true = h in cc)
first_any p (job ∷ jobs) h = elim (cases_Bool (p job)) [
  | inl k ↦ (job, (rw k refl), k)
  | inr k ↦ let on = first_any p jobs (rw k at h) in (on.0, (rw k on.1), on.2)
]

front_any : (n : ℕ) (lane : LaneId) (qs : List Queue) → slice_get (ids_of lane qs) 0 ≡ Some n → list_any (is_front n) qs ≡ true
front_any n lane [] h = absurd (let w : None ≡ Some n = h in cc)
front_any n lane (q ∷ qs) h = elim (cases_Bool (is_queue lane q)) [
  | inl k ↦ let at : slice_get q.ids.items 0 ≡ Some n = rw k at h in or_left (is_front n q) _ (ap (is_number n) at ∙ eq-eqb n n refl)
  | inr k ↦ or_right (is_front n q) _ (front_any n lane qs (rw k at h))
]

number_some : (n : ℕ) (o : Option ℕ) → is_number n o ≡ true → o ≡ Some n
number_some n None h = cc
number_some n (Some m) h = ap (λ x. Some x) (eqb-true m n h)

any_front : (n : ℕ) (qs : List Queue) → ((lane : LaneId) → AtMostOne (is_queue lane) qs) → list_any (is_front n) qs ≡ true → (lane : LaneId) × (slice_get (ids_of lane qs) 0 ≡ Some n)
any_front n [] apart h = absurd (let w : false ≡ true = h in cc)
any_front n (q ∷ qs) apart h = elim (or_cases (is_front n q) (list_any (is_front n) qs) h) [
  | inl k ↦ (q.lane, (let at : is_queue q.lane q ≡ true = same_lane-same q.lane in rw at (number_some n (slice_get q.ids.items 0) k)))
  | inr k ↦
      let on = any_front n qs (λ l. (apart l).1) k in (
        on.0,
        elim (cases_Bool (is_queue on.0 q)) [
          | inl p ↦
              let none : ids_of on.0 qs ≡ [] = no_ids on.0 qs ((apart on.0).0 p) in
              absurd (let w : None ≡ Some n = ap (λ (ids : List ℕ). slice_get ids 0) (sym none) ∙ on.1 in cc)
          | inr p ↦ rw p on.1
        ],
      )
]

due_some : (now : ℕ) (o : Option Job) → is_due now o ≡ true → (job : Job) × (o ≡ Some job) × (nat_le job.due now ≡ true)
due_some now None h = absurd (let w : false ≡ true = h in cc)
due_some now (Some job) h = (job, refl, h)

head_lane : (lane : LaneId) (jobs : List Job) (job : Job) → head lane jobs ≡ Some job → same_lane job.lane lane ≡ true
head_lane lane [] job is = absurd (let w : None ≡ Some job = is in cc)
head_lane lane (x ∷ jobs) job is = elim (cases_Bool (same_lane x.lane lane)) [
  | inl h ↦ ap (λ (j : Job). same_lane j.lane lane) (sym (same_Some x job (rw h at is))) ∙ h
  | inr h ↦ head_lane lane jobs job (rw h at is)
]

id_some : (n : ℕ) (o : Option Job) → has_id n o ≡ true → option_map (λ job. job.id) o ≡ Some n
id_some n None h = cc
id_some n (Some job) h = ap (λ m. Some m) (eqb-true job.id n h)

pub due_is_next : (now : ℕ) (running : List ℕ) (es : List (ℕ × Job)) (qs : List Queue) (o : Option ℕ) → IsIndex es qs → IsLeastDue o now running es qs → o ≡ option_map (λ job. job.id) (next_due now running (jobs_of es))
due_is_next now running es qs o index least =
    least_one o _ (λ n. list_any (λ job. test job && (job.id == n)) (jobs_of es))
    (least_agree o _ _ (λ n. same_test (list_any (is_front n) qs && is_ready_id now running es n) (list_any (λ job. test job && (job.id == n)) (jobs_of es)) (forth n) (back n)) least.least)
    (find_least test 0 es index.keyed)
  where
    test : Job → Bool
    test = λ job. is_head (jobs_of es) job && (nat_le job.due now && not (list_any (λ id. id == job.id) running))

    forth : (n : ℕ) → (list_any (is_front n) qs && is_ready_id now running es n) ≡ true → list_any (λ job. test job && (job.id == n)) (jobs_of es) ≡ true
    forth n h =
        let parts = and_parts (list_any (is_front n) qs) (is_ready_id now running es n) h in
        let ready = and_parts (not (list_any (λ id. id == n) running)) (is_due now (job_at n es)) parts.1 in
        let due = due_some now (job_at n es) ready.1 in
        let front = any_front n qs index.sound.one parts.0 in
        let first = some_id (head front.0 (jobs_of es)) n (sym (sym (ap (λ (ids : List ℕ). slice_get ids 0) (index.lists front.0)) ∙ front.1) ∙ ids_head front.0 (jobs_of es)) in
        let found : job_at first.0.id es ≡ Some first.0 = found_at (λ job. same_lane job.lane front.0) 0 es first.0 index.keyed first.1 in
        let same : due.0 ≡ first.0 = same_Some due.0 first.0 (sym due.1 ∙ ap (λ m. job_at m es) (sym first.2) ∙ found) in
        let lane : first.0.lane ≡ front.0 = same_lane-true first.0.lane front.0 (head_lane front.0 (jobs_of es) first.0 first.1) in
        let leads : is_head (jobs_of es) first.0 ≡ true = ap (has_id first.0.id) (ap (λ l. head l (jobs_of es)) lane ∙ first.1) ∙ eq-eqb first.0.id first.0.id refl in
        let on_time : nat_le first.0.due now ≡ true = ap (λ (j : Job). nat_le j.due now) (sym same) ∙ due.2 in
        let free : not (list_any (λ id. id == first.0.id) running) ≡ true = ap (λ (m : ℕ). not (list_any (λ id. id == m) running)) first.2 ∙ ready.0 in
        member_any (λ job. test job && (job.id == n)) n es first.0 (ap (λ m. job_at m es) (sym first.2) ∙ found)
        (and_from (test first.0) (first.0.id == n) (and_from (is_head (jobs_of es) first.0) _ leads (and_from (nat_le first.0.due now) _ on_time free)) (eq-eqb first.0.id n first.2))

    back : (n : ℕ) → list_any (λ job. test job && (job.id == n)) (jobs_of es) ≡ true → (list_any (is_front n) qs && is_ready_id now running es n) ≡ true
    back n h =
        let found = first_any (λ job. test job && (job.id == n)) (jobs_of es) h in
        let parts = and_parts (test found.0) (found.0.id == n) found.2 in
        let tests = and_parts (is_head (jobs_of es) found.0) _ parts.0 in
        let ready = and_parts (nat_le found.0.due now) (not (list_any (λ id. id == found.0.id) running)) tests.1 in
        let id : found.0.id ≡ n = eqb-true found.0.id n parts.1 in
        let at : job_at n es ≡ Some found.0 = ap (λ m. job_at m es) (sym id) ∙ found_at (λ job. test job && (job.id == n)) 0 es found.0 index.keyed found.1 in
        let front : slice_get (ids_of found.0.lane qs) 0 ≡ Some n =
        ap (λ (ids : List ℕ). slice_get ids 0) (index.lists found.0.lane) ∙ ids_head found.0.lane (jobs_of es) ∙ id_some found.0.id (head found.0.lane (jobs_of es)) tests.0 ∙ ap (λ m. Some m) id in
        let free : not (list_any (λ id. id == n) running) ≡ true = ap (λ (m : ℕ). not (list_any (λ id. id == m) running)) (sym id) ∙ ready.1 in
        let due : is_due now (job_at n es) ≡ true = ap (is_due now) at ∙ ready.0 in
        and_from (list_any (is_front n) qs) (is_ready_id now running es n) (front_any n found.0.lane qs front) (and_from (not (list_any (λ id. id == n) running)) (is_due now (job_at n es)) free due)

-- the next job is the one under that id
pub next_by_id : (now : ℕ) (running : List ℕ) (es : List (ℕ × Job)) (id : ℕ) → IsKeyed 0 es → Some id ≡ option_map (λ job. job.id) (next_due now running (jobs_of es)) → job_at id es ≡ next_due now running (jobs_of es)
next_by_id now running es id keyed is =
    let found = some_id (next_due now running (jobs_of es)) id is in
    ap (λ n. job_at n es) (sym found.2)
    ∙ found_at (λ job. is_head (jobs_of es) job && (nat_le job.due now && not (list_any (λ id. id == job.id) running))) 0 es found.0 keyed found.1
    ∙ sym found.1
