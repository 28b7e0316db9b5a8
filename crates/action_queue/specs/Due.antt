-- The least id that may start.
use Rattle.std.specs.Prelude.{ℕ, ◌≡◌, ◌≤◌, ◌==◌, nat_le, nat_lt, Bool, true, false, not, ◌&&◌, if◌then◌else◌, Option, Some, None, List, slice_get}
use Rattle.std.specs.List.{list_any}
use Rattle.f2b_base.specs.declared.job.Job.{Job}
use Rattle.action_queue.specs.declared.queue.Queue.{Queue}
use Rattle.action_queue.specs.Index.{job_at}
use Rattle.action_queue.specs.Queues.{is_number}

-- the queue begins with the id
abbrev pub is_front : ℕ → Queue → Bool
is_front id q = is_number id (slice_get q.ids.items 0)

-- the job is there and due
abbrev pub is_due : ℕ → Option Job → Bool
is_due now None = false
is_due now (Some job) = nat_le job.due now

-- the job of that id does not run, and is due
abbrev pub is_ready_id : ℕ → List ℕ → List (ℕ × Job) → ℕ → Bool
is_ready_id now running entries id = not (list_any (λ other. other == id) running) && is_due now (job_at id entries)

-- the least number that passes the test, or none where none does
abbrev pub IsLeast : Option ℕ → (ℕ → Bool) → Type 0
IsLeast None test = (n : ℕ) → test n ≡ false
IsLeast (Some least) test = (test least ≡ true) × ((n : ℕ) → test n ≡ true → least ≤ n)

-- the least id that a queue begins with and whose job is ready
pub record IsLeastDue (id : Option ℕ) (now : ℕ) (running : List ℕ) (entries : List (ℕ × Job)) (qs : List Queue) : Type 0 where
  pub least : IsLeast id (λ n. list_any (is_front n) qs && is_ready_id now running entries n)

-- the number is less than the other, or there is no other
abbrev pub is_lesser : ℕ → Option ℕ → Bool
is_lesser n None = true
is_lesser n (Some other) = nat_lt n other

-- the least so far, after one number more
abbrev pub better_of : (ℕ → Bool) → Option ℕ → Option ℕ → Option ℕ
better_of ready None best = best
better_of ready (Some id) best = if is_lesser id best && ready id then Some id else best
