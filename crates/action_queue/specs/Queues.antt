-- The queues of lanes, by the ids that wait in each lane.
use Rattle.std.specs.Prelude.{ℕ, ◌≡◌, ◌==◌, Bool, false, if◌then◌else◌, Option, Some, None, is_none, List, [], ◌∷◌, ◌++◌, drop, slice_get}
use Rattle.f2b_base.specs.declared.job.Job.{Job}
use Rattle.f2b_base.specs.declared.job.JobKind.{JobKind}
use Rattle.f2b_base.specs.declared.job.LaneId.{LaneId}
use Rattle.f2b_model.specs.Checks.{is_stop}
use Rattle.f2b_model.specs.Families.{same_lane}
use Rattle.f2b_model.specs.LaneSound.{NonePasses, AtMostOne}
use Rattle.action_queue.specs.declared.queue.Queue.{Queue}

-- the id is there, and this one
abbrev pub is_number : ℕ → Option ℕ → Bool
is_number id None = false
is_number id (Some number) = number == id

abbrev pub is_queue : LaneId → Queue → Bool
is_queue lane q = same_lane q.lane lane

-- a part of the lane's queue, or what stands for it where the lane has none
abbrev pub part_of : {X : Type 0} → (Queue → X) → X → LaneId → List Queue → X
part_of part none lane [] = none
part_of part none lane (q ∷ qs) = if is_queue lane q then part q else part_of part none lane qs

-- the ids that wait in a lane
abbrev pub ids_of : LaneId → List Queue → List ℕ
ids_of lane qs = part_of (λ q. q.ids.items) [] lane qs

-- the id of the last Stop that waits in a lane
abbrev pub stop_of : LaneId → List Queue → Option ℕ
stop_of lane qs = part_of (λ q. q.stop) None lane qs

-- the last Stop of a lane, once a job of that id and kind stands behind the others
abbrev pub stop_after : ℕ → JobKind → Option ℕ → Option ℕ
stop_after id kind stop = if is_stop kind then Some id else stop

-- the last Stop of a lane, once that id is gone
abbrev pub stop_without : Option ℕ → Option ℕ → Option ℕ
stop_without None stop = stop
stop_without (Some id) stop = if is_number id stop then None else stop

-- the last Stop of a lane, once the first of its ids is gone: none waits behind the last
abbrev pub stop_left : List ℕ → Option ℕ → Option ℕ
stop_left [] stop = None
stop_left (id ∷ []) stop = None
stop_left (id ∷ (next ∷ ids)) stop = stop_without (Some id) stop

-- no id waits in the queue
abbrev pub is_empty : Queue → Bool
is_empty q = is_none (slice_get q.ids.items 0)

-- each lane has one queue at most, and no queue is empty
pub record AreQueues (qs : List Queue) : Type 0 where
  pub one : (lane : LaneId) → AtMostOne (is_queue lane) qs
  pub full : NonePasses is_empty qs

-- the id of a job of that kind waits behind the others of the lane, and else nothing changes
pub record Added (lane : LaneId) (id : ℕ) (kind : JobKind) (old new : List Queue) : Type 0 where
  pub ids : (l : LaneId) → ids_of l new ≡ (if same_lane lane l then ids_of l old ++ id ∷ [] else ids_of l old)
  pub stop : (l : LaneId) → stop_of l new ≡ (if same_lane lane l then stop_after id kind (stop_of l old) else stop_of l old)
  pub keeps : AreQueues old → AreQueues new

-- the first id of the lane is gone, and else nothing changes
pub record Dropped (lane : LaneId) (old new : List Queue) : Type 0 where
  pub ids : (l : LaneId) → ids_of l new ≡ (if same_lane lane l then drop 1 (ids_of l old) else ids_of l old)
  pub stop : (l : LaneId) → stop_of l new ≡ (if same_lane lane l then stop_left (ids_of l old) (stop_of l old) else stop_of l old)
  pub keeps : AreQueues old → AreQueues new

-- the same ids wait in each lane, and the same one is its last Stop
pub record SameIds (old new : List Queue) : Type 0 where
  pub ids : (l : LaneId) → ids_of l new ≡ ids_of l old
  pub stop : (l : LaneId) → stop_of l new ≡ stop_of l old
  pub keeps : AreQueues old → AreQueues new

-- the queues after the lane's first job stays, or goes
abbrev pub FollowsJob : LaneId → Option Job → List Queue → List Queue → Type 0
FollowsJob lane None old new = AreQueues old → Dropped lane old new
FollowsJob lane (Some job) old new = new ≡ old
