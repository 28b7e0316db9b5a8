-- Which calls come where nothing is left to write, and what the calls that write an input lead to.
use Rattle.std.proofs.Common.{ℕ, ◌≡◌, List, [], ◌∷◌, Option, Some, None, refl, ap}
use Rattle.std.specs.Prelude.{IfSome, option_map, slice_get}
use Rattle.f2b_world.specs.declared.event.Event.{Event}
use Rattle.f2b_world.specs.declared.event.Event.TheVariants.{DiskLen, DiskRead, DiskWrite, DiskSync}
use Rattle.child_table.specs.declared.child.Child.{Child}
use Rattle.client_table.specs.Clients.{asks_at, conn_at}
use Rattle.run_law.specs.Calls.{Call, AskKill, AskPoll, AskWrite, IsNext, Makes}
use Rattle.run_law.specs.Law.{MayCome, call_behind, call_of, next_call, point_call, turn_call}
use Rattle.run_law.specs.Looks.{log_call}
use Rattle.run_law.specs.News.{writing}
use Rattle.run_law.specs.Paths.{Path}
use Rattle.run_law.specs.Patterns.{Pattern}
use Rattle.run_law.specs.Points.{Place, AtClock, AtLook, AtPoll, AtKill, AtAccept, AtClient, AtClose, Rereading, OfTree, OfMakes, OfNames, AtReload, AtStart, AtPause, Point, AtTree, AtMakes, AtStore, AtListen, AtFirst, AtNames, AtTurn, Over, Run}
use Rattle.run_law.specs.Server.{Server}
use Rattle.run_law.specs.Reading.{make_call, names_call}
use Rattle.run_law.specs.Reload.{reload_call}
use Rattle.run_law.specs.declared.plan.Plan.{Plan}
use Rattle.run_law.proofs.ServingLemmas.{asked_is}
use Rattle.run_law.specs.declared.status.Status.TheVariants.{SinkFault}
use Rattle.slot_writes.specs.Writes.{Write, Put, Sync}

-- ---- events beside the disk

-- no call on the disk
abbrev pub IsBeside : Event → Type 0
IsBeside (DiskLen slot answer) = ⊥
IsBeside (DiskRead slot at len answer) = ⊥
IsBeside (DiskWrite slot at bytes answer) = ⊥
IsBeside (DiskSync slot answer) = ⊥
IsBeside _ = Unit {0}

abbrev pub IsNoWrite : Call → Type 0
IsNoWrite (AskWrite w) = ⊥
IsNoWrite _ = Unit {0}

-- a call that is no write is none on the disk
call_beside : (call : Call) (event : Event) → IsNoWrite call → Makes call event → IsBeside event
call_beside (AskWrite w) event other makes = absurd other
call_beside call (DiskLen slot answer) other makes = makes
call_beside call (DiskRead slot at len answer) other makes = makes
call_beside call (DiskWrite slot at bytes answer) other makes = makes
call_beside call (DiskSync slot answer) other makes = makes
call_beside call event other makes = tt

pub next_beside : (o : Option Call) (event : Event) → IfSome o IsNoWrite → IsNext o event → IsBeside event
next_beside None event other next = absurd next
next_beside (Some call) event other next = call_beside call event other next

-- no call of a point writes

mapped_no_write : {A : Type 0} (o : Option A) (f : A → Call) → ((x : A) → IsNoWrite (f x)) → IfSome (option_map f o) IsNoWrite
mapped_no_write None f each = tt
mapped_no_write (Some x) f each = each x

makes_no_write : (left : List Pattern) → IfSome (make_call left) IsNoWrite
makes_no_write [] = tt
makes_no_write (p ∷ ps) = tt

names_no_write : (left : List Path) → IfSome (names_call left) IsNoWrite
names_no_write [] = tt
names_no_write (p ∷ ps) = tt

reload_no_write : (plan : Plan) (reading : Rereading) → IfSome (reload_call plan reading) IsNoWrite
reload_no_write plan OfTree = tt
reload_no_write plan (OfMakes settings left) = makes_no_write left
reload_no_write plan (OfNames settings naming) = names_no_write naming.left

turn_no_write : (plan : Plan) (place : Place) (s : Server) → IfSome (turn_call plan place s) IsNoWrite
turn_no_write plan AtClock s = tt
turn_no_write plan (AtLook i) s = mapped_no_write (slice_get s.logs i) log_call (λ l. tt)
turn_no_write plan (AtPoll i) s = mapped_no_write (slice_get s.children.running i) (λ (c : Child). AskPoll c.job) (λ c. tt)
turn_no_write plan (AtKill i) s = mapped_no_write (slice_get s.children.running i) (λ (c : Child). AskKill c.job) (λ c. tt)
turn_no_write plan AtAccept s = tt
turn_no_write plan (AtClient i) s = asked_is IsNoWrite (conn_at i s.clients) (asks_at i s.clients) (λ bytes. tt) (λ most. tt)
turn_no_write plan (AtClose i) s = tt
turn_no_write plan (AtReload reading i) s = reload_no_write plan reading
turn_no_write plan (AtStart c text) s = tt
turn_no_write plan AtPause s = tt

pub point_no_write : (plan : Plan) (point : Point) → IfSome (point_call plan point) IsNoWrite
point_no_write plan AtTree = tt
point_no_write plan (AtMakes settings left) = makes_no_write left
point_no_write plan (AtStore settings) = tt
point_no_write plan (AtListen settings l) = tt
point_no_write plan (AtFirst settings l) = tt
point_no_write plan (AtNames settings naming s) = names_no_write naming.left
point_no_write plan (AtTurn place s) = turn_no_write plan place s
point_no_write plan (Over status) = tt

pub call_no_write : (plan : Plan) (point : Point) (owed : List (List ℕ)) → IfSome (call_of plan point owed) IsNoWrite
call_no_write plan (Over SinkFault) owed = tt
call_no_write plan point [] = point_no_write plan point
call_no_write plan point (line ∷ lines) = tt

-- beside the disk what comes next may come
pub may_beside : (r : Run) (event : Event) → IsBeside event → IsNext (next_call r) event → MayCome r event
may_beside r (DiskLen slot answer) beside next = absurd beside
may_beside r (DiskRead slot at len answer) beside next = absurd beside
may_beside r (DiskWrite slot at bytes answer) beside next = absurd beside
may_beside r (DiskSync slot answer) beside next = absurd beside
may_beside r event beside next = next

-- ---- what is left to write

-- a write is none of the other calls
write_beside : (w : Write) (event : Event) → IsBeside event → Makes (AskWrite w) event → ⊥
write_beside (Put slot at bytes) (DiskWrite there place written answer) beside makes = beside
write_beside (Sync slot) (DiskSync there answer) beside makes = beside
write_beside (Put slot at bytes) event beside makes = makes
write_beside (Sync slot) event beside makes = makes

-- beside the disk a call comes where nothing is left to write
pub none_left : (ws : List Write) (call : Option Call) (event : Event) → IsBeside event → IsNext (call_behind ws call) event → ws ≡ []
none_left [] call event beside next = refl
none_left (w ∷ ws) call event beside next = absurd (write_beside w event beside next)

pub next_behind : (ws : List Write) (call : Option Call) (event : Event) → IsBeside event → IsNext (call_behind ws call) event → IsNext call event
next_behind [] call event beside next = next
next_behind (w ∷ ws) call event beside next = absurd (write_beside w event beside next)

-- where no call comes nothing is left to write
pub none_behind : (ws : List Write) (call : Option Call) → call_behind ws call ≡ None → call ≡ None
none_behind [] call none = none
none_behind (w ∷ ws) call none = absurd (let e : Some (AskWrite w) ≡ None = none in cc)

pub written_call : (ws : List Write) (call : Option Call) → ws ≡ [] → call_behind ws call ≡ call
written_call ws call none = ap (λ (vs : List Write). call_behind vs call) none

-- what is left to write changes no point
pub writing_point : (ws : List Write) (r : Run) → (writing ws r).point ≡ r.point
writing_point [] r = refl
writing_point (w ∷ ws) r = refl

pub writing_plan : (ws : List Write) (r : Run) → (writing ws r).plan ≡ r.plan
writing_plan [] r = refl
writing_plan (w ∷ ws) r = refl

-- and says nothing
pub writing_says : (ws : List Write) (r : Run) → (writing ws r).said ≡ r.said
writing_says [] r = refl
writing_says (w ∷ ws) r = refl
