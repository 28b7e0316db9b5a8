-- One id fewer in the lane's queue, or no queue where that was the last.
use Rattle.std.proofs.Common.{◌≡◌, ◌<◌, ◌≤◌, Some, length, sym, ap, ◌∙◌, refl, arith}
use Rattle.std.specs.Prelude.{position}
use Rattle.action_queue.specs.Queues.{is_queue, ids_of, stop_without}
use Rattle.action_queue.proofs.QueueLemmas.{first_taken, items_at, dropped_at, dropped_last, dropped_none}
use Rattle.action_queue.proofs.queue.drop_first.Goals as goal

pub returns-then-len-gt1 : goal.returns-then-len-gt1
returns-then-len-gt1 c =
    let is : position (is_queue c.args.lane.now) c.args.queues.now.items ≡ Some c.in-Some.place = ap (position (is_queue c.args.lane.now)) (sym c.deref.ensures.value) ∙ sym c.place_of.ensures ∙ c.in-Some.is in
    let more : 1 < length (ids_of c.args.lane.now c.args.queues.now.items) = omega (arith, c.if-len-gt1.true, c.len.ensures, ap length (items_at c.args.lane.now c.args.queues.now.items c.in-Some.place c.index.result.now is c.index.ensures)) in
    let some : 0 < length c.index_mut-queue.result.now.ids.items = omega (arith, more, ap length (items_at c.args.lane.now c.args.queues.now.items c.in-Some.place c.index_mut-queue.result.now is c.index_mut-queue.ensures.value)) in
    λ sound. dropped_at c.args.lane.now c.args.queues.now.items c.in-Some.place c.index_mut-queue.result.now (record { lane = c.index_mut-queue.result.now.lane; ids = c.pop_front-gone.new.self; stop = c.stop_without-queue.result })
    is c.index_mut-queue.ensures.value refl c.pop_front-gone.ensures.rest (c.stop_without-queue.ensures ∙ ap (λ o. stop_without o c.index_mut-queue.result.now.stop) (first_taken c.index_mut-queue.result.now.ids.items c.pop_front-gone.new.self.items c.pop_front-gone.result c.pop_front-gone.ensures.items c.pop_front-gone.ensures.rest some)) more

pub returns-else-len-gt1 : goal.returns-else-len-gt1
returns-else-len-gt1 c =
    let is : position (is_queue c.args.lane.now) c.args.queues.now.items ≡ Some c.in-Some.place = ap (position (is_queue c.args.lane.now)) (sym c.deref.ensures.value) ∙ sym c.place_of.ensures ∙ c.in-Some.is in
    let few : length (ids_of c.args.lane.now c.args.queues.now.items) ≤ 1 = omega (arith, c.if-len-gt1.false, c.len.ensures, ap length (items_at c.args.lane.now c.args.queues.now.items c.in-Some.place c.index.result.now is c.index.ensures)) in
    λ sound. rw c.remove.ensures.items (dropped_last c.args.lane.now c.args.queues.now.items c.in-Some.place c.index.result.now is few sound)

pub returns-in-None : goal.returns-in-None
returns-in-None c = λ sound. dropped_none c.args.lane.now c.args.queues.now.items (ap (position (is_queue c.args.lane.now)) (sym c.deref.ensures.value) ∙ sym c.place_of.ensures ∙ c.in-None.is)
