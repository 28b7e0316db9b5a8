-- One number more in the lane's queue.
use Rattle.std.proofs.Common.{sym, ap, ◌∙◌, refl, rules, ◌++◌, ◌∷◌, []}
use Rattle.std.specs.Prelude.{position}
use Rattle.action_queue.specs.Queues.{is_queue, SameIds}
use Rattle.action_queue.proofs.QueueLemmas.{same_at, added_at, added_new}
use Rattle.action_queue.proofs.queue.add.Goals as goal

pub returns-in_err-push_back-in-Some-clause-err : goal.returns-in_err-push_back-in-Some-clause-err
returns-in_err-push_back-in-Some-clause-err c =
    let same : SameIds c.args.queues.now.items _ = same_at c.args.lane.now c.args.queues.now.items c.in-Some.place c.index_mut-queue.result.now (record { lane = c.index_mut-queue.result.now.lane; ids = c.push_back.new.self; stop = c.index_mut-queue.result.now.stop })
    (ap (position (is_queue c.args.lane.now)) (sym c.deref.ensures.value) ∙ sym c.place_of.ensures ∙ c.in-Some.is) c.index_mut-queue.ensures.value refl c.in_err-push_back-in-Some.ensures.items refl in
    search rules

pub returns-in_ok-push_back-in-Some-clause-ok : goal.returns-in_ok-push_back-in-Some-clause-ok
returns-in_ok-push_back-in-Some-clause-ok c =
    added_at c.args.lane.now c.args.id c.args.kind c.args.queues.now.items c.in-Some.place c.index_mut-queue.result.now (record { lane = c.index_mut-queue.result.now.lane; ids = c.push_back.new.self; stop = c.stop_after-queue.result })
    (ap (position (is_queue c.args.lane.now)) (sym c.deref.ensures.value) ∙ sym c.place_of.ensures ∙ c.in-Some.is) c.index_mut-queue.ensures.value refl c.in_ok-push_back-in-Some.ensures.items c.stop_after-queue.ensures

pub returns-in_ok-push-in-None-clause-ok : goal.returns-in_ok-push-in-None-clause-ok
returns-in_ok-push-in-None-clause-ok c =
    rw c.in_ok-push-in-None.ensures.items
    (added_new c.args.lane.now c.args.id c.args.kind c.args.queues.now.items (record { lane = c.in_ok-lane-in-None.lane; ids = c.push_back-in-None.new.self; stop = c.stop_after-stop.result })
    (ap (position (is_queue c.args.lane.now)) (sym c.deref.ensures.value) ∙ sym c.place_of.ensures ∙ c.in-None.is)
    c.in_ok-lane-in-None.ensures
    (c.in_ok-push_back-in-None.ensures.items ∙ ap (λ xs. xs ++ c.args.id ∷ []) c.new-ids.ensures.items)
    c.stop_after-stop.ensures)
