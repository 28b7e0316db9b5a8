-- The lane's queue begins with the number of its first job.
use Rattle.std.proofs.Common.{sym, ap, ◌∙◌}
use Rattle.std.specs.Prelude.{slice_get}
use Rattle.action_queue.proofs.QueueLemmas.{ids_some, ids_none}
use Rattle.action_queue.proofs.queue.first_id.Goals as goal

pub returns-in-Some : goal.returns-in-Some
returns-in-Some c =
    c.front_of.ensures
    ∙ ap (λ ids. slice_get ids 0) (ids_some c.args.lane.now c.args.queues.now c.in-Some.place c.index-queues-place.result (sym c.place_of.ensures ∙ c.in-Some.is))

pub returns-in-None : goal.returns-in-None
returns-in-None c = ap (λ ids. slice_get ids 0) (sym (ids_none c.args.lane.now c.args.queues.now (sym c.place_of.ensures ∙ c.in-None.is)))
