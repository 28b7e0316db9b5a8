-- The last Stop of the lane's queue.
use Rattle.std.proofs.Common.{sym, ◌∙◌}
use Rattle.action_queue.proofs.QueueLemmas.{stop_some, stop_none}
use Rattle.action_queue.proofs.queue.last_stop.Goals as goal

pub returns-in-Some : goal.returns-in-Some
returns-in-Some c = stop_some c.args.lane.now c.args.queues.now c.in-Some.place c.index-queues-place.result (sym c.place_of.ensures ∙ c.in-Some.is)

pub returns-in-None : goal.returns-in-None
returns-in-None c = sym (stop_none c.args.lane.now c.args.queues.now (sym c.place_of.ensures ∙ c.in-None.is))
