use Rattle.log_set.proofs.log.Log.take.Goals as goal

pub returns-clause-place : goal.returns-clause-place
returns-clause-place c = c.moved_to-moved.ensures.storable c.in_ok-place.ensures.bounds
