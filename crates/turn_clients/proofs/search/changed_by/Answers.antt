use Rattle.turn_clients.proofs.SearchLemmas.{changed_findtime, changed_idle}
use Rattle.turn_clients.proofs.search.changed_by.Goals as goal

pub returns-in-Findtime : goal.returns-in-Findtime
returns-in-Findtime c = changed_findtime c.args.core.now c.args.change.now c.args.logs c.with_findtime.result _ _ c.in-Findtime.is c.with_findtime.ensures

pub returns-in-Idle : goal.returns-in-Idle
returns-in-Idle c = changed_idle c.args.core.now c.args.change.now c.args.logs c.with_idle.result _ _ c.in-Idle.is c.with_idle.ensures
