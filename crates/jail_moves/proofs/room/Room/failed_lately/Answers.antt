use Rattle.std.proofs.Common.{◌∙◌, ap}
use Rattle.jail_moves.specs.Lately.{failed_lately}
use Rattle.jail_moves.specs.Rooms.{Contents}
use Rattle.jail_moves.proofs.LatelyLemmas.{room_lately}
use Rattle.jail_moves.proofs.room.Room.failed_lately.Goals as goal

pub returns : goal.returns
returns c =
    c.failed_lately.ensures
    ∙ ap (λ (r : Contents). failed_lately c.args.now r.windows.findtime r.windows.failures) c.self.view_is
    ∙ room_lately c.args.now c.args.definition.now c.args.self.now c.requires.limits c.requires.later
