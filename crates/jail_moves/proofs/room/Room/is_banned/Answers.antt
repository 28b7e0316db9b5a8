use Rattle.std.proofs.Common.{is_some, sym, ◌∙◌, ap}
use Rattle.f2b_model.specs.Moves.{ban_of, is_banned}
use Rattle.jail_moves.specs.Rooms.{Contents}
use Rattle.jail_moves.proofs.RoomLemmas.{is_some-find, is_some-copied}
use Rattle.jail_moves.proofs.room.Room.is_banned.Goals as goal

pub returns : goal.returns
returns c =
    c.is_some.ensures
    ∙ sym (is_some-copied c.active.result)
    ∙ ap is_some c.active.ensures
    ∙ is_some-find (ban_of c.args.addr) c.self.inside.bans.active
    ∙ ap (λ (r : Contents). is_banned c.args.addr r.bans.active) c.self.view_is
