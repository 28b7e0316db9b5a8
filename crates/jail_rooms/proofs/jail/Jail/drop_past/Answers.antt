use Rattle.std.proofs.Common.{arith}
use Rattle.jail_moves.proofs.RoomLemmas.{kept_later}
use Rattle.jail_rooms.proofs.jail.Jail.drop_past.Goals as goal

pub returns : goal.returns
returns c = record {
  jail = c.drop_past.ensures.jail;
  kept = λ before next le kept. c.drop_past.ensures.kept next (kept_later before c.args.at next next c.args.self.now.definition c.args.self.now.room kept le (omega arith));
}
