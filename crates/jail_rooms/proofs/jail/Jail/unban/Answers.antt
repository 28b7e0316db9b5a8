use Rattle.std.proofs.Common.{◌≡◌, true, false, refl, arith, rules}
use Rattle.f2b_model.specs.Steps.{is_meant_jail}
use Rattle.jail_moves.proofs.RoomLemmas.{kept_later}
use Rattle.jail_rooms.proofs.jail.Jail.unban.Goals as goal

pub returns-in_ok-unban-clause-moved : goal.returns-in_ok-unban-clause-moved
returns-in_ok-unban-clause-moved c =
    let meant : is_meant_jail c.args.name.now c.args.self.now.definition ≡ true = search rules in
    record {
      jail = rw meant c.in_ok-unban.ensures.jail;
      kept = λ before next le kept. c.in_ok-unban.ensures.kept next (kept_later before c.args.at next next c.args.self.now.definition c.args.self.now.room kept le (omega arith));
    }

pub returns-else-is_meant-clause-moved : goal.returns-else-is_meant-clause-moved
returns-else-is_meant-clause-moved c =
    let meant : is_meant_jail c.args.name.now c.args.self.now.definition ≡ false = search rules in
    record {
      jail = rw meant refl;
      kept = λ before next le kept. kept_later before c.args.at next next c.args.self.now.definition c.args.self.now.room kept le (omega arith);
    }
