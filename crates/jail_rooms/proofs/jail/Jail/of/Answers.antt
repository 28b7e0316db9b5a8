use Rattle.std.proofs.Common.{sym, subst}
use Rattle.f2b_base.specs.declared.jail.JailDef.{JailDef}
use Rattle.jail_moves.specs.Rooms.{IsKeptJail}
use Rattle.jail_rooms.proofs.jail.Jail.of.Goals as goal

pub returns-clause-kept : goal.returns-clause-kept
returns-clause-kept c = λ next stored. subst (λ (d : JailDef). IsKeptJail c.args.at next d c.in_ok-room.room) (sym c.in_ok-copy.ensures) (c.in_ok-room.ensures.kept next stored)
