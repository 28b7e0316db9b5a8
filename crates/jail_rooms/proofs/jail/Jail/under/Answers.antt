use Rattle.std.proofs.Common.{sym, subst}
use Rattle.f2b_base.specs.declared.jail.JailDef.{JailDef}
use Rattle.jail_moves.specs.Rooms.{IsKeptJail}
use Rattle.jail_rooms.proofs.jail.Jail.under.Goals as goal

pub returns-clause-kept : goal.returns-clause-kept
returns-clause-kept c = λ at next kept. subst (λ (d : JailDef). IsKeptJail at next d c.keep.new.self) (sym c.in_ok-copy.ensures) (c.in_ok-keep.ensures.kept at next kept)
