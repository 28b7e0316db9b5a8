use Rattle.std.proofs.Common.{drop}
use Rattle.jail_conf.specs.Texts.{IsUtf8Jail}
use Rattle.f2b_model.specs.Lists.{AllOf}
use Rattle.jail_conf.proofs.texts.see_jails.Given as goal

abbrev pub invariant-loop-jail : goal.invariant-loop-jail
invariant-loop-jail l = AllOf IsUtf8Jail (drop l.jail-index l.jails) → AllOf IsUtf8Jail l.jails
