use Rattle.std.proofs.Common.{drop}
use Rattle.jail_conf.specs.Texts.{IsUtf8Log}
use Rattle.f2b_model.specs.Lists.{AllOf}
use Rattle.jail_conf.proofs.texts.see_logs.Given as goal

abbrev pub invariant-loop-log : goal.invariant-loop-log
invariant-loop-log l = AllOf IsUtf8Log (drop l.log-index l.logs) → AllOf IsUtf8Log l.logs
