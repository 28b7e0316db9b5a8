use Rattle.std.proofs.Common.{drop}
use Rattle.std.specs.Prelude.{IsUtf8}
use Rattle.f2b_model.specs.Lists.{AllOf}
use Rattle.jail_conf.proofs.texts.see_texts.Given as goal

abbrev pub invariant-loop-text : goal.invariant-loop-text
invariant-loop-text l = AllOf IsUtf8 (drop l.text-index l.texts) → AllOf IsUtf8 l.texts
