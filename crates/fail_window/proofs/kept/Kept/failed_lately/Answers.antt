use Rattle.std.proofs.Common.{sym, ◌∙◌}
use Rattle.fail_window.specs.Kept.{failures_of}
use Rattle.fail_window.proofs.FindtimeLemmas.{any_by_last}
use Rattle.fail_window.proofs.kept.Kept.failed_lately.Goals as goal

pub returns-in-Some : goal.returns-in-Some
returns-in-Some c =
    c.is_close.ensures ∙ sym (any_by_last c.args.now c.args.findtime (failures_of c.args.self.now) c.in-Some.last.now c.requires c.in-Some.ensures.last)
