use Rattle.std.proofs.Common.{◌*◌, sym, ◌∙◌}
use Rattle.fail_window.specs.Kept.{failures_of}
use Rattle.fail_window.proofs.FindtimeLemmas.{any_by_last}
use Rattle.fail_window.proofs.kept.Kept.has_recent.Goals as goal

pub returns-in-Some : goal.returns-in-Some
returns-in-Some c =
    c.is_recent.ensures ∙ sym (any_by_last c.args.at (2 * c.args.findtime) (failures_of c.args.self.now) c.in-Some.last.now c.requires c.in-Some.ensures.last)
