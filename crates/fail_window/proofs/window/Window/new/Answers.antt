use Rattle.fail_window.proofs.AddLemmas.{none_tidy}
use Rattle.fail_window.proofs.window.Window.new.Goals as goal

pub invariant_of-result : goal.invariant_of-result
invariant_of-result c = rw c.new.ensures (none_tidy c.args.findtime c.args.maxretry c.requires.maxretry)
