use Rattle.std.proofs.lemmas.Result.{IfOk-weaker}
use Rattle.fail_window.specs.Added.{IsAdded}
use Rattle.fail_window.specs.Kept.{failures_of}
use Rattle.fail_window.specs.Opened.{TellsFull}
use Rattle.fail_window.proofs.window.Window.add.Goals as goal

pub returns-clause-full : goal.returns-clause-full
returns-clause-full c =
    let w = c.self.inside in
    rw (← c.self.view_is) (IfOk-weaker c.add.result (IsAdded w.findtime w.maxretry c.args.now (failures_of w.kept) (failures_of c.add.new.self) c.args.failure) _
    (λ full added. added.tells) c.add.ensures.ok)
