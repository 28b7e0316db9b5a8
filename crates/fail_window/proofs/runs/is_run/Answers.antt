use Rattle.std.proofs.Common.{sym, ◌∙◌, arith}
use Rattle.f2b_model.proofs.FullLemmas.{lt_true, true_lt}
use Rattle.fail_window.proofs.RunLemmas.{run_by_times}
use Rattle.fail_window.proofs.runs.is_run.Goals as goal

pub returns : goal.returns
returns c =
    let run = run_by_times c.args.findtime c.args.maxretry c.args.index c.args.kept.now.items c.index.result.now c.index-2.result.now (omega arith) c.requires.maxretry c.index.ensures c.index-2.ensures in
    (λ t. run.0 (lt_true _ _ (sym c.is_close.ensures ∙ t)), λ r. c.is_close.ensures ∙ true_lt _ _ (run.1 r))
