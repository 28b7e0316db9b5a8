use Rattle.std.proofs.Common.{ap, filter, ◌∙◌, arith}
use Rattle.log_follow.specs.Globs.{behind_slash, fits, to_slash}
use Rattle.log_follow.proofs.ExpandLemmas.{push_watch, expansion}
use Rattle.log_follow.proofs.expand.expand_path.Goals as goal

pub loop-name-preserved : goal.loop-name-preserved
loop-name-preserved c =
    push_watch c.args.watch.now c.deref-name-items.result.now c.loop-name.name-index _ c.loop-name.watches c.push-in-loop-name.new.self c.cut.result.0.now c.in_ok-path.path
    c.loop-name-test.true c.loop-name.invariant (c.cut.ensures.front ∙ ap to_slash c.as_str-path.ensures.value) c.in_ok-path.ensures c.in_ok-push-2.ensures.ok

pub returns-clause-expanded : goal.returns-clause-expanded
returns-clause-expanded c = λ wild.
    expansion c.args.watch.now c.args.names.now c.in_ok-found.found.items c.sort_unstable.new.self.items c.truncate.new.self.items c.deref-name-items.result.now
    c.loop-name.watches c.loop-name.name-index c.cut.result.1.now (c.in_ok-found.ensures ∙ ap (filter (fits c.cut.result.1.now)) c.as_slice.ensures)
    (c.cut.ensures.back ∙ ap behind_slash c.as_str-path.ensures.value) c.sort_unstable.ensures.permutation c.sort_unstable.ensures.sorted c.truncate.ensures.items
    c.deref-name-items.ensures.value (omega arith) c.loop-name.invariant
