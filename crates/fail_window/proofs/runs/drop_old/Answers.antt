use Rattle.std.proofs.Common.{◌≡◌, not, drop, arith, rules, ◌∙◌, ap}
use Rattle.std.proofs.lemmas.List.Sorted.{IsPartitionPoint-from_clause}
use Rattle.f2b_model.specs.Full.{is_recent}
use Rattle.fail_window.proofs.PlaceLemmas.{drop_more, filter_behind, parted_old}
use Rattle.fail_window.proofs.runs.drop_old.Goals as goal

pub drops-preserved : goal.drops-preserved
drops-preserved c = record {
  items = c.pop_front.ensures.rest ∙ ap (λ fs. drop 1 fs) c.drops.invariant.items ∙ drop_more c.drops.counter c.args.kept.now.items;
  fewer = omega (arith, c.pop_front.ensures.len);
  room = c.pop_front.ensures.capacity ∙ c.drops.invariant.room;
}

pub returns-clause-kept : goal.returns-clause-kept
returns-clause-kept c =
    let at = c.args.at in
    let findtime = c.args.findtime in
    let fs = c.args.kept.now.items in
    let parted = parted_old at findtime fs c.requires in
    let point = IsPartitionPoint-from_clause (λ f. not (is_recent at findtime f)) _ _ c.partition_point-old.ensures.partitioned parted (λ a r f k. search rules) in
    let all : c.drops.counter ≡ c.partition_point-old.result = omega arith in
    c.drops.invariant.items ∙ ap (λ k. drop k fs) all ∙ filter_behind (is_recent at findtime) fs c.partition_point-old.result (omega arith) point
