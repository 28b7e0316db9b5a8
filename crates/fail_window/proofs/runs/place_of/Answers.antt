use Rattle.std.proofs.Common.{not, arith, rules}
use Rattle.std.proofs.lemmas.List.Sorted.{IsPartitionPoint-from_clause}
use Rattle.fail_window.specs.Times.{by_time}
use Rattle.fail_window.proofs.PlaceLemmas.{not_later, parted_at, placed_at, time_order}
use Rattle.fail_window.proofs.runs.place_of.Goals as goal

pub returns-clause-place : goal.returns-clause-place
returns-clause-place c =
    let parted = parted_at by_time time_order c.args.failure.now c.args.kept.now.items c.requires in
    let point = IsPartitionPoint-from_clause (λ y. not (by_time c.args.failure.now y)) _ _ c.partition_point.ensures.partitioned parted
    (λ a r f k. search (rules, not_later)) in
    placed_at by_time c.args.failure.now c.args.kept.now.items c.partition_point.result (omega arith) point
