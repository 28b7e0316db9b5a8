use Rattle.std.proofs.Common.{◌≡◌, ◌≤◌, drop}
use Rattle.std.specs.VecDeque.{deque_len, deque_capacity}
use Rattle.fail_window.proofs.runs.drop_old.Given as goal

abbrev pub invariant-drops : goal.invariant-drops
invariant-drops l = record {
  items : l.kept.items ≡ drop l.counter l.fn.kept.items;
  fewer : deque_len l.kept ≤ deque_len l.fn.kept;
  room : deque_capacity l.kept ≡ deque_capacity l.fn.kept;
}
