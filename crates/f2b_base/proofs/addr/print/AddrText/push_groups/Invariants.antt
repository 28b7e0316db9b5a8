use Rattle.std.proofs.Common.{◌≡◌, ◌+◌, ◌*◌, ◌≤◌, ◌∷◌, ◌++◌, length, take, get_or}
use Rattle.std.specs.Net.Text.{groups_text}
use Rattle.f2b_base.proofs.addr.print.AddrText.push_groups.Given as goal

abbrev pub invariant-loop-group : goal.invariant-loop-group
invariant-loop-group l = record {
  value : l.self ≡ l.fn.self ++ groups_text (get_or l.fn.groups 0 0 ∷ take l.group-index l.rest);
  room : length l.self ≤ length l.fn.self + 5 * l.group-index + 4;
}
