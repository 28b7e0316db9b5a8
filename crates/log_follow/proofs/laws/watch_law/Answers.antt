use Rattle.std.proofs.Common.{sym}
use Rattle.log_follow.proofs.FollowLemmas.{new_lines-rest}
use Rattle.log_follow.proofs.LawLemmas.{whole_lines, lines_once, any_cut, base_stays, place_kept}
use Rattle.log_follow.proofs.WatchLemmas.{position_and_carry, length-head_in}
use Rattle.log_follow.proofs.laws.watch_law.Goals as goal

pub returns : goal.returns
returns c = record {
  whole = whole_lines;
  once = lines_once;
  cut = any_cut;
  position = position_and_carry;
  head = length-head_in;
  base = base_stays;
  place = place_kept;
  again = λ w bytes. sym (new_lines-rest w.seen bytes);
}
