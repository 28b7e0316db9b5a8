use Rattle.client_frames.proofs.FrameLemmas.{wants_none}
use Rattle.client_frames.proofs.conn.Conn.new.Goals as goal

pub invariant_of-result : goal.invariant_of-result
invariant_of-result c = rw c.new.ensures (λ unrefused. (wants_none.some, wants_none.few))
