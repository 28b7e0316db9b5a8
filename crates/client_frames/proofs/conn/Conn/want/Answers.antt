use Rattle.client_frames.proofs.FrameLemmas.{within_missing}
use Rattle.client_frames.proofs.conn.Conn.want.Goals as goal

pub missing-requires : goal.missing-requires
missing-requires c = rw c.as_slice.ensures (within_missing c.self.inside.came (c.self.invariant c.if-self.false).0)
