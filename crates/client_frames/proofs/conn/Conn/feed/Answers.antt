use Rattle.std.proofs.Common.{◌≤◌, length, subst, sym, lit≤}
use Rattle.client_frames.specs.Comes.{Hearing, wanted}
use Rattle.client_frames.specs.Frames.{most_request}
use Rattle.client_frames.proofs.FrameLemmas.{fed, part_wants, wants_none, within_fed}
use Rattle.client_frames.proofs.conn.Conn.feed.Goals as goal

pub heard-requires : goal.heard-requires
heard-requires c =
    let came = c.self.inside.came in
    let bytes = c.args.bytes.now in
    let is_fed = fed came bytes c.self.inside.refused c.requires.some (subst (λ (hearing : Hearing). length bytes ≤ wanted hearing) (sym c.self.view_is) c.requires.few) in
    rw (c.as_slice.ensures, c.in_ok-push_slice.ensures.ok) (within_fed came bytes is_fed.some is_fed.few)

pub invariant_of-self-in-Ok-None : goal.invariant_of-self-in-Ok-None
invariant_of-self-in-Ok-None c = λ unrefused.
    let part = rw c.in-Ok-None.field-0-is at c.in-Ok-None.ensures.is in
    let wants = part_wants most_request c.push_slice.new.self (lit≤ tt) (rw c.as_slice.ensures at part) in
    (wants.some, wants.few)

pub invariant_of-self-in-Ok-Some : goal.invariant_of-self-in-Ok-Some
invariant_of-self-in-Ok-Some c = rw c.clear.ensures (λ unrefused. (wants_none.some, wants_none.few))
