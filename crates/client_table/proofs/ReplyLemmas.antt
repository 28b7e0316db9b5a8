-- How long the frame of a reply is.
use Rattle.std.proofs.Common.{◌≡◌, ℕ, ◌+◌, ◌≤◌, List, length, ap, arith}
use Rattle.client_frames.specs.Frames.{most_text, reply, reply_body}
use Rattle.client_frames.specs.declared.answer.Answer.{Answer}
use Rattle.client_frames.proofs.FrameLemmas.{length-framed}
use Rattle.client_table.specs.Clients.{most_frame}

length-reply : (answer : Answer) → length (reply answer) ≡ 5 + length answer.text
unfolding reply reply_body
length-reply answer = omega (arith, length-framed (reply_body answer))

pub few_framed : (answer : Answer) (frame : List ℕ) → frame ≡ reply answer → length answer.text ≤ most_text → length frame ≤ most_frame
few_framed answer frame is few = omega (arith, ap length is, length-reply answer)
