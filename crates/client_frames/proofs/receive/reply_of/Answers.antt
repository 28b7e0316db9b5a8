use Rattle.std.proofs.Common.{subst, arith, List, ℕ}
use Rattle.client_frames.specs.Replies.{Answers}
use Rattle.client_frames.proofs.ReceiveLemmas.{judges_frame}
use Rattle.client_frames.proofs.receive.reply_of.Goals as goal

pub split_at-requires : goal.split_at-requires
split_at-requires c = omega (arith, c.requires.len)

pub answer_of-requires : goal.answer_of-requires
answer_of-requires c = omega (arith, c.split_at.ensures.back_len, c.requires.len, c.requires.few)

pub returns : goal.returns
returns c =
    judges_frame c.args.whole.now c.answer_of.result (λ i. (c.type_inv.whole i).fits) c.requires
    (subst (λ (body : List ℕ). Answers body c.answer_of.result) c.split_at.ensures.back c.answer_of.ensures)
