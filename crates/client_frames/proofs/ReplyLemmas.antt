-- Which bytes are a reply behind its length.
use Rattle.std.proofs.Common.{◌≡◌, ◌≢◌, ℕ, ◌<◌, ◌≤◌, Bool, List, [], ◌∷◌, length, drop, get_or, sym, ap, ap₂, subst, arith, IsUtf8}
use Rattle.client_frames.specs.Frames.{IsReply, most_reply, reply_body, verdict}
use Rattle.client_frames.specs.Replies.{IsNoReply}
use Rattle.client_frames.specs.declared.answer.Answer.{Answer}

pub no_reply_empty : (body : List ℕ) → length body < 1 → IsNoReply body
unfolding reply_body
no_reply_empty body few answer fits is = absurd (omega (arith, ap length is))

pub no_reply_first : (body : List ℕ) → ((accepted : Bool) → get_or body 0 0 ≢ verdict accepted) → IsNoReply body
unfolding reply_body
no_reply_first body none answer fits is = none answer.accepted (ap (λ (bytes : List ℕ). get_or bytes 0 0) is)

pub no_reply_text : (body : List ℕ) → ¬ IsUtf8 (drop 1 body) → IsNoReply body
unfolding reply_body
no_reply_text body none answer fits is = none (subst IsUtf8 (sym (ap (drop 1) is)) fits.text)

-- a reply and its bounds
pub record IsReplyOf (body : List ℕ) (answer : Answer) : Type 0 where
  pub is : body ≡ reply_body answer
  pub fits : IsReply answer

pub reply_is : (body : List ℕ) (answer : Answer) → 1 ≤ length body → length body ≤ most_reply → get_or body 0 0 ≡ verdict answer.accepted
    → answer.text ≡ drop 1 body → IsUtf8 answer.text → IsReplyOf body answer
unfolding reply_body
reply_is [] answer some few first rest text = absurd (omega arith)
reply_is (byte ∷ body) answer some few first rest text = record {
  is = ap₂ (λ (b : ℕ) (bytes : List ℕ). b ∷ bytes) first (sym rest);
  fits = record { short = omega (arith, ap length rest); text = text };
}
