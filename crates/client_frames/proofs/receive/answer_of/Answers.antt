use Rattle.std.proofs.Common.{◌∙◌, subst, sym, IsUtf8}
use Rattle.std.proofs.lemmas.List.{take_rest}
use Rattle.client_frames.specs.declared.answer.Answer.{Answer}
use Rattle.client_frames.proofs.ReplyLemmas.{no_reply_empty, no_reply_first, no_reply_text, reply_is}
use Rattle.client_frames.proofs.receive.answer_of.Goals as goal

pub returns-in_default : goal.returns-in_default
returns-in_default c = no_reply_empty c.args.body.now c.in_default.len_below

pub returns-in_default-accepted_by : goal.returns-in_default-accepted_by
returns-in_default-accepted_by c = no_reply_first c.args.body.now c.in_default-accepted_by.ensures.none

pub returns-in_default-utf8_of : goal.returns-in_default-utf8_of
returns-in_default-utf8_of c = no_reply_text c.args.body.now (λ text. c.in_default-utf8_of.ensures.none (subst IsUtf8 (sym (take_rest c.args.body.now 1)) text))

pub returns : goal.returns
returns c =
    let answer : Answer = record { accepted = c.in-Some.accepted; text = c.in_ok-text.text } in
    let reply = reply_is c.args.body.now answer c.in-len1-up.len_at_least c.requires c.in-Some.ensures.some
    (c.in_ok-text.ensures ∙ c.in-Some-utf8_of.ensures.some ∙ take_rest c.args.body.now 1) (subst IsUtf8 (sym c.in_ok-text.ensures) c.in-Some-utf8_of.ensures.text) in
    (reply.is, reply.fits)
