use Rattle.std.proofs.Common.{◌+◌, ◌∙◌, [], List, ℕ, Ok, Err, ap, length, subst, arith}
use Rattle.std.proofs.lemmas.Result.{err_from_is_err_and}
use Rattle.client_frames.specs.Replies.{Fills, IsTrueOf, Says}
use Rattle.client_frames.proofs.ReceiveLemmas.{begins_with_fault, bounds_of, goes_on_with_fault, is_true_of_whole, received_then, received_weaker, whole_came, whole_is}
use Rattle.client_frames.proofs.receive.receive_reply.Goals as goal

pub returns-in_err-receive_to-clause-received : goal.returns-in_err-receive_to-clause-received
returns-in_err-receive_to-clause-received g c =
    let error = c.in_err-receive_to.field-0.0 in
    let received = rw c.new-came.ensures at c.in_err-receive_to.ensures.received in
    let gives = err_from_is_err_and c.from_residual.result c.from_residual.ensures.1 in
    rw (gives.1, gives.2) (received_weaker (Fills 4 [] c.receive_to.new.came (Err error)) (IsTrueOf (Err error)) _ _ (begins_with_fault c.receive_to.new.came error) received)

pub length_of-requires : goal.length_of-requires
length_of-requires g c = ap length c.as_slice.ensures ∙ c.in_ok-receive_to.ensures.whole

pub receive_to-requires-2 : goal.receive_to-requires-2
receive_to-requires-2 g c = omega (arith, c.in_ok-receive_to.ensures.whole)

pub returns-in_err-receive_to-2-clause-received : goal.returns-in_err-receive_to-2-clause-received
returns-in_err-receive_to-2-clause-received g c =
    let count = c.in_ok-count.count in
    let came = c.receive_to.new.came in
    let whole = c.receive_to-2.new.came in
    let error = c.in_err-receive_to-2.field-0.0 in
    let first = rw c.new-came.ensures at c.in_ok-receive_to.ensures.received in
    let says : Says came (Ok count) = subst (λ (bytes : List ℕ). Says bytes (Ok count)) c.as_slice.ensures c.in_ok-count.ensures in
    let gives = err_from_is_err_and c.from_residual-in_err-receive_to-2.result c.from_residual-in_err-receive_to-2.ensures.1 in
    rw (gives.1, gives.2) (received_then (Fills 4 [] came (Ok tt)) (Fills (4 + count) came whole (Err error)) (IsTrueOf (Err error))
    (λ xs ys e d begun ended. goes_on_with_fault count came whole error xs ys e d says begun ended) _ _ _ first c.in_err-receive_to-2.ensures.received)

pub reply_of-requires : goal.reply_of-requires
reply_of-requires g c =
    let count = c.in_ok-count.count in
    let says : Says c.receive_to.new.came (Ok count) = subst (λ (bytes : List ℕ). Says bytes (Ok count)) c.as_slice.ensures c.in_ok-count.ensures in
    rw c.as_slice-2.ensures (whole_is count c.receive_to.new.came c.receive_to-2.new.came says c.in_ok-receive_to-2.ensures.more c.in_ok-receive_to-2.ensures.whole)

pub returns-clause-received : goal.returns-clause-received
returns-clause-received g c =
    let count = c.in_ok-count.count in
    let came = c.receive_to.new.came in
    let whole = c.receive_to-2.new.came in
    let first = rw c.new-came.ensures at c.in_ok-receive_to.ensures.received in
    let says : Says came (Ok count) = subst (λ (bytes : List ℕ). Says bytes (Ok count)) c.as_slice.ensures c.in_ok-count.ensures in
    let judges = rw c.as_slice-2.ensures at c.reply_of.ensures in
    received_then (Fills 4 [] came (Ok tt)) (Fills (4 + count) came whole (Ok tt)) (IsTrueOf c.reply_of.result)
    (λ xs ys e d begun ended. is_true_of_whole whole c.reply_of.result _ d (whole_came count came whole xs ys e d says begun ended) judges) _ _ _ first c.in_ok-receive_to-2.ensures.received

pub returns-clause-bounds : goal.returns-clause-bounds
returns-clause-bounds g c = bounds_of c.as_slice-2.result.now c.reply_of.result c.reply_of.ensures
