use Rattle.std.proofs.Common.{◌≡◌, ◌+◌, ◌∙◌, ℕ, List, sym, ap, subst, length, drop, arith, Some, Ok, Err}
use Rattle.std.proofs.lemmas.Result.{err_from_is_err_and}
use Rattle.client_frames.specs.Comes.{Reads, said_length, told}
use Rattle.client_frames.proofs.FrameLemmas.{some_within}
use Rattle.client_frames.proofs.HeardLemmas.{heard_empty, heard_none, heard_part, heard_request, heard_too_long, request_is, told_fault, told_is}
use Rattle.client_frames.proofs.request.heard.Goals as goal

pub returns-in_default-clause-heard : goal.returns-in_default-clause-heard
returns-in_default-clause-heard c = sym (heard_none c.args.came.now (sym c.said_length.ensures ∙ c.in_default.is))

pub returns-then-count-eq0-clause-heard : goal.returns-then-count-eq0-clause-heard
returns-then-count-eq0-clause-heard c = sym (heard_empty c.args.came.now (sym c.said_length.ensures ∙ c.in-Some.is ∙ ap (λ n. Some n) c.if-count-eq0.true))

pub returns-then-count-gt-MOST_REQUEST-clause-heard : goal.returns-then-count-gt-MOST_REQUEST-clause-heard
returns-then-count-gt-MOST_REQUEST-clause-heard c =
    sym (heard_too_long c.args.came.now c.in-Some.count (sym c.said_length.ensures ∙ c.in-Some.is) c.if-count-gt-MOST_REQUEST.true)

pub returns-then-came-count-clause-heard : goal.returns-then-came-count-clause-heard
returns-then-came-count-clause-heard c =
    sym (heard_part c.args.came.now c.in-Some.count (sym c.said_length.ensures ∙ c.in-Some.is) (omega arith) (omega arith) (omega arith))

pub returns-in_err-words-clause-is : goal.returns-in_err-words-clause-is
returns-in_err-words-clause-is c =
    let came = c.args.came.now in
    let said : said_length came ≡ Some c.in-Some.count = sym c.said_length.ensures ∙ c.in-Some.is in
    let whole : length came ≡ 4 + c.in-Some.count = omega (arith, some_within came c.in-Some.count said c.requires, c.if-came-count.false) in
    let read : Reads (drop 4 came) (Err c.in_err-words.field-0.0) = subst (λ (body : List ℕ). Reads body (Err c.in_err-words.field-0.0)) c.split_at.ensures.back c.in_err-words.ensures in
    let gives = err_from_is_err_and c.from_residual.result c.from_residual.ensures.1 in
    rw (gives.1, gives.2) (told_fault came c.in-Some.count (λ i. (c.type_inv.came i).fits) said whole (omega arith) c.in_err-words.field-0.0 read)

pub returns-in_err-words-clause-heard : goal.returns-in_err-words-clause-heard
returns-in_err-words-clause-heard c = told_is c.args.came.now (told c.from_residual.result) (λ i. (c.type_inv.came i).fits) (returns-in_err-words-clause-is c)

pub returns-clause-is : goal.returns-clause-is
returns-clause-is c =
    let came = c.args.came.now in
    let said : said_length came ≡ Some c.in-Some.count = sym c.said_length.ensures ∙ c.in-Some.is in
    let whole : length came ≡ 4 + c.in-Some.count = omega (arith, some_within came c.in-Some.count said c.requires, c.if-came-count.false) in
    let read : Reads (drop 4 came) (Ok c.in_ok-words.words) = subst (λ (body : List ℕ). Reads body (Ok c.in_ok-words.words)) c.split_at.ensures.back c.in_ok-words.ensures in
    request_is came c.in-Some.count c.in_ok-words.words (λ i. (c.type_inv.came i).fits) said whole (omega arith) (omega arith) read

pub returns-clause-heard : goal.returns-clause-heard
returns-clause-heard c = sym (heard_request c.args.came.now c.in_ok-words.words (returns-clause-is c))
