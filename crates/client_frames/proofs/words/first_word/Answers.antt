use Rattle.std.proofs.Common.{◌≡◌, ◌++◌, ◌∙◌, length, take, drop, sym, ap, ap₂, subst, arith, List, ℕ, IsUtf8}
use Rattle.std.proofs.lemmas.List.{take_rest}
use Rattle.client_frames.specs.Frames.{word_spelling}
use Rattle.client_frames.proofs.WordLemmas.{no_word_in_few, no_word_of_bytes, no_word_past_end, word_is}
use Rattle.client_frames.proofs.words.first_word.Goals as goal

pub returns-in_default-clause-none : goal.returns-in_default-clause-none
returns-in_default-clause-none c = no_word_in_few c.args.bytes.now c.in_default.len_below

pub returns-then-rest-count-clause-none : goal.returns-then-rest-count-clause-none
returns-then-rest-count-clause-none c =
    let bytes = c.args.bytes.now in
    no_word_past_end bytes c.from-count.result (c.from-count.ensures ∙ c.from_be_bytes.ensures) (omega (arith, c.if-rest-count.true, ap length (take_rest bytes 2)))

pub returns-in_err-word-clause-none : goal.returns-in_err-word-clause-none
returns-in_err-word-clause-none c =
    let bytes = c.args.bytes.now in
    let count = c.from-count.result in
    let front : c.split_at.result.0.now ≡ take count (drop 2 bytes) = c.split_at.ensures.front ∙ ap (take count) (take_rest bytes 2) in
    rw c.from_residual.ensures (no_word_of_bytes bytes count (c.from-count.ensures ∙ c.from_be_bytes.ensures) (λ text. c.in_err-word.ensures.none (subst IsUtf8 (sym front) text)))

pub returns-clause-is : goal.returns-clause-is
returns-clause-is c =
    let bytes = c.args.bytes.now in
    let count = c.from-count.result in
    let front : c.split_at.result.0.now ≡ take count (drop 2 bytes) = c.split_at.ensures.front ∙ ap (take count) (take_rest bytes 2) in
    let back : c.split_at.result.1.now ≡ drop count (drop 2 bytes) = c.split_at.ensures.back ∙ ap (drop count) (take_rest bytes 2) in
    word_is bytes count c.in-len2-up.len_at_least (λ i. (c.type_inv.bytes i).fits) (c.from-count.ensures ∙ c.from_be_bytes.ensures) (omega (arith, c.if-rest-count.false, ap length (take_rest bytes 2)))
    ∙ ap₂ (λ (word others : List ℕ). word_spelling word ++ others) (sym (c.in_ok-word.ensures.some ∙ front)) (sym back)
