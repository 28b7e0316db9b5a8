use Rattle.std.proofs.Common.{◌≡◌, length, ap, arith}
use Rattle.std.proofs.lemmas.Bool.{false≢true}
use Rattle.client_frames.proofs.WordLemmas.{length-spelling_more, spelling-none, word_within}
use Rattle.client_frames.proofs.request.are_few.Goals as goal

pub loop-word-init : goal.loop-word-init
loop-word-init c = omega (arith, ap length spelling-none)

pub returns-then-left-len : goal.returns-then-left-len
returns-then-left-len c =
    let within = word_within c.args.words.now c.loop-word.word-index c.word-item.result c.loop-word-test.true c.word-item.is in
    let len : length c.as_str.result.now ≡ length c.word-item.result = ap length c.as_str.ensures.value in
    (λ no. absurd (false≢true no), λ few. absurd (omega (arith, within, len, c.saturating_add-len.ensures)))

pub loop-word-preserved : goal.loop-word-preserved
loop-word-preserved c =
    let more = length-spelling_more c.args.words.now c.loop-word.word-index c.word-item.result c.loop-word-test.true c.word-item.is in
    let len : length c.as_str.result.now ≡ length c.word-item.result = ap length c.as_str.ensures.value in
    omega (arith, more, len, c.saturating_add-len.ensures)
