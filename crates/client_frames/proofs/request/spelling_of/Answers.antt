use Rattle.std.proofs.Common.{◌++◌, ◌∙◌, length, take, sym, ap, arith, List, ℕ}
use Rattle.client_frames.specs.Frames.{spelling, word_spelling}
use Rattle.client_frames.proofs.WordLemmas.{spelling-more, spelling-none, word_within}
use Rattle.client_frames.proofs.request.spelling_of.Goals as goal

pub loop-word-init : goal.loop-word-init
loop-word-init c = c.new-body.ensures ∙ sym spelling-none

pub push_word-requires : goal.push_word-requires
push_word-requires c =
    let within = word_within c.args.words.now c.loop-word.word-index c.word-item.result c.loop-word-test.true c.word-item.is in
    omega (arith, within, c.requires, ap length c.as_str.ensures.value)

pub loop-word-preserved : goal.loop-word-preserved
loop-word-preserved c =
    c.in_ok-push_word.ensures ∙ ap (λ (body : List ℕ). body ++ word_spelling c.as_str.result.now) c.loop-word.invariant
    ∙ ap (λ (word : List ℕ). spelling (take c.loop-word.word-index c.args.words.now) ++ word_spelling word) c.as_str.ensures.value
    ∙ sym (spelling-more c.args.words.now c.loop-word.word-index c.word-item.result c.loop-word-test.true c.word-item.is)
