use Rattle.std.proofs.Common.{◌≡◌, ◌<◌, ◌-◌, ◌∙◌, ap, length, get_or, take, drop, arith, rules, true}
use Rattle.ini_interp.specs.Lines.{is_blank, trimmed}
use Rattle.jail_conf.specs.Words.{last_word_len}
use Rattle.jail_conf.proofs.TrimLemmas.{word_boundary, word_place}
use Rattle.jail_conf.proofs.logs.cut_last_word.Goals as goal
use Rattle.jail_conf.proofs.logs.cut_last_word.Goals.{then-loop-start-test+else-not-is_blank, else-loop-start-test}

pub range-requires-clause-end_boundary : goal.range-requires-clause-end_boundary
range-requires-clause-end_boundary c =
    let stop : 0 < c.loop-start.start → is_blank (get_or c.args.line.now (c.loop-start.start - 1) 0) ≡ true =
    λ some. elim c.loop-start-test.branch [ then-loop-start-test+else-not-is_blank w ↦ search rules | else-loop-start-test w ↦ absurd (omega arith) ] in
    word_boundary c.args.line.now c.loop-start.start c.utf8.line c.loop-start.invariant.within stop

pub range_from-requires : goal.range_from-requires
range_from-requires c =
    let stop : 0 < c.loop-start.start → is_blank (get_or c.args.line.now (c.loop-start.start - 1) 0) ≡ true =
    λ some. elim c.loop-start-test.branch [ then-loop-start-test+else-not-is_blank w ↦ search rules | else-loop-start-test w ↦ absurd (omega arith) ] in
    λ _. word_boundary c.args.line.now c.loop-start.start c.utf8.line c.loop-start.invariant.within stop

pub returns-clause-before : goal.returns-clause-before
returns-clause-before c =
    let stop : 0 < c.loop-start.start → is_blank (get_or c.args.line.now (c.loop-start.start - 1) 0) ≡ true =
    λ some. elim c.loop-start-test.branch [ then-loop-start-test+else-not-is_blank w ↦ search rules | else-loop-start-test w ↦ absurd (omega arith) ] in
    let place = word_place c.args.line.now c.loop-start.start c.loop-start.invariant.within c.loop-start.invariant.word stop in
    let long : c.loop-start.start - 0 ≡ length c.args.line.now - last_word_len c.args.line.now = omega (arith, place) in
    c.trim.ensures ∙ (ap trimmed c.range.ensures.value ∙ ap (λ n. trimmed (take n c.args.line.now)) long)

pub returns-clause-word : goal.returns-clause-word
returns-clause-word c =
    let stop : 0 < c.loop-start.start → is_blank (get_or c.args.line.now (c.loop-start.start - 1) 0) ≡ true =
    λ some. elim c.loop-start-test.branch [ then-loop-start-test+else-not-is_blank w ↦ search rules | else-loop-start-test w ↦ absurd (omega arith) ] in
    c.range_from.ensures.value ∙ ap (λ n. drop n c.args.line.now) (word_place c.args.line.now c.loop-start.start c.loop-start.invariant.within c.loop-start.invariant.word stop)
