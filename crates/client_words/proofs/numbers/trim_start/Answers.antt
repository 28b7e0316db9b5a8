use Rattle.std.proofs.Common.{◌≡◌, ◌∙◌, sym, length, get_or, false, arith}
use Rattle.std.proofs.Math.Seq.{drop-length}
use Rattle.std.proofs.lemmas.List.{take_rest}
use Rattle.ini_interp.specs.Lines.{is_blank}
use Rattle.jail_conf.proofs.TrimLemmas.{trimmed_start_at}
use Rattle.client_words.proofs.numbers.trim_start.Goals as goal

pub returns-then-not-is_blank : goal.returns-then-not-is_blank
returns-then-not-is_blank c =
    let other : is_blank (get_or c.args.text.now c.loop-place.place 0) ≡ false = sym c.is_blank.ensures ∙ c.if-not-is_blank.true in
    take_rest c.args.text.now c.loop-place.place
    ∙ trimmed_start_at c.args.text.now c.loop-place.place (omega arith) c.loop-place.invariant (λ within. other)

pub returns : goal.returns
returns c =
    let end = drop-length c.args.text.now in
    sym end ∙ trimmed_start_at c.args.text.now (length c.args.text.now) (omega arith) (λ k below. c.loop-place.invariant k (omega arith)) (λ within. absurd (omega arith))
