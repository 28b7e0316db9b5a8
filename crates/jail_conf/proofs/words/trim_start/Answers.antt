use Rattle.std.proofs.Common.{◌≡◌, ◌∙◌, sym, below_more, length, get_or, true, arith, rules}
use Rattle.std.proofs.lemmas.Str.{IsCharBoundary-after_ascii, IsCharBoundary-start}
use Rattle.std.proofs.Math.Seq.{drop-length}
use Rattle.ini_interp.specs.Lines.{is_blank}
use Rattle.jail_conf.proofs.TrimLemmas.{trimmed_start_at, blank_is_ascii}
use Rattle.jail_conf.proofs.words.trim_start.Goals as goal

pub loop-place-init : goal.loop-place-init
loop-place-init c = record { blanks = λ k below. absurd (omega arith); boundary = IsCharBoundary-start c.args.text.now c.utf8.text }

pub returns-then-not-is_blank : goal.returns-then-not-is_blank
returns-then-not-is_blank c =
    c.range_from.ensures.value ∙ trimmed_start_at c.args.text.now c.loop-place.place (omega arith) c.loop-place.invariant.blanks (λ within. search rules)

pub loop-place-preserved : goal.loop-place-preserved
loop-place-preserved c =
    let blank : is_blank (get_or c.args.text.now c.loop-place.place 0) ≡ true = search rules in
    record {
      blanks = below_more _ _ c.loop-place.invariant.blanks blank;
      boundary = IsCharBoundary-after_ascii c.args.text.now c.loop-place.place c.utf8.text (omega arith) (blank_is_ascii _ blank);
    }

pub returns : goal.returns
returns c =
    let end = drop-length c.args.text.now in
    sym end ∙ trimmed_start_at c.args.text.now (length c.args.text.now) (omega arith) (λ k below. c.loop-place.invariant.blanks k (omega arith)) (λ within. absurd (omega arith))
