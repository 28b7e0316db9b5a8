use Rattle.std.proofs.Common.{◌≡◌, ◌<◌, ◌-◌, get_or, arith, rules, false}
use Rattle.std.proofs.lemmas.Grind.{common_steps}
use Rattle.ini_interp.specs.Lines.{is_blank}
use Rattle.jail_conf.proofs.TrimLemmas.{trimmed_end_at}
use Rattle.client_words.proofs.numbers.trim_end.Goals as goal
use Rattle.client_words.proofs.numbers.trim_end.Goals.{then-loop-end-test+else-is_blank, else-loop-end-test}

pub returns : goal.returns
returns c =
    let stop : 0 < c.loop-end.end → is_blank (get_or c.args.text.now (c.loop-end.end - 1) 0) ≡ false =
    λ some. elim c.loop-end-test.branch [ then-loop-end-test+else-is_blank w ↦ search rules | else-loop-end-test w ↦ absurd (omega arith) ] in
    let cut = trimmed_end_at c.args.text.now c.loop-end.end c.loop-end.invariant.within c.loop-end.invariant.blanks stop in
    grind (arith, common_steps, cut)
