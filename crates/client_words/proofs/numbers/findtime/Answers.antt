use Rattle.std.proofs.Common.{◌∙◌, sym, FitsSigned, w64, to_z-of_z, rules}
use Rattle.client_words.proofs.BoundLemmas.{span_is, time_word_is}
use Rattle.client_words.proofs.numbers.findtime.Goals as goal

pub returns-in-Some-clause-bounds : goal.returns-in-Some-clause-bounds
returns-in-Some-clause-bounds c =
    let fits : FitsSigned w64 c.in-Some.secs = search rules in
    let from = rw (to_z-of_z fits) at c.if-secs-ge1.true in
    rw (to_z-of_z fits) (span_is c.in-Some.secs (time_word_is _ c.in-Some.secs (sym c.str2sec.ensures ∙ c.in-Some.is)) from)
