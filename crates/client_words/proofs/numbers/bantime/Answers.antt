use Rattle.std.proofs.Common.{◌∙◌, ap, of_z, sym, FitsSigned, w64, to_z-of_z, rules}
use Rattle.client_words.proofs.BoundLemmas.{base_is, time_word_is}
use Rattle.client_words.proofs.numbers.bantime.Goals as goal

pub returns-in-Some-clause-bounds : goal.returns-in-Some-clause-bounds
returns-in-Some-clause-bounds c =
    let fits : FitsSigned w64 c.in-Some.secs = search rules in
    rw (to_z-of_z fits) (base_is c.in-Some.secs (time_word_is _ c.in-Some.secs (sym c.str2sec.ensures ∙ c.in-Some.is)) (λ zero. c.if-secs-ne0.true (ap (of_z w64) zero)))
