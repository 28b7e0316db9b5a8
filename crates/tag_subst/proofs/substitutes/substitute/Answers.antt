use Rattle.std.proofs.lemmas.Result.{err_from_is_err_and}
use Rattle.tag_subst.proofs.DoneLemmas.{told_at}
use Rattle.tag_subst.proofs.substitutes.substitute.Goals as goal

pub returns-in_err-read-clause-told : goal.returns-in_err-read-clause-told
returns-in_err-read-clause-told c =
    let p = err_from_is_err_and c.from_residual.result c.from_residual.ensures.1 in
    rw (p.1, p.2)
    (told_at c.args.items.now c.args.scope.now c.args.text.now c.new-kept.result c.in_err-read.field-0.0 c.new-kept.ensures c.in_err-read.ensures.fault)
