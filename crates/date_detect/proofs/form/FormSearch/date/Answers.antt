use Rattle.std.proofs.Common.{FitsSigned, w32, to_z-of_z, sym, ◌∙◌}
use Rattle.date_detect.proofs.DateLemmas.{matched, unmatched, behind_bracket}
use Rattle.date_detect.proofs.form.FormSearch.date.Goals as goal

pub returns-in-Some-clause-found : goal.returns-in-Some-clause-found
returns-in-Some-clause-found c =
    let zone : FitsSigned w32 c.args.zone = c.ranges.zone in
    let found = rw (to_z-of_z zone) at c.in-Some.ensures.found in
    found ∙ matched c.args.self.now c.args.now c.args.zone c.args.line.now _ (sym c.in-Some.ensures.matched)

pub returns-in-None-clause-found : goal.returns-in-None-clause-found
returns-in-None-clause-found c =
    let zone : FitsSigned w32 c.args.zone = c.ranges.zone in
    let found = rw (c.matched.ensures.same, to_z-of_z zone) at c.behind_bracket.ensures.found in
    rw c.if-anchored.true
    (found ∙ behind_bracket c.args.self.now c.args.now c.args.zone c.args.line.now (sym c.in-None.ensures.matched))

pub returns-in-None-2-clause-found : goal.returns-in-None-2-clause-found
returns-in-None-2-clause-found c = rw c.if-anchored.false (unmatched _ _ _ _ (sym c.in-None.ensures.matched))
