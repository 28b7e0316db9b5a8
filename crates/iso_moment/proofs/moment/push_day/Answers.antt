use Rattle.std.proofs.Common.{◌++◌, ◌∙◌, ap, sym, to_z-of_z, unsigned_abs}
use Rattle.iso_moment.proofs.MomentLemmas.{on_ok_more, written_day, year_back}
use Rattle.iso_moment.proofs.moment.push_day.Goals as goal

pub returns : goal.returns
returns c =
    let date = c.in-Ok.date in
    let number = c.in-Ok.ensures.value ∙ to_z-of_z c.ranges.day in
    let year = c.unsigned_abs.ensures.value ∙ ap unsigned_abs (year_back date) in
    let is = written_day date c.args.day c.unsigned_abs.result number c.requires.0 year in
    on_ok_more c.push_date.result _ _ (λ written. written ∙ ap (λ text. c.args.text.now ++ text) (sym is)) c.push_date.ensures
