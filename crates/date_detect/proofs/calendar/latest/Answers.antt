use Rattle.std.proofs.Common.{◌≡◌, ◌-◌, ◌+◌, suc, is_some, pos, rules, ap, ap₂, sym, ◌∙◌, arith}
use Rattle.date_detect.specs.Calendar.{moment_by, year_at, latest, first_back}
use Rattle.date_detect.proofs.YearLemmas.{first_back-none, first_back-some, first_back-zero}
use Rattle.date_detect.proofs.calendar.latest.Goals as goal

pub loop-back-init : goal.loop-back-init
unfolding latest
loop-back-init c =
    let limit = c.min-limit.ensures in
    let year : c.year_at-year.result - 0 ≡ year_at (pos (c.min-limit.result + 86400)) c.args.date.zone = search rules in
    ap (λ year. first_back (moment_by (c.min-limit.result + 86400) c.args.date) year 9) year
    ∙ ap (λ limit. first_back (moment_by (limit + 86400) c.args.date) (year_at (pos (limit + 86400)) c.args.date.zone) 9) c.min-limit.ensures

pub returns-then-is_some : goal.returns-then-is_some
returns-then-is_some c =
    let left : 9 - c.loop-back.back ≡ suc (8 - c.loop-back.back) = omega arith in
    let in_year = moment_by (c.min-limit.result + 86400) c.args.date in
    let some = ap is_some (sym c.moment_by-moment.ensures) ∙ sym c.is_some.ensures ∙ c.if-is_some.true in
    c.moment_by-moment.ensures
    ∙ sym (first_back-some in_year (c.year_at-year.result - c.loop-back.back) (8 - c.loop-back.back) some)
    ∙ ap (first_back in_year (c.year_at-year.result - c.loop-back.back)) (sym left)
    ∙ c.loop-back.invariant

pub loop-back-preserved : goal.loop-back-preserved
loop-back-preserved c =
    let left : 9 - c.loop-back.back ≡ suc (8 - c.loop-back.back) = omega arith in
    let fewer : 9 - (c.loop-back.back + 1) ≡ 8 - c.loop-back.back = omega arith in
    let earlier : c.year_at-year.result - (c.loop-back.back + 1) ≡ c.year_at-year.result - c.loop-back.back - 1 = omega arith in
    let in_year = moment_by (c.min-limit.result + 86400) c.args.date in
    let none = ap is_some (sym c.moment_by-moment.ensures) ∙ sym c.is_some.ensures ∙ c.if-is_some.false in
    ap₂ (first_back in_year) earlier fewer
    ∙ sym (first_back-none in_year (c.year_at-year.result - c.loop-back.back) (8 - c.loop-back.back) none)
    ∙ ap (first_back in_year (c.year_at-year.result - c.loop-back.back)) (sym left)
    ∙ c.loop-back.invariant

pub returns : goal.returns
returns c =
    let none : 9 - c.loop-back.back ≡ 0 = omega arith in
    let in_year = moment_by (c.min-limit.result + 86400) c.args.date in
    sym (first_back-zero in_year (c.year_at-year.result - c.loop-back.back))
    ∙ ap (first_back in_year (c.year_at-year.result - c.loop-back.back)) (sym none)
    ∙ c.loop-back.invariant
