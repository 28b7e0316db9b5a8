use Rattle.std.proofs.Common.{◌≡◌, pos, neg_ℤ, arith, w16, w64, to_z, of_z, to_z-of_z, ◌≤ℤ◌, ◌≤◌, ◌∙◌, sym, ap, unsigned_abs, ℕ, ℤ, negsuc, FitsSigned}
use Rattle.jiff_core.specs.Calendar.{IsCivilDate, days_from_civil}
use Rattle.jiff_core.proofs.SignedLemmas.{signed_arith, back_small}
use borrow.Author.Differences.{not_negative_in}
use Rattle.date_detect.specs.Calendar.{year_up_to}
use Rattle.date_detect.proofs.YearLemmas.{year_is, not_early}
use Rattle.date_detect.proofs.calendar.year_of.Goals as goal

-- a year from 8 to 9999 comes back from its bits
comes_back : (year : ℤ) → pos 8 ≤ℤ year → year ≤ℤ pos 9999 → to_z w16 (of_z w16 year) ≡ year
comes_back (pos year) low high = back_small w16 (pos year) (omega (arith, signed_arith))
comes_back (negsuc year) low high = absurd (omega (arith, signed_arith, low))

small : (year : ℤ) → pos 8 ≤ℤ year → year ≤ℤ pos 9999 → unsigned_abs year ≤ 9999
small (pos year) low high = omega (arith, signed_arith)
small (negsuc year) low high = absurd (omega (arith, signed_arith, low))

module _ (year day : ℤ) (month date : ℕ) (civil : IsCivilDate year month date) (is : days_from_civil year month date ≡ day)
    (late : neg_ℤ (pos 25_000) ≤ℤ day) where
  from : pos 8 ≤ℤ year
  from = not_early year month date civil (rw is late)

  back : to_z w16 (of_z w16 year) ≡ year
  back = comes_back year from (omega (arith, signed_arith, civil.0))

  value : year_up_to 9999 day ≡ unsigned_abs year
  value = ap (year_up_to 9999) (sym is) ∙ year_is year month date civil (omega (arith, signed_arith, from))

pub overflow_cast-result : goal.overflow_cast-result
overflow_cast-result c =
    let fits : FitsSigned w64 c.args.day = c.ranges.day in
    let civil : IsCivilDate c.in-Ok.date.year c.in-Ok.date.month c.in-Ok.date.day =
    (c.in-Ok.date.year_in, c.in-Ok.date.month_in, c.in-Ok.date.day_in) in
    let is = c.in-Ok.ensures.value ∙ to_z-of_z fits in
    let low = from _ _ _ _ civil is c.requires.0 in
    rw (back _ _ _ _ civil is c.requires.0) (not_negative_in c.in-Ok.date.year (omega (arith, signed_arith, low)), omega (arith, small c.in-Ok.date.year low civil.0.1))

pub returns-clause-value : goal.returns-clause-value
returns-clause-value c =
    let fits : FitsSigned w64 c.args.day = c.ranges.day in
    let civil : IsCivilDate c.in-Ok.date.year c.in-Ok.date.month c.in-Ok.date.day =
    (c.in-Ok.date.year_in, c.in-Ok.date.month_in, c.in-Ok.date.day_in) in
    let is = c.in-Ok.ensures.value ∙ to_z-of_z fits in
    ap unsigned_abs (back _ _ _ _ civil is c.requires.0) ∙ sym (value _ _ _ _ civil is c.requires.0)

pub returns-clause-bound : goal.returns-clause-bound
returns-clause-bound c =
    let fits : FitsSigned w64 c.args.day = c.ranges.day in
    let civil : IsCivilDate c.in-Ok.date.year c.in-Ok.date.month c.in-Ok.date.day =
    (c.in-Ok.date.year_in, c.in-Ok.date.month_in, c.in-Ok.date.day_in) in
    let is = c.in-Ok.ensures.value ∙ to_z-of_z fits in
    rw (back _ _ _ _ civil is c.requires.0) (omega (arith, signed_arith, from _ _ _ _ civil is c.requires.0))
