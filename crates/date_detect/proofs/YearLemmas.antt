-- The year of a day, and going back through years.
use Rattle.std.proofs.Common.{◌≡◌, ℕ, zero, suc, ◌-◌, ◌<◌, ◌≤◌, inl, inr, Bool, true, false, Option, None, is_some, refl, sym, ◌∙◌, arith, ℤ, pos, negsuc, neg_ℤ, ◌<ℤ◌, ◌≤ℤ◌, int_le, unsigned_abs}
use Rattle.std.proofs.lemmas.Bool.{cases_lt, cond-true, cond-false}
use Rattle.std.proofs.lemmas.Int.{by_lt_z}
use Rattle.jiff_core.specs.Calendar.{days_from_civil, IsCivilDate}
use Rattle.jiff_core.proofs.SignedLemmas.{signed_arith}
use Rattle.jiff_core.proofs.MarchLemmas.{day_count-early}
use Rattle.jiff_core.proofs.CalendarLemmas.{days_from_civil-day_count, day_count-later_year, day_count-day_of_year, day_of_year_bound, day_count-lt_year, days_in_year_bounds}
use borrow.Author.Differences.{le-true, le-false}
use Rattle.date_detect.specs.Calendar.{year_up_to, first_back}
use Rattle.date_detect.proofs.OptionLemmas.{option_or-some, option_or-none}

test_holds : (a b : ℤ) → a ≤ℤ b → int_le a b ≡ true
test_holds a b h = go (int_le a b) refl where
  go : (t : Bool) → int_le a b ≡ t → t ≡ true
  go true e = refl
  go false e = absurd (omega (arith, signed_arith, h, le-false a b e))

test_fails : (a b : ℤ) → b <ℤ a → int_le a b ≡ false
test_fails a b h = go (int_le a b) refl where
  go : (t : Bool) → int_le a b ≡ t → t ≡ false
  go true e = absurd (omega (arith, signed_arith, h, le-true a b e))
  go false e = refl

-- the first day of a year
abbrev begins : ℕ → ℤ
begins year = days_from_civil (pos year) 1 1

-- years begin one after the other
begins_after : (year later : ℕ) → year < later → begins year <ℤ begins later
begins_after year later h =
    omega (
      arith,
      signed_arith,
      days_from_civil-day_count (pos year) 1 1,
      days_from_civil-day_count (pos later) 1 1,
      day_count-later_year (pos year) (pos later) (omega (arith, signed_arith)) (omega (arith, signed_arith)),
      days_in_year_bounds (pos year),
    )

not_sooner : (year later : ℕ) → year ≤ later → begins year ≤ℤ begins later
not_sooner year later h = elim (cases_lt year later) [
  | inl earlier ↦ omega (arith, signed_arith, begins_after year later earlier)
  | inr same ↦ let e : year ≡ later = omega arith in rw e (omega (arith, signed_arith))
]

-- the year that has begun by a day where the next has not
year_up_to-is : (n year : ℕ) (day : ℤ) → year ≤ n → begins year ≤ℤ day → day <ℤ begins (suc year) → year_up_to n day ≡ year
unfolding year_up_to
year_up_to-is zero year day h from to = omega arith
year_up_to-is (suc n) year day h from to = elim (cases_lt year (suc n)) [
  | inl earlier ↦
      cond-false _ _ _ (test_fails (begins (suc n)) day (omega (arith, signed_arith, to, not_sooner (suc year) (suc n) earlier)))
      ∙ year_up_to-is n year day (omega arith) from to
  | inr last ↦
      let same : year ≡ suc n = omega arith in
      cond-true _ _ _ (test_holds (begins (suc n)) day (rw same at from)) ∙ sym same
]

-- the year of a date is the one that it is written with
pub year_of_date : (year month day : ℕ) → IsCivilDate (pos year) month day → year_up_to 9999 (days_from_civil (pos year) month day) ≡ year
year_of_date year month day h =
    let counts = days_from_civil-day_count (pos year) month day in
    let place = day_count-day_of_year (pos year) month day h.2.0 in
    year_up_to-is 9999 year (days_from_civil (pos year) month day) (omega (arith, signed_arith, h.0))
    (omega (arith, signed_arith, counts, place, days_from_civil-day_count (pos year) 1 1, h.2.0))
    (omega (
      arith,
      signed_arith,
      counts,
      place,
      day_of_year_bound (pos year) month day h,
      days_from_civil-day_count (pos (suc year)) 1 1,
      day_count-later_year (pos year) (pos (suc year)) (omega (arith, signed_arith)) (omega (arith, signed_arith)),
    ))

pub year_is : (year : ℤ) (month day : ℕ) → IsCivilDate year month day → pos 0 ≤ℤ year →
    year_up_to 9999 (days_from_civil year month day) ≡ unsigned_abs year
year_is (pos year) month day h low = year_of_date year month day h
year_is (negsuc year) month day h low = absurd (omega (arith, signed_arith, low))

-- the days from about 1901 on lie in years from 8 on
pub not_early : (year : ℤ) (month day : ℕ) → IsCivilDate year month day → neg_ℤ (pos 25_000) ≤ℤ days_from_civil year month day →
    pos 8 ≤ℤ year
not_early year month day h late =
    by_lt_z year (pos 8)
    (λ early. absurd (omega (
      arith,
      signed_arith,
      late,
      days_from_civil-day_count year month day,
      day_count-lt_year year month day (pos 8) 1 1 h (omega arith) early,
      day_count-early (pos 8) 10007 1 1 refl (omega arith) (omega arith) (omega arith),
    )))
    (λ at_least. at_least)

-- going back passes over a year without a moment
pub first_back-none : (in_year : ℕ → Option ℤ) (year n : ℕ) → is_some (in_year year) ≡ false →
    first_back in_year year (suc n) ≡ first_back in_year (year - 1) n
unfolding first_back
first_back-none in_year year n none = option_or-none (in_year year) _ none

-- and stops at one with a moment
pub first_back-some : (in_year : ℕ → Option ℤ) (year n : ℕ) → is_some (in_year year) ≡ true →
    first_back in_year year (suc n) ≡ in_year year
unfolding first_back
first_back-some in_year year n some = option_or-some (in_year year) _ some

pub first_back-zero : (in_year : ℕ → Option ℤ) (year : ℕ) → first_back in_year year 0 ≡ None
unfolding first_back
first_back-zero in_year year = refl
