-- The month and the day of a date are those that it is written with.
use Rattle.std.proofs.Common.{◌≡◌, ℕ, zero, suc, ◌+◌, ◌-◌, ◌<◌, ◌≤◌, inl, inr, Bool, true, false, refl, sym, ap, subst, ◌∙◌, arith, ℤ, pos, negsuc, neg_ℤ, ◌-ℤ◌, ◌<ℤ◌, ◌≤ℤ◌, int_le, unsigned_abs, w16, to_z, of_z, Result, Ok, Err, OnOk}
use Rattle.std.proofs.lemmas.Bool.{cases_lt, cond-true, cond-false}
use Rattle.jiff_core.specs.Calendar.{days_from_civil, IsCivilDate, IsYear}
use Rattle.jiff_core.specs.Date.{epoch_day}
use Rattle.jiff_core.specs.declared.civil.date.Date.{Date}
use Rattle.jiff_core.proofs.DateLemmas.{civil}
use Rattle.jiff_core.proofs.SignedLemmas.{signed_arith, back_small}
use Rattle.jiff_core.proofs.CalendarLemmas.{days_from_civil-day_count, day_count-lt_month, day_count-day}
use borrow.Author.Differences.{le-true, le-false}
use Rattle.date_detect.proofs.YearLemmas.{not_early, year_of_date}
use Rattle.iso_moment.specs.Moments.{date_text, day_of_month, day_text, month_text, month_up_to, year_text}

test_holds : (a b : ℤ) → a ≤ℤ b → int_le a b ≡ true
test_holds a b h = go (int_le a b) refl where
  go : (t : Bool) → int_le a b ≡ t → t ≡ true
  go true e = refl
  go false e = absurd (omega (arith, signed_arith, h, le-false a b e))

test_fails : (a b : ℤ) → b <ℤ a → int_le a b ≡ false
test_fails a b h = go (int_le a b) refl where
  go : (t : Bool) → int_le a b ≡ t → t ≡ false
  go true e = absurd (omega (arith, signed_arith, h, le-true a b e))
  go false e = refl

-- a date lies before the first day of a later month
before_month : (year month day later : ℕ) → IsCivilDate (pos year) month day → month < later →
    days_from_civil (pos year) month day <ℤ days_from_civil (pos year) later 1
before_month year month day later h lt =
    omega (
      arith,
      signed_arith,
      days_from_civil-day_count (pos year) month day,
      days_from_civil-day_count (pos year) later 1,
      day_count-lt_month (pos year) month day later 1 h (omega arith) lt,
    )

-- and not before that of its own
from_month : (year month day : ℕ) → IsCivilDate (pos year) month day → days_from_civil (pos year) month 1 ≤ℤ days_from_civil (pos year) month day
from_month year month day h =
    omega (
      arith,
      signed_arith,
      days_from_civil-day_count (pos year) month day,
      days_from_civil-day_count (pos year) month 1,
      day_count-day (pos year) month day 1 h.2.0 (omega arith),
      h.2.0,
    )

-- the month that has begun by a day where no later one has
month_up_to-is : (year month n : ℕ) (z : ℤ) → month ≤ n → 1 ≤ month → days_from_civil (pos year) month 1 ≤ℤ z
    → ((later : ℕ) → month < later → z <ℤ days_from_civil (pos year) later 1) → month_up_to year n z ≡ month
unfolding month_up_to
month_up_to-is year month zero z le one from to = omega (arith, le, one)
month_up_to-is year month (suc n) z le one from to = elim (cases_lt month (suc n)) [
  | inl earlier ↦
      cond-false _ _ _ (test_fails (days_from_civil (pos year) (suc n) 1) z (to (suc n) earlier))
      ∙ month_up_to-is year month n z (omega arith) one from to
  | inr last ↦
      let same : month ≡ suc n = omega arith in
      cond-true _ _ _ (test_holds (days_from_civil (pos year) (suc n) 1) z (rw same at from)) ∙ sym same
]

month_of_date : (year month day : ℕ) → IsCivilDate (pos year) month day → month_up_to year 12 (days_from_civil (pos year) month day) ≡ month
month_of_date year month day h =
    month_up_to-is year month 12 (days_from_civil (pos year) month day) h.1.1 h.1.0 (from_month year month day h)
    (λ later lt. before_month year month day later h lt)

day_of_date : (year month day : ℕ) → IsCivilDate (pos year) month day →
    day_of_month year month (days_from_civil (pos year) month day) ≡ day
day_of_date year month day h =
    let apart : days_from_civil (pos year) month day -ℤ days_from_civil (pos year) month 1 ≡ pos (day - 1) =
    omega (
      arith,
      signed_arith,
      days_from_civil-day_count (pos year) month day,
      days_from_civil-day_count (pos year) month 1,
      day_count-day (pos year) month day 1 h.2.0 (omega arith),
      h.2.0,
    ) in
    let count : day - 1 + 1 ≡ day = omega (arith, h.2.0) in
    ap (λ z. unsigned_abs z + 1) apart ∙ count

day_text-is : (year month day : ℕ) → IsCivilDate (pos year) month day →
    day_text (days_from_civil (pos year) month day) ≡ date_text year month day
unfolding day_text
day_text-is year month day h =
    let number = days_from_civil (pos year) month day in
    ap (λ y. year_text y number) (year_of_date year month day h)
    ∙ ap (λ m. month_text year m number) (month_of_date year month day h)
    ∙ ap (date_text year month) (day_of_date year month day h)

-- a day is written as its date is
day_text-of_date : (year : ℤ) (month day : ℕ) → IsCivilDate year month day → pos 0 ≤ℤ year →
    day_text (days_from_civil year month day) ≡ date_text (unsigned_abs year) month day
day_text-of_date (pos year) month day h low = day_text-is year month day h
day_text-of_date (negsuc year) month day h low = absurd (omega (arith, signed_arith, low))

-- a year comes back from its bits
comes_back : (year : ℤ) → IsYear year → to_z w16 (of_z w16 year) ≡ year
comes_back (pos year) within = back_small w16 (pos year) (omega (arith, signed_arith, within))
comes_back (negsuc year) within = back_small w16 (negsuc year) (omega (arith, signed_arith, within))

pub year_back : (d : Date) → to_z w16 (of_z w16 d.year) ≡ d.year
year_back d = comes_back d.year d.year_in

-- of a date of the calendar, not long before 1970
pub written_day : (d : Date) (day : ℤ) (year : ℕ) → epoch_day d ≡ day → neg_ℤ (pos 1) ≤ℤ day → year ≡ unsigned_abs d.year →
    day_text day ≡ date_text year d.month d.day
written_day d day year is late same =
    let here : neg_ℤ (pos 25_000) ≤ℤ epoch_day d = subst (λ z. neg_ℤ (pos 25_000) ≤ℤ z) (sym is) (omega (arith, signed_arith, late)) in
    let low : pos 0 ≤ℤ d.year = omega (arith, signed_arith, not_early d.year d.month d.day (civil d) here) in
    ap day_text (sym is) ∙ (day_text-of_date d.year d.month d.day (civil d) low ∙ ap (λ y. date_text y d.month d.day) (sym same))

-- what a success says, said in other words
pub on_ok_more : {T E : Type 0} (r : Result T E) (P Q : Type 0) → (P → Q) → OnOk r P → OnOk r Q
on_ok_more (Ok x) P Q more h = more h
on_ok_more (Err e) P Q more h = tt
