-- What a clock of UTC shows is text.
use Rattle.std.proofs.Common.{◌≡◌, ℕ, zero, suc, ◌+◌, ◌-◌, ◌*◌, ◌/◌, ◌%◌, ◌<◌, ◌≤◌, min, Bool, true, false, List, [], ◌∷◌, ◌++◌, refl, sym, ap, subst, ◌∙◌, arith, ℤ, pos, negsuc, ◌+ℤ◌, ◌-ℤ◌, ◌<ℤ◌, ◌≤ℤ◌, int_le, unsigned_abs}
use Rattle.std.specs.Prelude.{codes}
use Rattle.std.specs.Str.{IsAscii, IsUtf8}
use Rattle.std.proofs.lemmas.Bool.{cond-true, cond-false}
use Rattle.std.proofs.lemmas.Str.{IsAscii-append, IsUtf8-from_ascii}
use Rattle.std.proofs.lemmas.Str.Ascii.{IsAscii-cons, IsAscii-nil}
use Rattle.jiff_core.specs.Calendar.{days_from_civil}
use Rattle.jiff_core.proofs.SignedLemmas.{signed_arith}
use Rattle.jiff_core.proofs.CalendarLemmas.{day_count-day_of_year, day_count-end, day_count-epoch, day_count-later_year, day_count-next_year, days_from_civil-day_count, days_in_year_bounds}
use borrow.Author.Differences.{le-true, le-false}
use Rattle.date_detect.specs.Calendar.{year_up_to}
use Rattle.f2b_base.specs.Limits.{latest_reading}
use Rattle.iso_moment.specs.Moments.{clock_text, date_text, day_of_month, day_text, local_seconds, local_text, minutes_text, moment_text, month_up_to, two, zone_text}

reached : (a b : ℤ) → int_le a b ≡ true → a ≤ℤ b
reached a b is = omega (arith, signed_arith, le-true a b is)

-- ---- the year and the month of a day

-- the first day of a year
abbrev begins : ℕ → ℤ
begins year = days_from_civil (pos year) 1 1

-- the day lies in the year
abbrev IsIn : ℤ → ℕ → Type 0
IsIn day year = (begins year ≤ℤ day) × (day <ℤ begins (suc year))

by_test : {P : Type 0} (test : Bool) → (test ≡ true → P) → (test ≡ false → P) → P
by_test true holds fails = holds refl
by_test false holds fails = fails refl

year_of : (n : ℕ) (day : ℤ) → begins 0 ≤ℤ day → day <ℤ begins (suc n) → IsIn day (year_up_to n day)
unfolding year_up_to
year_of zero day from to = (from, to)
year_of (suc n) day from to =
    by_test (int_le (begins (suc n)) day)
    (λ is. let last : year_up_to (suc n) day ≡ suc n = cond-true _ _ _ is in subst (IsIn day) (sym last) (reached (begins (suc n)) day is, to))
    (λ is.
    let sooner : year_up_to (suc n) day ≡ year_up_to n day = cond-false _ _ _ is in
    subst (IsIn day) (sym sooner) (year_of n day from (omega (arith, signed_arith, le-false (begins (suc n)) day is))))

year_small : (n : ℕ) (day : ℤ) → year_up_to n day ≤ n
unfolding year_up_to
year_small zero day = omega arith
year_small (suc n) day =
    by_test (int_le (begins (suc n)) day)
    (λ is. let last : year_up_to (suc n) day ≡ suc n = cond-true _ _ _ is in omega (arith, last))
    (λ is. let sooner : year_up_to (suc n) day ≡ year_up_to n day = cond-false _ _ _ is in omega (arith, sooner, year_small n day))

-- the month has begun by the day
abbrev HasBegun : ℕ → ℤ → ℕ → Type 0
HasBegun year day month = (1 ≤ month) × (days_from_civil (pos year) month 1 ≤ℤ day)

month_of : (year n : ℕ) (day : ℤ) → begins year ≤ℤ day → HasBegun year day (month_up_to year (suc n) day)
unfolding month_up_to
month_of year zero day from =
    by_test (int_le (begins year) day)
    (λ is. let last : month_up_to year 1 day ≡ 1 = cond-true _ _ _ is in subst (HasBegun year day) (sym last) (omega arith, from))
    (λ is. absurd (omega (arith, signed_arith, from, le-false (begins year) day is)))
month_of year (suc n) day from =
    by_test (int_le (days_from_civil (pos year) (suc (suc n)) 1) day)
    (λ is.
    let last : month_up_to year (suc (suc n)) day ≡ suc (suc n) = cond-true _ _ _ is in
    subst (HasBegun year day) (sym last) (omega arith, reached (days_from_civil (pos year) (suc (suc n)) 1) day is))
    (λ is.
    let sooner : month_up_to year (suc (suc n)) day ≡ month_up_to year (suc n) day = cond-false _ _ _ is in
    subst (HasBegun year day) (sym sooner) (month_of year n day from))

month_small : (year n : ℕ) (day : ℤ) → month_up_to year n day ≤ n
unfolding month_up_to
month_small year zero day = omega arith
month_small year (suc n) day =
    by_test (int_le (days_from_civil (pos year) (suc n) 1) day)
    (λ is. let last : month_up_to year (suc n) day ≡ suc n = cond-true _ _ _ is in omega (arith, last))
    (λ is. let sooner : month_up_to year (suc n) day ≡ month_up_to year n day = cond-false _ _ _ is in omega (arith, sooner, month_small year n day))

-- ---- the day of a month

size_small : (z : ℤ) (n : ℕ) → pos 0 ≤ℤ z → z ≤ℤ pos n → unsigned_abs z ≤ n
size_small (pos k) n from to = omega (arith, signed_arith, to)
size_small (negsuc k) n from to = absurd (omega (arith, signed_arith, from))

day_small : (year month : ℕ) (day : ℤ) → IsIn day year → HasBegun year day month → day_of_month year month day ≤ 367
day_small year month day within begun =
    let first = days_from_civil (pos year) month 1 in
    let next = day_count-next_year (pos year) (pos (suc year)) (omega (arith, signed_arith)) (omega (arith, signed_arith)) in
    let size : unsigned_abs (day -ℤ first) ≤ 366 =
    size_small (day -ℤ first) 366 (omega (arith, signed_arith, begun.1))
    (omega (
      arith,
      signed_arith,
      within.1,
      next,
      days_in_year_bounds (pos year),
      day_count-day_of_year (pos year) month 1 (omega arith),
      days_from_civil-day_count (pos year) month 1,
      days_from_civil-day_count (pos (suc year)) 1 1,
    )) in
    omega (arith, size)

-- ---- texts

two_ascii : (n : ℕ) → n < 800 → IsAscii (two n)
two_ascii n few = IsAscii-cons (48 + n / 10) ((48 + n % 10) ∷ []) (omega (arith, few)) (IsAscii-cons (48 + n % 10) [] (omega arith) IsAscii-nil)

one_ascii : (byte : ℕ) → byte < 128 → IsAscii (byte ∷ [])
one_ascii byte few = IsAscii-cons byte [] few IsAscii-nil

date_ascii : (year month day : ℕ) → year ≤ 9999 → month < 800 → day < 800 → IsAscii (date_text year month day)
date_ascii year month day y m d =
    let behind = IsAscii-append (codes "-") (two day) (one_ascii 45 (omega arith)) (two_ascii day d) in
    let months = IsAscii-append (codes "-") (two month ++ codes "-" ++ two day) (one_ascii 45 (omega arith)) (IsAscii-append (two month) (codes "-" ++ two day) (two_ascii month m) behind) in
    IsAscii-append (two (year / 100)) (two (year % 100) ++ codes "-" ++ two month ++ codes "-" ++ two day) (two_ascii (year / 100) (omega (arith, y)))
    (IsAscii-append (two (year % 100)) (codes "-" ++ two month ++ codes "-" ++ two day) (two_ascii (year % 100) (omega arith)) months)

day_ascii : (day : ℤ) → begins 0 ≤ℤ day → day <ℤ begins 10000 → IsAscii (day_text day)
unfolding day_text
day_ascii day from to =
    let year = year_up_to 9999 day in
    let within = year_of 9999 day from to in
    let month = month_up_to year 12 day in
    let begun = month_of year 11 day within.0 in
    date_ascii year month (day_of_month year month day) (year_small 9999 day) (omega (arith, month_small year 12 day)) (omega (arith, day_small year month day within begun))

minutes_ascii : (seconds : ℕ) → seconds < 86_400 → IsAscii (minutes_text seconds)
minutes_ascii seconds few =
    IsAscii-append (two (seconds / 3_600)) (codes ":" ++ two (seconds / 60 % 60)) (two_ascii (seconds / 3_600) (omega (arith, few)))
    (IsAscii-append (codes ":") (two (seconds / 60 % 60)) (one_ascii 58 (omega arith)) (two_ascii (seconds / 60 % 60) (omega arith)))

clock_ascii : (seconds : ℕ) → seconds < 86_400 → IsAscii (clock_text seconds)
clock_ascii seconds few =
    IsAscii-append (minutes_text seconds) (codes ":" ++ two (seconds % 60)) (minutes_ascii seconds few)
    (IsAscii-append (codes ":") (two (seconds % 60)) (one_ascii 58 (omega arith)) (two_ascii (seconds % 60) (omega arith)))

-- the year 0 is long over at the end of 1969, and the year 10000 is far
before_all : (n : ℕ) → begins 0 ≤ℤ (pos n -ℤ pos 1)
before_all n =
    omega (
      arith,
      signed_arith,
      days_from_civil-day_count (pos 0) 1 1,
      day_count-later_year (pos 0) (pos 1970) (omega (arith, signed_arith)) (omega (arith, signed_arith)),
      day_count-epoch,
      days_in_year_bounds (pos 0),
    )

after_all : (n : ℕ) → n ≤ 2_893_520 → (pos n -ℤ pos 1) <ℤ begins 10000
after_all n few = omega (arith, signed_arith, few, days_from_civil-day_count (pos 10000) 1 1, day_count-end)

local_ascii : (seconds : ℕ) → seconds ≤ latest_reading + 86_400 → IsAscii (local_text seconds)
unfolding day_text
local_ascii seconds few =
    let day = pos (seconds / 86_400) -ℤ pos 1 in
    IsAscii-append (day_text day) (codes "T" ++ clock_text (seconds % 86_400)) (day_ascii day (before_all (seconds / 86_400)) (after_all (seconds / 86_400) (omega (arith, few))))
    (IsAscii-append (codes "T") (clock_text (seconds % 86_400)) (one_ascii 84 (omega arith)) (clock_ascii (seconds % 86_400) (omega arith)))

-- how many seconds have gone in UTC since 1969-12-31 began
seconds_are : (time : ℕ) → local_seconds (pos 0) time ≡ time + 86_400
seconds_are time = let same : pos (time + 86_400) +ℤ pos 0 ≡ pos (time + 86_400) = omega (arith, signed_arith) in ap unsigned_abs same

zone_ascii : IsAscii (zone_text (pos 0))
zone_ascii = IsAscii-append (codes "+") (minutes_text 0) (one_ascii 43 (omega arith)) (minutes_ascii 0 (omega arith))

-- each moment is text
pub moment_utf8 : (time : ℕ) → IsUtf8 (moment_text (pos 0) time)
unfolding moment_text
moment_utf8 time =
    let capped = min time latest_reading in
    let few : local_seconds (pos 0) capped ≤ latest_reading + 86_400 = omega (arith, seconds_are capped) in
    IsUtf8-from_ascii (moment_text (pos 0) time)
    (IsAscii-append (local_text (local_seconds (pos 0) capped)) (zone_text (pos 0)) (local_ascii (local_seconds (pos 0) capped) few) zone_ascii)
