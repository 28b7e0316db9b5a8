-- Civil dates as seconds since 1970-01-01T00:00:00Z, and dates without a year.
use Rattle.std.specs.Prelude.{ℕ, zero, suc, ◌+◌, ◌-◌, nat_le, min, ◌&&◌, ℤ, pos, int_le, ◌+ℤ◌, ◌-ℤ◌, ◌*ℤ◌, Bool, Option, Some, None, option_and_then, if◌then◌else◌}
use Rattle.std.specs.Int.{int_div_euclid}
use Rattle.std.specs.Option.{option_or}
use Rattle.f2b_base.specs.Limits.{latest_reading}
use Rattle.jiff_core.specs.Calendar.{days_in_month, days_from_civil}
use Rattle.date_detect.specs.declared.calendar.DayTime.{DayTime}

-- the calendar has this day, in a year from 0 to 9999
abbrev pub is_date : ℕ → ℕ → ℕ → Bool
is_date year month day =
    nat_le year 9999 && (nat_le 1 month && (nat_le month 12 && (nat_le 1 day && nat_le day (days_in_month (pos year) month))))

-- the moment at which a clock of the zone shows the day and the time in a year
unfoldable pub moment_of : ℕ → DayTime → ℤ
moment_of year d = (days_from_civil (pos year) d.month d.day *ℤ pos 86_400) +ℤ pos d.time -ℤ d.zone

-- the same, where the calendar has the day
unfoldable pub civil_moment : ℕ → DayTime → Option ℤ
civil_moment year d = if is_date year d.month d.day then Some (moment_of year d) else None

-- the latest year up to the given one that has begun by a day, or 0
unfoldable pub year_up_to : ℕ → ℤ → ℕ
year_up_to zero day = zero
year_up_to (suc year) day = if int_le (days_from_civil (pos (suc year)) 1 1) day then suc year else year_up_to year day

-- the year of a moment in a zone
unfoldable pub year_at : ℤ → ℤ → ℕ
year_at moment zone = year_up_to 9999 (int_div_euclid (moment +ℤ zone) (pos 86_400))

-- one day after now, where a now above the latest reading counts as that one
abbrev pub latest_moment : ℕ → ℕ
latest_moment now = min now latest_reading + 86_400

-- the moment in a year, where it is not later than the limit
abbrev pub moment_by : ℕ → DayTime → ℕ → Option ℤ
moment_by limit d year =
    option_and_then (λ moment. if int_le moment (pos limit) then Some moment else None) (civil_moment year d)

-- what is given in the first of n years, from one year back, in which something is
unfoldable pub first_back : (ℕ → Option ℤ) → ℕ → ℕ → Option ℤ
first_back in_year year zero = None
first_back in_year year (suc n) = option_or (in_year year) (first_back in_year (year - 1) n)

-- A day and a time without a year: the latest year in which the calendar has the day and the moment is at most one day after now,
-- from the year of one day after now in the zone down to eight years before.
unfoldable pub latest : ℕ → DayTime → Option ℤ
latest now d = let limit = latest_moment now in first_back (moment_by limit d) (year_at (pos limit) d.zone) 9
