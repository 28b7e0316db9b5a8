-- A moment as a clock of a zone shows it: 2024-03-01T12:30:00+02:30.
use Rattle.std.specs.Prelude.{ℕ, zero, suc, ◌+◌, ◌/◌, ◌%◌, ◌++◌, min, ℤ, pos, int_le, int_lt, unsigned_abs, ◌+ℤ◌, ◌-ℤ◌, List, [], ◌∷◌, codes, if◌then◌else◌}
use Rattle.jiff_core.specs.Calendar.{days_from_civil}
use Rattle.f2b_base.specs.Limits.{latest_reading}
use Rattle.date_detect.specs.Calendar.{year_up_to}

-- two digits
abbrev pub two : ℕ → List ℕ
two n = (48 + n / 10) ∷ (48 + n % 10) ∷ []

-- `2024-03-01`
abbrev pub date_text : (year month day : ℕ) → List ℕ
date_text year month day = two (year / 100) ++ two (year % 100) ++ codes "-" ++ two month ++ codes "-" ++ two day

-- the latest month of a year up to the given one that has begun by a day
unfoldable pub month_up_to : (year : ℕ) → ℕ → ℤ → ℕ
month_up_to year zero day = zero
month_up_to year (suc month) day = if int_le (days_from_civil (pos year) (suc month) 1) day then suc month else month_up_to year month day

abbrev pub day_of_month : (year month : ℕ) → ℤ → ℕ
day_of_month year month day = unsigned_abs (day -ℤ days_from_civil (pos year) month 1) + 1

abbrev pub month_text : (year month : ℕ) → ℤ → List ℕ
month_text year month day = date_text year month (day_of_month year month day)

abbrev pub year_text : (year : ℕ) → ℤ → List ℕ
year_text year day = month_text year (month_up_to year 12 day) day

-- the day with a number, where 1970-01-01 is 0
unfoldable pub day_text : ℤ → List ℕ
day_text day = year_text (year_up_to 9999 day) day

-- `12:30`
abbrev pub minutes_text : (seconds : ℕ) → List ℕ
minutes_text seconds = two (seconds / 3_600) ++ codes ":" ++ two (seconds / 60 % 60)

-- `12:30:00`, the time of a day
abbrev pub clock_text : (seconds : ℕ) → List ℕ
clock_text seconds = minutes_text seconds ++ codes ":" ++ two (seconds % 60)

abbrev pub sign_text : ℤ → List ℕ
sign_text zone = if int_lt zone (pos 0) then codes "-" else codes "+"

-- `+02:30`, how far a zone is ahead of UTC
abbrev pub zone_text : ℤ → List ℕ
zone_text zone = sign_text zone ++ minutes_text (unsigned_abs zone)

-- `+0230`, the same without a colon
abbrev pub offset_text : ℤ → List ℕ
offset_text zone = sign_text zone ++ two (unsigned_abs zone / 3_600) ++ two (unsigned_abs zone / 60 % 60)

-- how many seconds have gone there since 1969-12-31 began: no zone is a day away from UTC
abbrev pub local_seconds : (zone : ℤ) → ℕ → ℕ
local_seconds zone time = unsigned_abs (pos (time + 86_400) +ℤ zone)

-- the day and the time of day behind so many seconds
abbrev pub local_text : (seconds : ℕ) → List ℕ
local_text seconds = day_text (pos (seconds / 86_400) -ℤ pos 1) ++ codes "T" ++ clock_text (seconds % 86_400)

-- what a clock shows that is so many seconds ahead of UTC; a moment above the latest reading counts as that one
unfoldable pub moment_text : (zone : ℤ) → ℕ → List ℕ
moment_text zone time = local_text (local_seconds zone (min time latest_reading)) ++ zone_text zone
