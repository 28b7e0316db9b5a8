-- What the groups of a match say, by their texts.
use Rattle.std.specs.Prelude.{ℕ, ◌+◌, ◌*◌, ◌-◌, nat_le, ◌&&◌, ◌==◌, ℤ, pos, neg_ℤ, List, [], ◌∷◌, Option, Some, None, option_and_then, option_map, fold, codes, if◌then◌else◌}
use Rattle.std.specs.Str.{bytes_eq}
use Rattle.date_detect.specs.Calendar.{civil_moment, latest}
use Rattle.date_detect.specs.declared.calendar.DayTime.{DayTime}

-- the number that decimal digits write; a blank counts as 0
abbrev pub decimal : List ℕ → ℕ
decimal = fold (λ number digit. number * 10 + (digit - 48)) 0

-- the same, where it has at most four digits that count
abbrev pub number : List ℕ → Option ℕ
number text = if nat_le (decimal text) 9999 then Some (decimal text) else None

-- a part of a time of day that is left out is 0
abbrev pub number_or_zero : Option (List ℕ) → Option ℕ
number_or_zero None = Some 0
number_or_zero (Some text) = number text

-- the seconds of the day, from 00:00:00 to 23:59:59
abbrev pub clock : ℕ → ℕ → ℕ → Option ℕ
clock hour minute second =
    if nat_le hour 23 && (nat_le minute 59 && nat_le second 59) then Some (hour * 3600 + minute * 60 + second) else None

unfoldable pub time_of : Option (List ℕ) → Option (List ℕ) → Option (List ℕ) → Option ℕ
time_of hour minute second =
    option_and_then (λ h. option_and_then (λ m. option_and_then (clock h m) (number_or_zero second)) (number_or_zero minute)) (number_or_zero hour)

-- the month with that name
abbrev pub month_named : List ℕ → Option ℕ
month_named name =
    if bytes_eq name (codes "Jan") then Some 1
    else if bytes_eq name (codes "Feb") then Some 2
    else if bytes_eq name (codes "Mar") then Some 3
    else if bytes_eq name (codes "Apr") then Some 4
    else if bytes_eq name (codes "May") then Some 5
    else if bytes_eq name (codes "Jun") then Some 6
    else if bytes_eq name (codes "Jul") then Some 7
    else if bytes_eq name (codes "Aug") then Some 8
    else if bytes_eq name (codes "Sep") then Some 9
    else if bytes_eq name (codes "Oct") then Some 10
    else if bytes_eq name (codes "Nov") then Some 11
    else if bytes_eq name (codes "Dec") then Some 12
    else None

-- the month by its number, else by its name
abbrev pub month_of : Option (List ℕ) → Option (List ℕ) → Option ℕ
month_of (Some text) name = number text
month_of None (Some name) = month_named name
month_of None None = None

-- the number of two digits
abbrev pub two : ℕ → ℕ → ℕ
two tens ones = (tens - 48) * 10 + (ones - 48)

-- hours and minutes behind a sign, at most 23:59; 45 is `-`
abbrev pub offset : ℕ → ℕ → ℕ → Option ℤ
offset sign hours minutes =
    let seconds = pos (hours * 3600 + minutes * 60) in
    if nat_le hours 23 && nat_le minutes 59 then Some (if sign == 45 then neg_ℤ seconds else seconds) else None

-- `Z`, `+hhmm` or `+hh:mm`, as seconds ahead of UTC
abbrev pub written_zone : List ℕ → Option ℤ
written_zone (z ∷ []) = Some (pos 0)
written_zone (sign ∷ a ∷ b ∷ c ∷ d ∷ []) = offset sign (two a b) (two c d)
written_zone (sign ∷ a ∷ b ∷ colon ∷ c ∷ d ∷ []) = offset sign (two a b) (two c d)
written_zone _ = None

-- a date without a zone has the given one
abbrev pub zone_of : ℤ → Option (List ℕ) → Option ℤ
zone_of given None = Some given
zone_of given (Some text) = written_zone text

-- 00 to 68 are in this century, and the others in the last
abbrev pub whole_year : ℕ → ℕ
whole_year short = if nat_le short 68 then 2000 + short else 1900 + short

-- what the groups of a match cover, none where a group took no part or is not there
pub record Said : Type 0 where
  pub year : Option (List ℕ)
  -- in two digits
  pub short_year : Option (List ℕ)
  pub month : Option (List ℕ)
  pub month_name : Option (List ℕ)
  pub day : Option (List ℕ)
  pub hour : Option (List ℕ)
  pub minute : Option (List ℕ)
  pub second : Option (List ℕ)
  pub zone : Option (List ℕ)
  -- seconds since 1970
  pub moment : Option (List ℕ)

-- the moment of a day and a time in the year that is given, or in the latest that may be meant
abbrev pub moment_in : Option (List ℕ) → Option (List ℕ) → ℕ → DayTime → Option ℤ
moment_in (Some year) short now d = option_and_then (λ y. civil_moment y d) (number year)
moment_in None (Some short) now d = option_and_then (λ y. civil_moment (whole_year y) d) (number short)
moment_in None None now d = latest now d

-- the day and the time that are said, where both are, in the zone that is said or the given one
unfoldable pub day_time : Said → ℤ → Option DayTime
day_time said zone =
    option_and_then (λ month. option_and_then (λ day. option_and_then (λ time. option_map (λ ahead.
    let d : DayTime = record { month = month; day = day; time = time; zone = ahead } in d)
    (zone_of zone said.zone)) (time_of said.hour said.minute said.second)) (option_and_then number said.day))
    (month_of said.month said.month_name)

-- at most ten digits of seconds
abbrev pub written_moment : List ℕ → Option ℤ
written_moment text = if nat_le (decimal text) 9_999_999_999 then Some (pos (decimal text)) else None

-- the moment that the groups name, seen from now in a zone
unfoldable pub said_moment : Said → ℕ → ℤ → Option ℤ
said_moment said now zone = named said.moment where
  named : Option (List ℕ) → Option ℤ
  named (Some text) = written_moment text
  named None = option_and_then (moment_in said.year said.short_year now) (day_time said zone)
