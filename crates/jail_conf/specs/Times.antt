-- Time words: `600`, `10m`, `1d 12h 30m`, `-1`.
use Rattle.std.specs.Prelude.{ℕ, ◌+◌, ◌*◌, ◌-◌, ◌^◌, min, ◌==◌, nat_le, Bool, false, List, [], ◌∷◌, Option, None, Some, option_and_then, option_map, Ok, ℤ, pos, neg_ℤ, codes, if◌then◌else◌}
use Rattle.std.specs.Char.{is_ascii_digit, is_ascii_alphabetic}
use Rattle.std.specs.Str.Parse.{digits_value}
use Rattle.ini_interp.specs.Lines.{is_blank, trimmed}
use Rattle.jail_conf.specs.declared.conf_error.ConfKind.TheVariants.{BadTime, BadNumber}
use Rattle.jail_conf.specs.Readers.{Reader}
use Rattle.jail_conf.specs.Then.{◌>>=◌, ◌>>◌, refuse_if, or_refuse}
use Rattle.jail_conf.specs.Words.{is_one_of, if_from, if_between}

-- the seconds of a unit
abbrev pub unit_seconds : List ℕ → Option ℕ
unit_seconds word =
    if is_one_of (codes "y yy ye yea year years") word then Some 31_557_600
    else if is_one_of (codes "mo mon month months") word then Some 2_629_800
    else if is_one_of (codes "w ww we wee week weeks") word then Some 604_800
    else if is_one_of (codes "d dd da day days") word then Some 86_400
    else if is_one_of (codes "h hh ho hou hour hours") word then Some 3_600
    else if is_one_of (codes "m mm mi min minute minutes") word then Some 60
    else if is_one_of (codes "s ss se sec second seconds") word then Some 1
    else None

-- a run of digits, a run of letters, or a byte that is neither nor a blank
pub data Run : Type 0 where
  Digits : List ℕ → Run
  Letters : List ℕ → Run
  Gap : Run
  Stray : Run

abbrev pub before_digits : ℕ → List Run → List Run
before_digits byte (Digits text ∷ runs) = Digits (byte ∷ text) ∷ runs
before_digits byte runs = Digits (byte ∷ []) ∷ runs

abbrev pub before_letters : ℕ → List Run → List Run
before_letters byte (Letters text ∷ runs) = Letters (byte ∷ text) ∷ runs
before_letters byte runs = Letters (byte ∷ []) ∷ runs

abbrev pub before_runs : ℕ → List Run → List Run
before_runs byte runs =
    if is_ascii_digit byte then before_digits byte runs
    else if is_ascii_alphabetic byte then before_letters byte runs
    else if is_blank byte then Gap ∷ runs
    else Stray ∷ runs

abbrev pub runs_of : List ℕ → List Run
runs_of [] = []
runs_of (byte ∷ text) = before_runs byte (runs_of text)

abbrev pub without_gaps : List Run → List Run
without_gaps [] = []
without_gaps (Gap ∷ runs) = without_gaps runs
without_gaps (run ∷ runs) = run ∷ without_gaps runs

-- the runs of a text
abbrev pub pieces : List ℕ → List Run
pieces text = without_gaps (runs_of text)

-- digits, or letters, as a run before others, where there are any
abbrev pub with_digits : List ℕ → List Run → List Run
with_digits [] runs = runs
with_digits (byte ∷ text) runs = Digits (byte ∷ text) ∷ runs

abbrev pub with_letters : List ℕ → List Run → List Run
with_letters [] runs = runs
with_letters (byte ∷ text) runs = Letters (byte ∷ text) ∷ runs

-- such a byte is the first
abbrev pub begins_with : (ℕ → Bool) → List ℕ → Bool
begins_with test [] = false
begins_with test (byte ∷ text) = test byte

-- numbers in code stay at the greatest of 64 bits
abbrev pub saturated : Option ℕ → Option ℕ
saturated n = option_map (λ n. min n (2 ^ 64 - 1)) n

abbrev pub plus : ℕ → Option ℕ → Option ℕ
plus term rest = option_map (λ n. term + n) rest

-- so many of the unit, and what else there is
abbrev pub added : List ℕ → Option ℕ → Option ℕ → Option ℕ
added digits None rest = None
added digits (Some seconds) None = None
added digits (Some seconds) (Some rest) = Some (digits_value 10 digits * seconds + rest)

abbrev pub sum_of_terms : List Run → Option ℕ
sum_of_terms [] = Some 0
sum_of_terms (Digits digits ∷ Letters word ∷ runs) = added digits (unit_seconds word) (sum_of_terms runs)
sum_of_terms runs = None

-- digits alone are seconds
abbrev pub sum_of : List Run → Option ℕ
sum_of [] = None
sum_of (Digits digits ∷ []) = Some (digits_value 10 digits)
sum_of runs = sum_of_terms runs

abbrev pub most_seconds : ℕ
most_seconds = 3_153_600_000

abbrev pub if_not_too_long : ℕ → Option ℕ
if_not_too_long seconds = if nat_le seconds most_seconds then Some seconds else None

abbrev pub magnitude : List ℕ → Option ℕ
magnitude text = option_and_then if_not_too_long (sum_of (pieces text))

-- behind a `-` a digit stands at once
abbrev pub negated : List ℕ → Option ℤ
negated [] = None
negated (byte ∷ text) = if is_ascii_digit byte then option_map (λ seconds. neg_ℤ (pos seconds)) (magnitude (byte ∷ text)) else None

abbrev pub signed : List ℕ → Option ℤ
signed [] = None
signed (byte ∷ text) = if byte == 45 then negated text else option_map pos (magnitude (byte ∷ text))

-- the seconds that a time word stands for
unfoldable pub time_word : List ℕ → Option ℤ
time_word text = signed (trimmed text)

-- ---- items

-- how many seconds, where they are not below 0
abbrev pub counted : ℤ → Option ℕ
counted (pos seconds) = Some seconds
counted seconds = None

abbrev pub counted_seconds : List ℕ → Option ℕ
counted_seconds text = option_and_then counted (time_word text)

-- a time word of so many seconds at least
abbrev pub seconds_from : ℕ → Reader ℕ
seconds_from least text = or_refuse BadTime (option_and_then (if_from least) (counted_seconds text))

abbrev pub is_zero : ℤ → Bool
is_zero (pos seconds) = seconds == 0
is_zero seconds = false

-- a time word but for 0; below 0 it is for ever
abbrev pub span : Reader ℤ
span text = do
  seconds ← or_refuse BadTime (time_word text)
  refuse_if (is_zero seconds) BadTime
  Ok seconds

-- a time word of 0 to a million seconds
abbrev pub jitter : Reader ℕ
jitter text = do
  seconds ← or_refuse BadTime (time_word text)
  or_refuse BadNumber (option_and_then (if_between 0 1_000_000) (counted seconds))
