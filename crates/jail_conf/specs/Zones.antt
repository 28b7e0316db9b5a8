-- Zones: `Z`, or `UTC` or `GMT` with nothing behind it or `+hhmm` or `-hhmm`.
use Rattle.std.specs.Prelude.{ℕ, ◌+◌, ◌*◌, ◌==◌, nat_eq, List, [], ◌∷◌, length, take, drop, Option, None, Some, option_map, option_and_then, ℤ, pos, neg_ℤ, codes, if◌then◌else◌}
use Rattle.std.specs.List.{starts_with}
use Rattle.std.specs.Str.{bytes_eq}
use Rattle.ini_interp.specs.Lines.{trimmed}
use Rattle.jail_conf.specs.declared.conf_error.ConfKind.TheVariants.{BadZone}
use Rattle.jail_conf.specs.Readers.{Reader}
use Rattle.jail_conf.specs.Then.{or_refuse}
use Rattle.jail_conf.specs.Words.{number, if_between}

-- two digits of hours, at most 23, and two of minutes, at most 59
abbrev pub hours : List ℕ → Option ℕ
hours digits = option_and_then (if_between 0 23) (number (take 2 digits))

abbrev pub minutes : List ℕ → Option ℕ
minutes digits = option_and_then (if_between 0 59) (number (drop 2 digits))

abbrev pub seconds_of : Option ℕ → Option ℕ → Option ℕ
seconds_of None minutes = None
seconds_of (Some hours) None = None
seconds_of (Some hours) (Some minutes) = Some (hours * 3_600 + minutes * 60)

abbrev pub offset : List ℕ → Option ℕ
offset digits = if length digits == 4 then seconds_of (hours digits) (minutes digits) else None

abbrev pub behind_name : List ℕ → Option ℤ
behind_name [] = Some (pos 0)
behind_name (sign ∷ digits) =
    if sign == 43 then option_map pos (offset digits)
    else if sign == 45 then option_map (λ seconds. neg_ℤ (pos seconds)) (offset digits)
    else None

-- how many seconds a zone is ahead of UTC
abbrev pub zone_of : List ℕ → Option ℤ
zone_of text =
    if bytes_eq text (codes "Z") then Some (pos 0)
    else if starts_with nat_eq text (codes "UTC") then behind_name (drop 3 text)
    else if starts_with nat_eq text (codes "GMT") then behind_name (drop 3 text)
    else None

abbrev pub zone : Reader ℤ
zone text = or_refuse BadZone (zone_of (trimmed text))
