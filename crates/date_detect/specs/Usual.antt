-- The usual forms of dates: their patterns, and what their groups mean.
use Rattle.std.specs.Prelude.{ℕ, List, [], ◌∷◌, ◌++◌, Some, None, codes}
use Rattle.date_words.specs.Directives.{month, weekday}
use Rattle.date_detect.specs.declared.form.Groups.{Groups}
use Rattle.date_detect.specs.declared.usual.UsualForm.{UsualForm}
use Rattle.date_detect.specs.declared.usual.UsualForm.TheVariants.{Iso, Access, Ctime, Slashes, Syslog, Epoch}

-- ---- patterns

-- a time of day, in three groups
abbrev pub time : List ℕ
time = codes "([0-9]{2}):([0-9]{2}):([0-9]{2})"

abbrev pub usual_text : UsualForm → List ℕ
-- 2024-03-01T10:00:00.123+01:00
usual_text Iso =
    codes "([0-9]{4})-([0-9]{2})-([0-9]{2})[T ]" ++ time ++ codes "(?:[.,][0-9]{1,9})?(Z|[+-][0-9]{2}:?[0-9]{2})?"
-- 01/Mar/2024:11:00:00 +0100
usual_text Access = codes "([0-9]{2})/" ++ month ++ codes "/([0-9]{4}):" ++ time ++ codes " ([+-][0-9]{4})"
-- Fri Mar  1 10:00:00.123 2024
usual_text Ctime =
    codes "(?:" ++ weekday ++ codes " )?" ++ month ++ codes " +([0-9]{1,2}) " ++ time ++ codes "(?:\\.[0-9]{1,9})? ([0-9]{4})"
-- 2024/03/01 10:00:00
usual_text Slashes = codes "([0-9]{4})/([0-9]{2})/([0-9]{2}) " ++ time
-- Mar  1 10:00:00
usual_text Syslog = month ++ codes " +([0-9]{1,2}) " ++ time
-- 1709287200.123
usual_text Epoch = codes "\\b([0-9]{10})(?:\\.[0-9]{1,6})?\\b"

-- ---- groups, by their numbers

abbrev pub no_groups : Groups
no_groups = record {
  year = None;
  short_year = None;
  month = None;
  month_name = None;
  day = None;
  hour = None;
  minute = None;
  second = None;
  zone = None;
  moment = None;
}

-- the three groups of a time of day
abbrev pub with_time : Groups → ℕ → ℕ → ℕ → Groups
with_time groups h m s = record groups { hour = Some h; minute = Some m; second = Some s }

abbrev pub usual_groups : UsualForm → Groups
usual_groups Iso = with_time (record no_groups { year = Some 1; month = Some 2; day = Some 3; zone = Some 7 }) 4 5 6
usual_groups Access = with_time (record no_groups { day = Some 1; month_name = Some 2; year = Some 3; zone = Some 7 }) 4 5 6
usual_groups Ctime = with_time (record no_groups { month_name = Some 1; day = Some 2; year = Some 6 }) 3 4 5
usual_groups Slashes = with_time (record no_groups { year = Some 1; month = Some 2; day = Some 3 }) 4 5 6
usual_groups Syslog = with_time (record no_groups { month_name = Some 1; day = Some 2 }) 3 4 5
usual_groups Epoch = record no_groups { moment = Some 1 }

-- all of them, in the order in which they are tried
abbrev pub all_usual : List UsualForm
all_usual = Iso ∷ Access ∷ Ctime ∷ Slashes ∷ Syslog ∷ Epoch ∷ []
