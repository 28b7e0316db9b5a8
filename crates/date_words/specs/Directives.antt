-- Date patterns of a user: pieces of a pattern, and directives, each a `%` and the letter behind it.
use Rattle.std.specs.Prelude.{ℕ, ◌+◌, Bool, true, false, not, ◌&&◌, ◌||◌, ◌==◌, List, [], ◌∷◌, ◌++◌, Option, Some, None, is_some, codes, chars, encode_utf8, nat_le, if◌then◌else◌}
use Rattle.std.specs.List.{list_all}
use Rattle.std.specs.Option.{option_map_or}
use Rattle.date_words.specs.declared.directive.Directive.{Directive}
use Rattle.date_words.specs.declared.directive.Directive.TheVariants.{Year, ShortYear, Month, MonthName, Day, Hour, Minute, Second, Zone, Weekday, Fraction, Percent}

-- the directive with a letter: Y y m b d H M S z a f %
abbrev pub directive_of : ℕ → Option Directive
directive_of letter =
    if letter == 89 then Some Year
    else if letter == 121 then Some ShortYear
    else if letter == 109 then Some Month
    else if letter == 98 then Some MonthName
    else if letter == 100 then Some Day
    else if letter == 72 then Some Hour
    else if letter == 77 then Some Minute
    else if letter == 83 then Some Second
    else if letter == 122 then Some Zone
    else if letter == 97 then Some Weekday
    else if letter == 102 then Some Fraction
    else if letter == 37 then Some Percent
    else None

-- an English month, in one group
abbrev pub month : List ℕ
month = codes "(Jan|Feb|Mar|Apr|May|Jun|Jul|Aug|Sep|Oct|Nov|Dec)"

-- an English weekday, in no group
abbrev pub weekday : List ℕ
weekday = codes "(?:Mon|Tue|Wed|Thu|Fri|Sat|Sun)"

-- the piece of a pattern that it stands for
abbrev pub piece_of : Directive → List ℕ
piece_of Year = codes "(?P<f2bY>[0-9]{4})"
piece_of ShortYear = codes "(?P<f2by>[0-9]{2})"
piece_of Month = codes "(?P<f2bm>[0-9]{2})"
piece_of MonthName = codes "(?P<f2bb>" ++ month ++ codes ")"
piece_of Day = codes "(?P<f2bd>[0-9]{1,2}|[ \\t][0-9])"
piece_of Hour = codes "(?P<f2bH>[0-9]{2})"
piece_of Minute = codes "(?P<f2bM>[0-9]{2})"
piece_of Second = codes "(?P<f2bS>[0-9]{2})"
piece_of Zone = codes "(?P<f2bz>Z|[+-][0-9]{2}:?[0-9]{2})"
piece_of Weekday = weekday
piece_of Fraction = codes "[0-9]{1,9}"
piece_of Percent = codes "%"

-- In what follows the flag says that the `%` of a directive stands before the characters.

-- the character is the `%` of a directive
abbrev pub opens : Bool → ℕ → Bool
opens after c = not after && c == 37

-- each `%` has the letter of a directive behind it
abbrev pub are_known : Bool → List ℕ → Bool
are_known after [] = not after
are_known after (c ∷ text) = (not after || is_some (directive_of c)) && are_known (opens after c) text

-- how many directives have that letter
abbrev pub times_in : ℕ → Bool → List ℕ → ℕ
times_in letter after [] = 0
times_in letter after (c ∷ text) = (if after && c == letter then 1 else 0) + times_in letter (opens after c) text

unfoldable pub times : ℕ → List ℕ → ℕ
times letter text = times_in letter false (chars text)

-- the letters of the directives
abbrev pub letters : List ℕ
letters = codes "YymbdHMSzaf%"

-- A pattern that a date can be read by: it has no other directive, none twice, at most one of `%Y` and `%y`, one of `%m` and `%b`,
-- and `%d`.
unfoldable pub is_date_pattern : List ℕ → Bool
is_date_pattern text =
    are_known false (chars text)
    && (list_all (λ letter. nat_le (times letter text) 1) letters
    && (nat_le (times 89 text + times 121 text) 1
    && (times 109 text + times 98 text == 1
    && times 100 text == 1)))

-- what a character is replaced by, or the letter of a directive with its `%`
abbrev pub piece : Bool → ℕ → List ℕ
piece true c = option_map_or piece_of (directive_of c) []
piece false c = if c == 37 then [] else encode_utf8 c

abbrev pub written : Bool → List ℕ → List ℕ
written after [] = []
written after (c ∷ text) = piece after c ++ written (opens after c) text

-- the text with each directive replaced by its piece
unfoldable pub expanded : List ℕ → List ℕ
expanded text = written false (chars text)
