-- What patterns of other dialects may have and those of this one have not, by what stands before and behind the place of a fault.
use Rattle.std.specs.Prelude.{ℕ, ◌-◌, ◌%◌, ◌==◌, ◌&&◌, ◌||◌, nat_eq, Bool, false, List, ◌∷◌, length, Option, None, Some, take, drop, codes, if◌then◌else◌}
use Rattle.std.specs.Char.{is_ascii_digit}
use Rattle.std.specs.List.{starts_with, ends_with, suffix_len}
use Rattle.pattern_fault.specs.declared.construct.Construct.{Construct}
use Rattle.pattern_fault.specs.declared.construct.Construct.TheVariants.{LookAround, BackReference, Conditional, AtomicGroup}

-- `(?=`, `(?!`, `(?<=` and `(?<!`
abbrev pub is_look_around : (rest : List ℕ) → Bool
is_look_around rest =
    starts_with nat_eq rest (codes "(?=") || (starts_with nat_eq rest (codes "(?!")
    || (starts_with nat_eq rest (codes "(?<=") || starts_with nat_eq rest (codes "(?<!")))

-- `\` and a digit
abbrev pub is_numbered : (rest : List ℕ) → Bool
is_numbered (first ∷ second ∷ rest) = first == 92 && is_ascii_digit second
is_numbered _ = false

abbrev pub is_backslash : ℕ → Bool
is_backslash byte = byte == 92

-- what stands before an ending, if the text has it
abbrev pub before_ending : (ending text : List ℕ) → Option (List ℕ)
before_ending ending text = if ends_with nat_eq text ending then Some (take (length text - length ending) text) else None

-- something stands before, and an even number of backslashes at its end, so that what is behind has its meaning
abbrev pub is_unescaped : Option (List ℕ) → Bool
is_unescaped None = false
is_unescaped (Some before) = suffix_len is_backslash before % 2 == 0

-- the text ends in a `(?` that begins a group, and not in `\(?`
abbrev pub opens_group : (before : List ℕ) → Bool
opens_group before = is_unescaped (before_ending (codes "(?") before)

-- what begins so, right behind that
abbrev pub is_group_of : (front before rest : List ℕ) → Bool
is_group_of front before rest = opens_group before && starts_with nat_eq rest front

-- `\1`, `\k` and `(?P=`
abbrev pub is_back_reference : (before rest : List ℕ) → Bool
is_back_reference before rest = is_numbered rest || (starts_with nat_eq rest (codes "\\k") || is_group_of (codes "P=") before rest)

-- what stands between these: also a conditional, `(?(`, and a group that keeps its first match, `(?>`
abbrev pub construct_between : (before rest : List ℕ) → Option Construct
construct_between before rest =
    if is_look_around rest then Some LookAround
    else if is_back_reference before rest then Some BackReference
    else if is_group_of (codes "(") before rest then Some Conditional
    else if is_group_of (codes ">") before rest then Some AtomicGroup
    else None

-- what stands at a place of a pattern
abbrev pub construct_at : (pattern : List ℕ) → (place : ℕ) → Option Construct
construct_at pattern place = construct_between (take place pattern) (drop place pattern)

-- that there is none, and what to do without
abbrev pub advice : Construct → List ℕ
advice LookAround =
    codes "there is no look-around: write into the pattern what has to stand there, and keep out by ignoreregex what must not"
advice BackReference = codes "there are no back references: write once more what is to be repeated"
advice Conditional = codes "there are no conditionals: write both cases, as (?:first|second)"
advice AtomicGroup = codes "there are no atomic groups: write (?: in place of (?>"
