-- Items that are numbers.
use Rattle.std.specs.Prelude.{ℕ, ◌+◌, ◌*◌, ◌-◌, ◌^◌, ◌==◌, ◌&&◌, not, nat_le, nat_lt, Bool, false, List, length, Option, None, Some, option_map, option_and_then, codes, if◌then◌else◌}
use Rattle.std.specs.List.{before_first, after_first, list_any}
use Rattle.std.specs.Str.Parse.{digits_value}
use Rattle.ini_interp.specs.Lines.{trimmed}
use Rattle.jail_conf.specs.declared.conf_error.ConfKind.TheVariants.{BadNumber, Unsupported}
use Rattle.jail_conf.specs.Readers.{Reader}
use Rattle.jail_conf.specs.Then.{◌>>◌, Fine, refuse_if, or_refuse, each}
use Rattle.jail_conf.specs.Words.{words_by, is_decimal, number, if_between}

abbrev pub number_between : ℕ → ℕ → Reader ℕ
number_between least most text = or_refuse BadNumber (option_and_then (if_between least most) (number (trimmed text)))

abbrev pub is_one : Option ℕ → Bool
is_one None = false
is_one (Some n) = n == 1

abbrev pub only_one : Reader Fine
only_one text = refuse_if (not (is_one (number (trimmed text)))) Unsupported

-- thousandths: digits, then nothing, or a dot and one to three digits
abbrev pub thousandths_of : List ℕ → List ℕ → Option ℕ
thousandths_of units fraction =
    if is_decimal units && (is_decimal fraction && nat_le (length fraction) 3)
    then Some (digits_value 10 units * 1_000 + digits_value 10 fraction * 10 ^ (3 - length fraction)) else None

abbrev pub is_dot : ℕ → Bool
is_dot byte = byte == 46

abbrev pub thousandths : List ℕ → Option ℕ
thousandths text =
    if list_any is_dot text then thousandths_of (before_first is_dot text) (after_first is_dot text)
    else option_map (λ n. n * 1_000) (number text)

-- a thousandth to a thousand
abbrev pub factor : Reader ℕ
factor text = or_refuse BadNumber (option_and_then (if_between 1 1_000_000) (thousandths (trimmed text)))

abbrev pub number_dividers : List ℕ
number_dividers = codes " \t\n"

abbrev pub most_multipliers : ℕ
most_multipliers = 64

-- that there are too many is told before what is wrong with one
abbrev pub multipliers : Reader (List ℕ)
multipliers text = do
  refuse_if (nat_lt most_multipliers (length (words_by number_dividers text))) BadNumber
  each (number_between 1 1_000_000) (words_by number_dividers text)
