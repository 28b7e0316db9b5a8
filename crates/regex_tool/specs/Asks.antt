-- The words of the tester: [OPTIONS] LOG REGEX [IGNOREREGEX].
use Rattle.std.specs.Prelude.{◌≡◌, ◌||◌, ℕ, ℤ, Bool, true, false, List, [], ◌∷◌, Option, Some, None, option_map, option_copied, codes, if◌then◌else◌}
use Rattle.std.specs.Str.{bytes_eq}
use Rattle.clap.specs.Words.{App, Rule, Text, new_app, new_rule, with_rule, fault_of, matches_of, first_of, Kinds}
use Rattle.clap.specs.Simple.{on_top}
use Rattle.clap.specs.declared.builder.action.ArgAction.TheVariants.{SetTrue}
use Rattle.regex_tool.specs.Zones.{zone_if}
use Rattle.regex_tool.specs.declared.shows.Form.{Form}
use Rattle.regex_tool.specs.declared.shows.Form.TheVariants.{Report, Rows, Addresses}
use Rattle.regex_tool.specs.declared.shows.Shows.{Shows}
use Rattle.regex_tool.specs.declared.words.Asked.{Asked}
use Rattle.regex_tool.specs.declared.words.Answer.{Answer}
use Rattle.regex_tool.specs.declared.words.Answer.TheVariants.{Asked as asked, Usage, NoMemory}

-- ---- the command

-- an option of one letter, which has a value
abbrev pub letter : Text → (code : ℕ) → Rule
letter name code = record (new_rule name) { short = Some code }

-- an option by its name, which has a value
abbrev pub named : Text → Rule
named name = record (new_rule name) { long = Some name }

-- an option of one letter, which has none
abbrev pub mark : Text → (code : ℕ) → Rule
mark name code = record (new_rule name) { short = Some code; action = Some SetTrue }

-- an option by its name, which has none
abbrev pub flag : Text → Rule
flag name = record (new_rule name) { long = Some name; action = Some SetTrue }

abbrev pub needed : Text → Rule
needed name = record (new_rule name) { required = true }

abbrev pub bare_tool : App
bare_tool = on_top (λ s. record s { no_binary_name = true }) (new_app (codes "fail2ban-regex"))

-- -d PATTERN, -c DIR, -o FORM, --timezone ZONE
abbrev pub with_values : App → App
with_values app = with_rule (with_rule (with_rule (with_rule app (letter (codes "date") 100)) (letter (codes "conf") 99)) (letter (codes "out") 111)) (named (codes "timezone"))

-- -v, and what is shown of lines
abbrev pub with_flags : App → App
with_flags app = with_rule (with_rule (with_rule (with_rule app (mark (codes "detail") 118)) (flag (codes "print-all-matched"))) (flag (codes "print-all-ignored"))) (flag (codes "print-all-missed"))

-- LOG, REGEX, and perhaps IGNOREREGEX
abbrev pub with_places : App → App
with_places app = with_rule (with_rule (with_rule app (needed (codes "log"))) (needed (codes "regex"))) (new_rule (codes "ignore"))

-- the command, whose words are all arguments
abbrev pub tool : App
tool = with_places (with_flags (with_values bare_tool))

-- ---- what is asked

pub record Asks : Type 0 where
  pub date : Option Text
  pub log : Text
  pub regex : Text
  pub ignore : Option Text
  -- how many seconds the zone of dates without one is ahead of UTC
  pub zone : ℤ
  -- the directory of a configuration, in which REGEX may name a filter
  pub dir : Option Text
  pub shows : Shows

-- whether an option without a value is given
abbrev pub is_set : Option Text → Bool
is_set None = false
is_set (Some text) = bytes_eq text (codes "true")

-- what is said first: a report, or a line for each failure
abbrev pub form_of : Option Text → Option Form
form_of None = Some Report
form_of (Some text) = if bytes_eq text (codes "row") then Some Rows else if bytes_eq text (codes "ip") then Some Addresses else None

-- what is shown, by the values of the arguments
abbrev pub shows_of : (Text → Option Text) → Form → (zone : ℤ) → Shows
shows_of given form zone = record {
  form = form;
  zone = zone;
  detail = is_set (given (codes "detail"));
  matched = is_set (given (codes "detail")) || is_set (given (codes "print-all-matched"));
  ignored = is_set (given (codes "print-all-ignored"));
  missed = is_set (given (codes "print-all-missed"));
}

abbrev pub asks_with : (Text → Option Text) → (log regex : Option Text) → Option Form → Option ℤ → Option Asks
asks_with given (Some log) (Some regex) (Some form) (Some zone) = Some (record {
  date = given (codes "date");
  log = log;
  regex = regex;
  ignore = given (codes "ignore");
  zone = zone;
  dir = given (codes "conf");
  shows = shows_of given form zone;
})
asks_with given _ _ _ _ = None

-- what is asked for, by the values of the arguments
abbrev pub asks_by : (Text → Option Text) → Option Asks
asks_by given = asks_with given (given (codes "log")) (given (codes "regex")) (form_of (given (codes "out"))) (zone_if (given (codes "timezone")))

-- the value of an argument, where the command takes the words
abbrev pub given : List Text → Text → Option Text
given words name = first_of name (matches_of tool words)

abbrev pub asks_if : Kinds → List Text → Option Asks
asks_if (k ∷ ks) words = None
asks_if [] words = asks_by (given words)

-- what the words ask for, where the command takes them
unfoldable pub asks_of : List Text → Option Asks
asks_of words = asks_if (fault_of tool words) words

-- what the code has of it
abbrev pub shown : Asked → Asks
shown a = record {
  date = option_copied a.date;
  log = a.log.now;
  regex = a.regex.now;
  ignore = option_copied a.ignore;
  zone = a.zone;
  dir = option_copied a.dir;
  shows = a.shows;
}

-- the code's answer to the words
abbrev pub Answers : List Text → Answer → Type 0
Answers words (asked a) = asks_of words ≡ Some (shown a)
Answers words Usage = asks_of words ≡ None
Answers words NoMemory = Unit {0}
