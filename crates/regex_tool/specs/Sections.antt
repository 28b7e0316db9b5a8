-- The lines that are shown of a log, and how.
use Rattle.std.specs.Prelude.{ℕ, ◌+◌, ℤ, ◌++◌, Bool, List, [], ◌∷◌, Option, None, Some, is_some, codes, if◌then◌else◌}
use Rattle.std.specs.Fmt.{decimal}
use Rattle.f2b_base.specs.Addresses.{printed}
use Rattle.iso_moment.specs.Moments.{moment_text}
use Rattle.date_detect.specs.declared.search.Found.{Found}
use Rattle.filter_regex.specs.declared.finding.Finding.{Finding}
use Rattle.filter_regex.specs.declared.finding.Finding.TheVariants.{Failure}
use Rattle.log_follow.specs.declared.line.Line.{Line}
use Rattle.log_follow.specs.declared.line.Line.TheVariants.{Whole, Long}
use Rattle.regex_tool.specs.Counts.{by_fail, by_ignore, is_missed}
use Rattle.regex_tool.specs.Logs.{Looks, seen_of}
use Rattle.regex_tool.specs.declared.section.Kind.{Kind}
use Rattle.regex_tool.specs.declared.section.Kind.TheVariants.{Nothing, Matched, Detail, Ignored, Missed, Address, Row}
use Rattle.regex_tool.specs.declared.section.Section.{Section}
use Rattle.regex_tool.specs.declared.sections.Sections.{Sections}
use Rattle.regex_tool.specs.declared.seen.Seen.{Seen}
use Rattle.regex_tool.specs.declared.shows.Form.{Form}
use Rattle.regex_tool.specs.declared.shows.Form.TheVariants.{Report, Rows, Addresses}
use Rattle.regex_tool.specs.declared.shows.Shows.{Shows}

-- ---- one line

-- a line as it is shown
abbrev pub line_text : Line → List ℕ
line_text (Whole text) = text
line_text Long = codes "(a line of more than 65,536 bytes)"

-- `   LINE`
abbrev pub shown_line : Line → List ℕ
shown_line line = codes "   " ++ line_text line ++ codes "\n"

abbrev pub shown_if : Bool → Line → List ℕ
shown_if holds line = if holds then shown_line line else []

-- `ADDRESS SECONDS MOMENT`, of a failure
abbrev pub who_of : (zone : ℤ) → Finding → List ℕ
who_of zone (Failure addr time number) = printed addr ++ codes " " ++ decimal time ++ codes " " ++ moment_text zone time
who_of zone _ = codes "- - -"

-- `FIRST-LAST`, where the date's bytes stand in the line, counted from 1
abbrev pub place_of : Option Found → List ℕ
place_of None = codes "-"
place_of (Some date) = decimal (date.start + 1) ++ codes "-" ++ decimal date.end

-- `ADDRESS SECONDS MOMENT FIRST-LAST`
abbrev pub seen_text : (zone : ℤ) → Seen → List ℕ
seen_text zone seen = who_of zone seen.finding ++ codes " " ++ place_of seen.date

-- `   NUMBER) ADDRESS SECONDS MOMENT FIRST-LAST LINE`, with the number of the pattern that matched the line
abbrev pub detail_of : (zone : ℤ) → Option ℕ → Line → Seen → List ℕ
detail_of zone None line seen = []
detail_of zone (Some number) line seen = codes "   " ++ decimal number ++ codes ") " ++ seen_text zone seen ++ codes " " ++ line_text line ++ codes "\n"

-- `ADDRESS`, of a failure
abbrev pub address_of : Finding → List ℕ
address_of (Failure addr time number) = printed addr ++ codes "\n"
address_of _ = []

-- `ADDRESS<TAB>SECONDS<TAB>LINE`, of a failure
abbrev pub row_of : Line → Finding → List ℕ
row_of line (Failure addr time number) = printed addr ++ codes "\t" ++ decimal time ++ codes "\t" ++ line_text line ++ codes "\n"
row_of line _ = []

-- what is shown of a line in which that was seen
abbrev pub piece : Kind → Line → Seen → List ℕ
piece Nothing line seen = []
piece Matched line seen = shown_if (is_some (by_fail seen.finding)) line
piece (Detail zone) line seen = detail_of zone (by_fail seen.finding) line seen
piece Ignored line seen = shown_if (is_some (by_ignore seen.finding)) line
piece Missed line seen = shown_if (is_missed seen.finding) line
piece Address line seen = address_of seen.finding
piece Row line seen = row_of line seen.finding

-- ---- all lines

-- what is shown of some lines
abbrev pub pieces : Kind → Looks → ℕ → List Line → List ℕ
pieces kind looks now [] = []
pieces kind looks now (line ∷ lines) = piece kind line (seen_of looks now line) ++ pieces kind looks now lines

abbrev pub section_with : Section → Looks → ℕ → List Line → Section
section_with section looks now lines = record section { text = section.text ++ pieces section.kind looks now lines }

-- these lines are shown behind others
unfoldable pub sections_with : Sections → Looks → ℕ → List Line → Sections
sections_with sections looks now lines = record {
  first = section_with sections.first looks now lines;
  matched = section_with sections.matched looks now lines;
  ignored = section_with sections.ignored looks now lines;
  missed = section_with sections.missed looks now lines;
}

abbrev pub empty_section : Kind → Section
empty_section kind = record { kind = kind; text = [] }

abbrev pub kind_of : Form → Kind
kind_of Report = Nothing
kind_of Rows = Row
kind_of Addresses = Address

-- how matched lines are shown
abbrev pub matched_kind : (detail : Bool) → (zone : ℤ) → Kind
matched_kind detail zone = if detail then Detail zone else Matched

abbrev pub kind_if : Bool → Kind → Kind
kind_if holds kind = if holds then kind else Nothing

-- before the first line
abbrev pub no_sections : Shows → Sections
no_sections shows = record {
  first = empty_section (kind_of shows.form);
  matched = empty_section (kind_if shows.matched (matched_kind shows.detail shows.zone));
  ignored = empty_section (kind_if shows.ignored Ignored);
  missed = empty_section (kind_if shows.missed Missed);
}

-- ---- one line more

abbrev pub section_after : Section → Line → Seen → Section
section_after section line seen = record section { text = section.text ++ piece section.kind line seen }

unfoldable pub sections_after : Sections → Line → Seen → Sections
sections_after sections line seen = record {
  first = section_after sections.first line seen;
  matched = section_after sections.matched line seen;
  ignored = section_after sections.ignored line seen;
  missed = section_after sections.missed line seen;
}
