-- All that is said of a test that is made.
use Rattle.std.specs.Prelude.{ℕ, ◌++◌, Bool, List, [], codes, if◌then◌else◌}
use Rattle.f2b_base.specs.declared.jail.JailDef.{JailDef}
use Rattle.regex_tool.specs.Report.{report}
use Rattle.regex_tool.specs.Warnings.{warnings}
use Rattle.regex_tool.specs.declared.results.Results.{Results}
use Rattle.regex_tool.specs.declared.section.Section.{Section}
use Rattle.regex_tool.specs.declared.sections.Sections.{Sections}
use Rattle.regex_tool.specs.declared.shows.Form.{Form}
use Rattle.regex_tool.specs.declared.shows.Form.TheVariants.{Report}
use Rattle.regex_tool.specs.declared.shows.Shows.{Shows}

-- the report, or a line for each failure
abbrev pub first_part : Form → JailDef → Results → List ℕ
first_part Report jail results = report jail results.counts
first_part _ jail results = results.sections.first.text

-- lines of one kind under their heading, where they are shown
abbrev pub under : (heading : List ℕ) → (holds : Bool) → Section → List ℕ
under heading holds section = if holds then heading ++ section.text else []

-- the lines of each kind that is shown
unfoldable pub shown_lines : Shows → Sections → List ℕ
shown_lines shows sections =
    under (codes "Matched lines:\n") shows.matched sections.matched
    ++ under (codes "Ignored lines:\n") shows.ignored sections.ignored
    ++ under (codes "Missed lines:\n") shows.missed sections.missed

-- what is said of a test, by what the words want to be shown
unfoldable pub output : Shows → JailDef → Results → List ℕ
output shows jail results = first_part shows.form jail results ++ shown_lines shows results.sections ++ warnings shows.detail jail results.notes
