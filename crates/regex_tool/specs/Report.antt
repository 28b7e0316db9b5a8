-- The report: how many lines each pattern decided, and how many lines there are of each kind.
use Rattle.std.specs.Prelude.{ℕ, ◌+◌, ◌==◌, ◌++◌, List, [], ◌∷◌, codes, if◌then◌else◌}
use Rattle.std.specs.Fmt.{decimal}
use Rattle.f2b_base.specs.declared.jail.JailDef.{JailDef}
use Rattle.regex_tool.specs.declared.counts.Counts.{Counts}

-- `Failregex: 3 total`
abbrev pub heading : List ℕ → ℕ → List ℕ
heading word total = word ++ codes ": " ++ decimal total ++ codes " total\n"

-- `   1) [3] PATTERN`, where the pattern decided some line
unfoldable pub row : (number count : ℕ) → (pattern : List ℕ) → List ℕ
row number count pattern =
    if count == 0 then [] else codes "   " ++ decimal number ++ codes ") [" ++ decimal count ++ codes "] " ++ pattern ++ codes "\n"

-- the rows of some patterns, where the first of them has the number n
abbrev pub rows : (n : ℕ) → (counts : List ℕ) → (patterns : List (List ℕ)) → List ℕ
rows n (count ∷ counts) (pattern ∷ patterns) = row n count pattern ++ rows (n + 1) counts patterns
rows n _ _ = []

-- `Lines: 4 lines, 1 ignored, 1 matched, 2 missed`
unfoldable pub last_line : Counts → List ℕ
last_line counts =
    codes "Lines: " ++ decimal counts.lines ++ codes " lines, " ++ decimal counts.ignored ++ codes " ignored, "
    ++ decimal counts.matched ++ codes " matched, " ++ decimal counts.missed ++ codes " missed\n"

-- what came of the lines, by the patterns as they were written
unfoldable pub report : JailDef → Counts → List ℕ
report jail counts =
    heading (codes "Failregex") counts.matched ++ rows 1 counts.fail jail.fail
    ++ heading (codes "Ignoreregex") counts.ignored ++ rows 1 counts.ignore_lines jail.ignore_lines
    ++ last_line counts
