-- How many lines each pattern decided, and how many there are of each kind.
use Rattle.std.specs.Prelude.{ℕ, suc, zero, ◌+◌, ◌==◌, Bool, true, false, List, [], ◌∷◌, length, Option, None, Some, is_some, count_by, if◌then◌else◌}
use Rattle.f2b_base.specs.declared.jail.JailDef.{JailDef}
use Rattle.filter_regex.specs.declared.finding.Finding.{Finding}
use Rattle.filter_regex.specs.declared.finding.Finding.TheVariants.{Failure, Ignored, NoDate, Missed, NameOnly, IgnoredAddr, TooOld}
use Rattle.regex_tool.specs.declared.counts.Counts.{Counts}

-- the number of the pattern of failures that matched a line
abbrev pub by_fail : Finding → Option ℕ
by_fail (Failure addr time number) = Some number
by_fail (NameOnly number) = Some number
by_fail (IgnoredAddr number) = Some number
by_fail (TooOld number) = Some number
by_fail _ = None

-- the number of the pattern for which a line is ignored
abbrev pub by_ignore : Finding → Option ℕ
by_ignore (Ignored number) = Some number
by_ignore _ = None

-- a line without a date is missed too
abbrev pub is_missed : Finding → Bool
is_missed Missed = true
is_missed NoDate = true
is_missed _ = false

abbrev pub is_number : ℕ → Option ℕ → Bool
is_number n None = false
is_number n (Some number) = number == n

-- how many lines each of the patterns decided, where the first of them has the number n
abbrev pub decided_from : (by : Finding → Option ℕ) → (n : ℕ) → (patterns : List (List ℕ)) → List Finding → List ℕ
decided_from by n [] findings = []
decided_from by n (pattern ∷ patterns) findings = count_by (λ finding. is_number n (by finding)) findings ∷ decided_from by (n + 1) patterns findings

-- what comes of lines with these findings, by the patterns of a jail
abbrev pub counts_of : JailDef → List Finding → Counts
counts_of jail findings = record {
  lines = length findings;
  ignored = count_by (λ finding. is_some (by_ignore finding)) findings;
  matched = count_by (λ finding. is_some (by_fail finding)) findings;
  missed = count_by is_missed findings;
  fail = decided_from by_fail 1 jail.fail findings;
  ignore_lines = decided_from by_ignore 1 jail.ignore_lines findings;
}

-- ---- one line more

-- the count at a place, from 0, is one more
abbrev pub raised_at : ℕ → List ℕ → List ℕ
raised_at k [] = []
raised_at zero (count ∷ counts) = (count + 1) ∷ counts
raised_at (suc k) (count ∷ counts) = count ∷ raised_at k counts

-- the count of the pattern with a number, from 1, is one more
abbrev pub raised : ℕ → List ℕ → List ℕ
raised zero counts = counts
raised (suc k) counts = raised_at k counts

abbrev pub raised_by : Option ℕ → List ℕ → List ℕ
raised_by None counts = counts
raised_by (Some number) counts = raised number counts

abbrev pub plus_if : Bool → ℕ → ℕ
plus_if holds count = if holds then count + 1 else count

unfoldable pub counted : Counts → Finding → Counts
counted counts finding = record {
  lines = counts.lines + 1;
  ignored = plus_if (is_some (by_ignore finding)) counts.ignored;
  matched = plus_if (is_some (by_fail finding)) counts.matched;
  missed = plus_if (is_missed finding) counts.missed;
  fail = raised_by (by_fail finding) counts.fail;
  ignore_lines = raised_by (by_ignore finding) counts.ignore_lines;
}
