-- What is noted of the dates of lines: in how many lines they stand elsewhere than at the beginning, and how many of the last ones are of
-- another zone.
use Rattle.std.specs.Prelude.{ℕ, ◌+◌, ◌==◌, ◌&&◌, ◌||◌, not, nat_eq, ℤ, Bool, List, [], ◌∷◌, Option, None, Some, codes}
use Rattle.std.specs.List.{starts_with}
use Rattle.date_detect.specs.declared.search.Found.{Found}
use Rattle.log_follow.specs.declared.line.Line.{Line}
use Rattle.regex_tool.specs.Counts.{plus_if}
use Rattle.regex_tool.specs.Logs.{Looks, seen_of}
use Rattle.regex_tool.specs.Sections.{line_text}
use Rattle.regex_tool.specs.declared.notes.DateNotes.{DateNotes}
use Rattle.regex_tool.specs.declared.seen.Seen.{Seen}

-- a date stands at the beginning of a line, or right behind a `[` there
abbrev pub is_at_front : List ℕ → Found → Bool
is_at_front text date = date.start == 0 || (date.start == 1 && starts_with nat_eq text (codes "["))

-- how many dates in a row are too old, or to come, by whole half hours, with one more that may be
abbrev pub run_after : Option ℤ → (run : ℕ) → ℕ
run_after None run = 0
run_after (Some other) run = run + 1

abbrev pub dated_after : DateNotes → Line → Option Found → Option ℤ → DateNotes
dated_after notes line None other = notes
dated_after notes line (Some date) other = record {
  elsewhere = plus_if (not (is_at_front (line_text line) date)) notes.elsewhere;
  run = run_after other notes.run;
  other = other;
}

-- one line more: one without a date changes nothing
abbrev pub notes_after : DateNotes → Line → Seen → DateNotes
notes_after notes line seen = dated_after notes line seen.date seen.other

-- some lines more, one after the other
abbrev pub notes_with : DateNotes → Looks → (now : ℕ) → List Line → DateNotes
notes_with notes looks now [] = notes
notes_with notes looks now (line ∷ lines) = notes_with (notes_after notes line (seen_of looks now line)) looks now lines

abbrev pub no_notes : DateNotes
no_notes = record { elsewhere = 0; run = 0; other = None }
