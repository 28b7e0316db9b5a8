-- What is noted of the dates of lines, behind what was noted of others.
use Rattle.std.proofs.Common.{◌≡◌, ℕ, List, [], ◌∷◌, ◌++◌, refl}
use Rattle.log_follow.specs.declared.line.Line.{Line}
use Rattle.regex_tool.specs.Logs.{Looks, seen_of}
use Rattle.regex_tool.specs.Notes.{notes_after, notes_with}
use Rattle.regex_tool.specs.declared.notes.DateNotes.{DateNotes}

module _ (looks : Looks) (now : ℕ) where
  -- no line
  pub notes-none : (notes : DateNotes) → notes_with notes looks now [] ≡ notes
  notes-none notes = refl

  -- one line
  pub notes-one : (notes : DateNotes) (line : Line) → notes_after notes line (seen_of looks now line) ≡ notes_with notes looks now (line ∷ [])
  notes-one notes line = refl

  -- some lines, and then others
  pub notes-both : (notes : DateNotes) (some more : List Line) → notes_with (notes_with notes looks now some) looks now more ≡ notes_with notes looks now (some ++ more)
  notes-both notes [] more = refl
  notes-both notes (line ∷ some) more = notes-both (notes_after notes line (seen_of looks now line)) some more
