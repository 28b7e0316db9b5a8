-- The date of a line, by the forms of a jail.
use Rattle.std.specs.Prelude.{ℕ, ◌+◌, ◌≤◌, ◌==◌, ◌&&◌, ℤ, Bool, false, List, [], ◌∷◌, drop, slice_range, Option, None, is_none, option_and_then, option_map, if◌then◌else◌, IsCharBoundary}
use Rattle.std.specs.Option.{option_or}
use Rattle.f2b_world.specs.Matches.{whole_in, group_in}
use Rattle.f2b_world.specs.declared.pattern.spans.Cut.{Cut}
use Rattle.date_detect.specs.Fields.{Said, said_moment}
use Rattle.date_detect.specs.Forms.{Rule}
use Rattle.date_detect.specs.declared.form.Form.{Form}
use Rattle.date_detect.specs.declared.search.Found.{Found}

-- the leftmost match of a pattern in a line
unfoldable pub match_in : List ℕ → List ℕ → Option Cut
match_in pattern line = whole_in pattern line

-- the text of a part of a line
abbrev pub text_of : List ℕ → Option Cut → Option (List ℕ)
text_of line = option_map (λ (c : Cut). slice_range line c.start c.end)

-- what the group with a number covers in that match, if there is such a group and it took part
unfoldable pub covered : List ℕ → List ℕ → Option ℕ → Option (List ℕ)
covered pattern line number = text_of line (group_in pattern line number)

-- what the groups of a form cover in its leftmost match
abbrev pub said_in : Form → List ℕ → Said
said_in form line = record {
  year = covered form.pattern line form.groups.year;
  short_year = covered form.pattern line form.groups.short_year;
  month = covered form.pattern line form.groups.month;
  month_name = covered form.pattern line form.groups.month_name;
  day = covered form.pattern line form.groups.day;
  hour = covered form.pattern line form.groups.hour;
  minute = covered form.pattern line form.groups.minute;
  second = covered form.pattern line form.groups.second;
  zone = covered form.pattern line form.groups.zone;
  moment = covered form.pattern line form.groups.moment;
}

abbrev pub found_at : Cut → ℤ → Found
found_at cut secs = record { start = cut.start; end = cut.end; secs = secs }

-- the date of a form: its leftmost match, where that names a moment
unfoldable pub date_of : Form → ℕ → ℤ → List ℕ → Option Found
date_of form now zone line =
    option_and_then (λ cut. option_map (found_at cut) (said_moment (said_in form line) now zone)) (match_in form.pattern line)

-- the same date in a line with one byte more at its beginning
abbrev pub one_on : Found → Found
one_on found = record found { start = found.start + 1; end = found.end + 1 }

-- the line begins with `[`
abbrev pub has_bracket : List ℕ → Bool
has_bracket [] = false
has_bracket (c ∷ line) = c == 91

-- The date of a form in a line. A date that has to stand at the beginning may also stand right behind a `[` there, where the
-- form has no match at the beginning itself.
unfoldable pub date_by : Bool → Form → ℕ → ℤ → List ℕ → Option Found
date_by anchored form now zone line =
    if anchored && (is_none (match_in form.pattern line) && has_bracket line)
    then option_map one_on (date_of form now zone (drop 1 line))
    else date_of form now zone line

-- the first form that gives a date
unfoldable pub first_date : Bool → List Form → ℕ → ℤ → List ℕ → Option Found
first_date anchored [] now zone line = None
first_date anchored (form ∷ forms) now zone line =
    option_or (date_by anchored form now zone line) (first_date anchored forms now zone line)

-- the date of a line
abbrev pub date_in : Rule → ℕ → ℤ → List ℕ → Option Found
date_in rule = first_date rule.anchored rule.forms

-- it lies in the line, and begins and ends between characters
pub record LiesIn (line : List ℕ) (found : Found) : Type 0 where
  pub order : found.start ≤ found.end
  pub start : IsCharBoundary line found.start
  pub end : IsCharBoundary line found.end
