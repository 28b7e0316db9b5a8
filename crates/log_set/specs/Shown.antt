-- What a failure keeps of its line.
use Rattle.std.specs.Prelude.{ℕ, zero, suc, ◌==◌, ◌||◌, nat_le, nat_lt, slice_index, Bool, true, false, List, [], ◌∷◌, length, take, codes, if◌then◌else◌}
use Rattle.std.specs.List.{list_any, starts_with}
use Rattle.f2b_base.specs.Limits.{kept_line_bytes}
use Rattle.f2b_base.specs.declared.jail.ActionDef.{ActionDef}
use Rattle.f2b_base.specs.declared.jail.JailDef.{JailDef}

-- the tag `<matches>` stands at the beginning of the text
abbrev pub begins_with_tag : List ℕ → Bool
begins_with_tag text = starts_with ◌==◌ text (codes "<matches>")

-- it stands somewhere in the command
abbrev pub has_tag : List ℕ → Bool
has_tag [] = false
has_tag (b ∷ bs) = begins_with_tag (b ∷ bs) || has_tag bs

-- a command of the action has it
abbrev pub is_shown_by : ActionDef → Bool
is_shown_by a = has_tag a.start || (has_tag a.stop || (has_tag a.ban || (has_tag a.unban || has_tag a.check)))

-- a command of the jail has it
abbrev pub shows_lines : JailDef → Bool
shows_lines d = list_any is_shown_by d.actions

-- a character begins with the byte
abbrev pub begins_character : ℕ → Bool
begins_character byte = nat_lt byte 128 || nat_le 192 byte

-- the last place up to n where a character of the text begins
abbrev pub last_start : List ℕ → ℕ → ℕ
last_start text zero = 0
last_start text (suc n) = if begins_character (slice_index text (suc n)) then suc n else last_start text n

-- the longest beginning of a line that has no more bytes than are kept, and ends between two characters
abbrev pub kept_of : List ℕ → List ℕ
kept_of line = if nat_le (length line) kept_line_bytes then line else take (last_start line kept_line_bytes) line

-- nothing is kept where no line is shown
abbrev pub kept_in : Bool → List ℕ → List ℕ
kept_in true line = kept_of line
kept_in false line = []
