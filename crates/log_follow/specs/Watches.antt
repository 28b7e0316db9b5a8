-- A watch of a log: its generation, and what a look does to it.
use Rattle.std.specs.Prelude.{ℕ, ◌≡◌, ◌+◌, ◌-◌, ◌≤◌, ◌==◌, nat_le, min, Bool, true, false, ◌&&◌, List, [], ◌∷◌, ◌++◌, length, take}
use Rattle.std.specs.List.{starts_with}
use Rattle.f2b_base.specs.declared.jail.Place.{Place}
use Rattle.f2b_base.specs.declared.jail.Place.TheVariants.{Tail, Pos}
use Rattle.f2b_base.specs.declared.outside.FileLook.{FileLook}
use Rattle.f2b_base.specs.Limits.{head_bytes, look_bytes}
use Rattle.log_follow.specs.Lines.{rest_of, new_lines}
use Rattle.log_follow.specs.declared.line.Line.{Line}
use Rattle.log_follow.specs.declared.step.Ask.{Ask}
use Rattle.log_follow.specs.declared.step.Step.{Step}
use Rattle.log_follow.specs.declared.step.Step.TheVariants.{Placed, Rotated, Lines, Nothing}

-- A generation of a log is what is read of it until it is found to be another log. It has a base, the place that it began at, and all bytes
-- that looks brought since.
pub record Watch : Type 0 where
  pub base : Place
  pub seen : List ℕ

abbrev pub begun : Place → Watch
begun place = record { base = place; seen = [] }

-- a place has the log's first bytes, as many as make a head, or all before the position where they are fewer
abbrev pub IsPlace : Place → Type 0
IsPlace Tail = Unit {0}
IsPlace (Pos position head) = length head ≡ min head_bytes position

-- What is derived from a generation.

abbrev pub is_placed : Place → Bool
is_placed Tail = false
is_placed (Pos position head) = true

abbrev pub base_position : Place → ℕ
base_position Tail = 0
base_position (Pos position head) = position

abbrev pub base_head : Place → List ℕ
base_head Tail = []
base_head (Pos position head) = head

-- how many of the bytes there are up to and with the last LF
abbrev pub whole_length : List ℕ → ℕ
whole_length seen = length seen - length (rest_of seen)

-- the start of the first line that is not yet whole; the carry is `rest_of w.seen`, what was read behind it
abbrev pub position_in : Watch → ℕ
position_in w = base_position w.base + whole_length w.seen

-- where to read on: the position and the carry's length, which is the base's position and the length of all that was seen
abbrev pub reading_place : Watch → ℕ
reading_place w = base_position w.base + length w.seen

-- the log's first bytes, as many as make a head, or all that were read where they are fewer
abbrev pub head_in : Watch → List ℕ
head_in w = take head_bytes (base_head w.base ++ w.seen)

-- the place that is kept of a watch: never the carry
abbrev pub place_by : Place → Watch → Place
place_by Tail w = Tail
place_by (Pos position head) w = Pos (position_in w) (take (min head_bytes (position_in w)) (head_in w))

abbrev pub place_in : Watch → Place
place_in w = place_by w.base w

-- Looks.

-- what to look for: the head, and from the reading place on at most as many bytes as one look brings
abbrev pub ask_in : Watch → Ask
ask_in w = record { head = head_bytes; from = reading_place w; max = look_bytes }

-- the look answers the ask: its head has as many bytes as were asked for, or all there are, and its bytes lie in the log from there on
pub record Answers (ask : Ask) (look : FileLook) : Type 0 where
  pub head : length look.head ≡ min ask.head look.size
  pub most : length look.bytes ≤ ask.max
  pub within : length look.bytes ≤ look.size - ask.from

-- the log is no shorter than what was read of it, and begins with the head
abbrev pub goes_on : Watch → FileLook → Bool
goes_on w look = nat_le (reading_place w) look.size && starts_with ◌==◌ look.head (head_in w)

abbrev pub sees : List ℕ → Watch → Watch
sees bytes w = record { base = w.base; seen = w.seen ++ bytes }

-- lines that became whole, or nothing where none did
abbrev pub step_of : List Line → Step
step_of [] = Nothing
step_of (line ∷ lines) = Lines (line ∷ lines)

-- the generation goes on, or the log is another one
abbrev pub looked_on : Bool → Watch → FileLook → Watch × Step
looked_on true w look = (sees look.bytes w, step_of (new_lines w.seen look.bytes))
looked_on false w look = (begun (Pos 0 []), Rotated)

-- in place `Tail` the log's end becomes the position, and the head is that of the look
abbrev pub looked_by : Place → Watch → FileLook → Watch × Step
looked_by Tail w look = (begun (Pos look.size look.head), Placed)
looked_by (Pos position head) w look = looked_on (goes_on w look) w look

-- where a look leaves a watch, and what it brings
abbrev pub looked : Watch → FileLook → Watch × Step
looked w look = looked_by w.base w look
