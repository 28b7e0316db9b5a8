-- What is proved of watches and of text.
use Rattle.std.specs.Prelude.{ℕ, ◌≡◌, ◌+◌, min, true, List, [], ◌∷◌, ◌++◌, length}
use Rattle.std.specs.Char.{IsScalar, encode_utf8}
use Rattle.std.specs.Str.{StartsWithNoChar}
use Rattle.f2b_base.specs.declared.outside.FileLook.{FileLook}
use Rattle.f2b_base.specs.Limits.{head_bytes}
use Rattle.log_follow.specs.Decoded.{decoded, replacement}
use Rattle.log_follow.specs.Lines.{rest_of, lines_of, new_lines}
use Rattle.log_follow.specs.Watches.{Watch, IsPlace, Answers, is_placed, position_in, reading_place, head_in, place_in, ask_in, goes_on, looked}
use Rattle.log_follow.specs.declared.line.Line.{Line}
use Rattle.log_follow.specs.declared.step.Step.{Step}
use Rattle.log_follow.specs.declared.step.Step.TheVariants.{Placed, Rotated, Lines, Nothing}

-- Any list of looks.

-- where the looks leave a watch
abbrev pub after_looks : Watch → List FileLook → Watch
after_looks w [] = w
after_looks w (look ∷ looks) = after_looks (looked w look).0 looks

-- what each of them brings
abbrev pub steps_of : Watch → List FileLook → List Step
steps_of w [] = []
steps_of w (look ∷ looks) = (looked w look).1 ∷ steps_of (looked w look).0 looks

-- all lines that they bring
abbrev pub lines_in : List Step → List Line
lines_in [] = []
lines_in (Lines lines ∷ steps) = lines ++ lines_in steps
lines_in (_ ∷ steps) = lines_in steps

-- the lines of the generation that the steps come to, of which there were some before
abbrev pub lines_since : List Line → List Step → List Line
lines_since before [] = before
lines_since before (Lines lines ∷ steps) = lines_since (before ++ lines) steps
lines_since before (Nothing ∷ steps) = lines_since before steps
lines_since before (Placed ∷ steps) = lines_since [] steps
lines_since before (Rotated ∷ steps) = lines_since [] steps

-- all bytes that the looks have
abbrev pub bytes_in : List FileLook → List ℕ
bytes_in [] = []
bytes_in (look ∷ looks) = look.bytes ++ bytes_in looks

-- each look is at the log of the same generation
abbrev pub AllGoOn : Watch → List FileLook → Type 0
AllGoOn w [] = Unit {0}
AllGoOn w (look ∷ looks) = (is_placed w.base ≡ true) × (goes_on w look ≡ true) × AllGoOn (looked w look).0 looks

pub record WatchLaw : Type 0 where
  -- whatever looks come, the lines that they brought since the generation began are the whole lines of what was seen of it
  pub whole : (w : Watch) (looks : List FileLook) → lines_since (lines_of w.seen) (steps_of w looks) ≡ lines_of (after_looks w looks).seen
  -- looks at one generation bring the lines of all their bytes, each once
  pub once : (w : Watch) (looks : List FileLook) → AllGoOn w looks → lines_in (steps_of w looks) ≡ new_lines w.seen (bytes_in looks)
  -- so it does not matter how the bytes were cut
  pub cut : (w : Watch) (one other : List FileLook) → AllGoOn w one → AllGoOn w other → bytes_in one ≡ bytes_in other
      → (lines_in (steps_of w one) ≡ lines_in (steps_of w other)) × (after_looks w one ≡ after_looks w other)
  -- the carry lies between the position and the reading place
  pub position : (w : Watch) → position_in w + length (rest_of w.seen) ≡ reading_place w
  -- places stay within their bounds
  pub head : (w : Watch) → IsPlace w.base → length (head_in w) ≡ min head_bytes (reading_place w)
  pub base : (w : Watch) (look : FileLook) → IsPlace w.base → Answers (ask_in w) look → IsPlace (looked w look).0.base
  pub place : (w : Watch) → IsPlace w.base → IsPlace (place_in w)
  -- who begins again at the place that was kept reads the carry again, and finds the same lines behind it
  pub again : (w : Watch) (bytes : List ℕ) → lines_of (rest_of w.seen ++ bytes) ≡ new_lines w.seen bytes

-- these three equations give the text of any bytes
pub record DecodeLaw : Type 0 where
  pub none : decoded [] ≡ []
  pub kept : (c : ℕ) (bytes : List ℕ) → IsScalar c → decoded (encode_utf8 c ++ bytes) ≡ encode_utf8 c ++ decoded bytes
  pub replaced : (byte : ℕ) (bytes : List ℕ) → StartsWithNoChar (byte ∷ bytes) → decoded (byte ∷ bytes) ≡ replacement ++ decoded bytes
