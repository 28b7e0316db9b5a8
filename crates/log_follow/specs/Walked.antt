-- Where a walk along a pattern and a name comes to.
use Rattle.std.specs.Prelude.{ℕ, ◌≡◌, ◌+◌, ◌<◌, true, false, List, length, drop}
use Rattle.std.specs.Str.{IsUtf8, chars}
use Rattle.log_follow.specs.Globs.{globs, any_end}
use Rattle.log_follow.specs.declared.glob.Walk.{Walk}
use Rattle.log_follow.specs.declared.glob.Walk.TheVariants.{Whole, Differs, Star}

-- At a star: the pattern stands for the name where what follows the star does for some end of what is left of the name. It stands for
-- no end of the name otherwise.
pub record IsStar (pattern name behind left : List ℕ) : Type 0 where
  pub now : globs pattern name ≡ any_end (globs behind) left
  pub later : (k : ℕ) → globs pattern (drop k name) ≡ true → any_end (globs behind) left ≡ true

-- the same of the texts, both of which are cut behind a character
pub record ComesToStar (pattern name behind left : List ℕ) : Type 0 where
  pub star : IsStar (chars pattern) (chars name) (chars behind) (chars left)
  pub shorter : length behind + length left < length pattern + length name
  pub behind_text : IsUtf8 behind
  pub left_text : IsUtf8 left

-- the walk tells whether the pattern stands for the name, or came to a star
abbrev pub IsWalk : List ℕ → List ℕ → Walk → Type 0
IsWalk pattern name Whole = globs (chars pattern) (chars name) ≡ true
IsWalk pattern name Differs = globs (chars pattern) (chars name) ≡ false
IsWalk pattern name (Star behind left) = ComesToStar pattern name behind.now left.now
