-- The part of a line that a failure keeps.
use Rattle.std.specs.Prelude.{◌≡◌, ℕ, ◌<◌, ◌≤◌, List, length, take, IsCharBoundary}
use Rattle.f2b_base.specs.Limits.{kept_line_bytes}

-- The longest beginning of the line that has no more bytes than are kept, and ends between two characters or at the line's end.
pub record IsKeptOf (line kept : List ℕ) : Type 0 where
  pub beginning : kept ≡ take (length kept) line
  pub short : length kept ≤ kept_line_bytes
  pub whole : IsCharBoundary line (length kept)
  pub longest : (n : ℕ) → length kept < n → n ≤ kept_line_bytes → ¬ IsCharBoundary line n
