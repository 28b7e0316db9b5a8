-- Spans of a line at which it may be cut.
use Rattle.std.specs.Prelude.{ℕ, ◌≤◌, List, Option, All, IfSome, IsCharBoundary}
use Rattle.f2b_world.specs.declared.pattern.spans.Cut.{Cut}
use Rattle.f2b_world.specs.declared.pattern.spans.HostSpans.{HostSpans}

-- it lies in the line, and begins and ends between characters
abbrev pub IsCut : List ℕ → Cut → Type 0
IsCut line c = (c.start ≤ c.end) × IsCharBoundary line c.start × IsCharBoundary line c.end

-- the match and each of its groups that took part do so
pub record AreHostCuts (line : List ℕ) (s : HostSpans) : Type 0 where
  pub whole : IsCut line s.whole
  pub ip4 : IfSome s.ip4 (IsCut line)
  pub ip6 : IfSome s.ip6 (IsCut line)
  pub name : IfSome s.name (IsCut line)
  pub content : IfSome s.content (IsCut line)

-- each part that is there does so
abbrev pub AreCuts : List ℕ → List (Option Cut) → Type 0
AreCuts line cuts = All (λ c. IfSome c (IsCut line)) cuts
