-- The failures of one address, by their times alone: when they fill it.
use Rattle.std.specs.Prelude.{◌≡◌, ℕ, ◌+◌, ◌<◌, ◌≤◌, Bool, ◌&&◌, nat_lt, nat_le, List, [], ◌∷◌, length, map, filter, get_or}
use Rattle.f2b_base.specs.declared.addr.Addr.{Addr}
use Rattle.f2b_base.specs.declared.ban.Failure.{Failure}
use Rattle.f2b_model.specs.Full.{is_of}
use Rattle.f2b_model.specs.Lists.{AllOf, in_order}

-- the times of an address's failures, in order
abbrev pub times_of : Addr → List Failure → List ℕ
times_of addr fs = in_order nat_lt (map (λ (f : Failure). f.time) (filter (is_of addr) fs))

-- whether a time is in the span of `findtime` seconds that begins at `start`
abbrev pub in_time : ℕ → ℕ → ℕ → Bool
in_time start findtime t = nat_le start t && nat_lt t (start + findtime)

-- the times never fall
abbrev pub IsRising : List ℕ → Type 0
IsRising [] = Unit {0}
IsRising (t ∷ ts) = AllOf (λ u. t ≤ u) ts × IsRising ts

-- some span of `findtime` seconds holds `maxretry` of them
pub record IsFullBy (findtime maxretry : ℕ) (ts : List ℕ) : Type 0 where
  pub start : ℕ
  pub many : maxretry ≤ length (filter (in_time start findtime) ts)

-- some `maxretry` that stand side by side, the last less than `findtime` after the first
pub record HasRun (findtime maxretry : ℕ) (ts : List ℕ) : Type 0 where
  pub i : ℕ
  pub j : ℕ
  pub apart : j + 1 ≡ i + maxretry
  pub within : j < length ts
  pub close : get_or ts j 0 < get_or ts i 0 + findtime
