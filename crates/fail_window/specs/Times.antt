-- Failures of one address by their times.
use Rattle.std.specs.Prelude.{ℕ, ◌+◌, ◌-◌, ◌<◌, ◌≤◌, Bool, nat_lt, List, length, map, get_or}
use Rattle.f2b_base.specs.declared.ban.Failure.{Failure}

-- the times of failures
abbrev pub times_of : List Failure → List ℕ
times_of fs = map (λ (f : Failure). f.time) fs

-- whether a failure is earlier than another
abbrev pub by_time : Failure → Failure → Bool
by_time f g = nat_lt f.time g.time

-- whether a failure is later than `findtime` before a moment
abbrev pub is_within_findtime : ℕ → ℕ → Failure → Bool
is_within_findtime now findtime f = nat_lt now (f.time + findtime)

-- the `maxretry` failures from place k on are there, the last less than `findtime` after the first
abbrev pub IsRunAt : ℕ → ℕ → List Failure → ℕ → Type 0
IsRunAt findtime maxretry fs k =
    (k + maxretry ≤ length fs) × (get_or (times_of fs) (k + maxretry - 1) 0 < get_or (times_of fs) k 0 + findtime)
