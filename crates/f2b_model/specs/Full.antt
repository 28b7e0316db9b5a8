-- When an address has failed too often.
use Rattle.std.specs.Prelude.{◌≡◌, ℕ, ◌+◌, ◌*◌, ◌<◌, ◌≤◌, Bool, ◌&&◌, nat_lt, nat_le, List, [], ◌∷◌, length, filter}
use Rattle.std.specs.List.{list_any}
use Rattle.f2b_base.specs.declared.addr.Addr.{Addr}
use Rattle.f2b_base.specs.Addresses.{same_addr}
use Rattle.f2b_base.specs.declared.ban.Failure.{Failure}
use Rattle.f2b_model.specs.Lists.{IsIn}

-- whether a failure is the address's
abbrev pub is_of : Addr → Failure → Bool
is_of addr f = same_addr f.addr addr

-- whether a failure is the address's, from `start` on and less than `findtime` after it
abbrev pub in_span : Addr → ℕ → ℕ → Failure → Bool
in_span addr start findtime f = is_of addr f && (nat_le start f.time && nat_lt f.time (start + findtime))

-- how many failures are so
abbrev pub how_many : Addr → ℕ → ℕ → List Failure → ℕ
how_many addr start findtime fs = length (filter (in_span addr start findtime) fs)

-- some span of `findtime` seconds holds `maxretry` failures of the address
pub record IsFull (findtime maxretry : ℕ) (addr : Addr) (fs : List Failure) : Type 0 where
  pub start : ℕ
  pub many : maxretry ≤ how_many addr start findtime fs

-- the same by a test: some failure begins such a span
abbrev pub is_full : ℕ → ℕ → Addr → List Failure → Bool
is_full findtime maxretry addr fs = list_any (λ f. nat_le maxretry (how_many addr f.time findtime fs)) fs

-- a choice of a list: some of its elements, each at most once
pub data IsChoice {A : Type 0} : List A → List A → Type 0 where
  none : IsChoice [] []
  left : {x : A} {chosen xs : List A} → IsChoice chosen xs → IsChoice chosen (x ∷ xs)
  taken : {x : A} {chosen xs : List A} → IsChoice chosen xs → IsChoice (x ∷ chosen) (x ∷ xs)

-- the same by choice: some `maxretry` of the address's failures, the latest less than `findtime` after the earliest
pub record IsFullByChoice (findtime maxretry : ℕ) (addr : Addr) (fs : List Failure) : Type 0 where
  pub chosen : List Failure
  pub choice : IsChoice chosen (filter (is_of addr) fs)
  pub enough : length chosen ≡ maxretry
  pub close : (f g : Failure) → IsIn f chosen → IsIn g chosen → f.time < g.time + findtime

-- whether a failure is later than two `findtime` before a moment: older ones can fill no address from then on
abbrev pub is_recent : ℕ → ℕ → Failure → Bool
is_recent at findtime f = nat_lt at (f.time + 2 * findtime)
