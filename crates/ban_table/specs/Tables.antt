-- The bans of one jail as two lists, and what each call does to them.
use Rattle.std.specs.Prelude.{◌≡◌, ℕ, ◌<◌, ◌≤◌, Bool, true, cond, not, nat_lt, List, [], ◌∷◌, ◌++◌, filter, ◌⊎◌}
use Rattle.f2b_base.specs.declared.addr.Addr.{Addr}
use Rattle.f2b_base.specs.declared.ban.Ban.{Ban}
use Rattle.f2b_model.specs.Lists.{IsIn, placed}
use Rattle.f2b_model.specs.Moves.{ban_of, is_banned}
use Rattle.f2b_model.specs.Steps.{is_due, own_end}
use Rattle.ban_table.specs.declared.lists.BanLists.{BanLists}

-- whether a ban began before another: serials rise
abbrev pub by_serial : Ban → Ban → Bool
by_serial a b = nat_lt a.serial b.serial

-- a ban begins
abbrev pub begun : Ban → BanLists → BanLists
begun ban t = record t { active = placed by_serial ban t.active }

-- the end of an address's ban at a moment, where it is banned
abbrev pub ended : Addr → ℕ → BanLists → BanLists
ended addr at t =
    cond (is_banned addr t.active)
    (record { active = filter (λ b. not (ban_of addr b)) t.active; past = t.past ++ record { addr = addr; end = at } ∷ [] })
    t

-- past entries that ended at a limit or before are dropped
abbrev pub purged : ℕ → BanLists → BanLists
purged limit t = record t { past = filter (λ p. nat_lt limit p.end) t.past }

-- of the active bans whose end is at most `now`, the one of least end, and of least serial among these
pub record IsNextDue (now : ℕ) (bans : List Ban) (ban : Ban) : Type 0 where
  pub active : IsIn ban bans
  pub due : is_due now ban ≡ true
  pub first : (other : Ban) → IsIn other bans → is_due now other ≡ true
      → (own_end ban < own_end other) ⊎ ((own_end ban ≡ own_end other) × (ban.serial ≤ other.serial))
