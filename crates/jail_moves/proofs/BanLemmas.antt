-- Bans that begin, past entries that go, and bans that a command means.
use Rattle.std.proofs.Common.{◌≡◌, ℕ, ◌+◌, ◌<◌, false, not, nat_le, List, [], ◌∷◌, ◌++◌, None, refl, ap, arith}
use Rattle.std.specs.List.{filter}
use Rattle.std.proofs.lemmas.Bool.Decides.{nat_tests}
use Rattle.ban_table.specs.declared.lists.BanLists.{BanLists}
use Rattle.ban_table.specs.Tables.{begun}
use Rattle.ban_table.proofs.FillLemmas.{placed_behind}
use Rattle.f2b_base.specs.declared.ban.Ban.{Ban}
use Rattle.f2b_base.specs.declared.ban.Past.{Past}
use Rattle.f2b_model.specs.Lists.{AllOf}
use Rattle.f2b_model.specs.Moves.{is_stale}
use Rattle.f2b_model.specs.Steps.{is_meant}

-- a ban of a greater serial than all begins behind them
pub begun_behind : (ban : Ban) (t : BanLists) → AllOf (λ (b : Ban). b.serial < ban.serial) t.active → begun ban t ≡ record t { active = t.active ++ ban ∷ [] }
begun_behind ban t lower = ap (λ bs. record t { active = bs }) (placed_behind ban t.active lower)

-- a command that names no addresses means all bans
pub all_meant : (bans : List Ban) → bans ≡ filter (is_meant None) bans
all_meant [] = refl
all_meant (b ∷ bs) = ap (λ r. b ∷ r) (all_meant bs)

-- before `purge` nothing is stale
pub none_stale : (at purge : ℕ) (t : BanLists) → at < purge → t ≡ record t { past = filter (λ (p : Past). not (is_stale at purge p)) t.past }
none_stale at purge t lt = ap (λ ps. record t { past = ps }) (all t.past)
  where
    fresh : (end : ℕ) → nat_le (end + purge) at ≡ false
    fresh end = grind (arith, nat_tests)

    all : (ps : List Past) → ps ≡ filter (λ (p : Past). not (is_stale at purge p)) ps
    all [] = refl
    all (p ∷ ps) = let e = fresh p.end in rw e (ap (λ r. p ∷ r) (all ps))
