-- Serials that rise from one ban to the next.
use denote.Bor.{Bor}
use Rattle.std.proofs.Common.{◌≡◌, ◌≢◌, ℕ, ◌+◌, ◌<◌, true, false, not, List, [], ◌∷◌, Option, Some, None, refl, arith}
use Rattle.std.specs.Option.{option_copied, is_some}
use Rattle.f2b_base.specs.declared.addr.Addr.{Addr}
use Rattle.f2b_base.specs.declared.ban.Ban.{Ban}
use Rattle.f2b_model.specs.Lists.{AllOf, placed}
use Rattle.f2b_model.specs.Moves.{ban_of, is_banned}
use Rattle.f2b_model.proofs.ListLemmas.{by_test}
use Rattle.f2b_model.proofs.OrderlyLemmas.{all_of-filter}
use Rattle.ban_table.specs.declared.lists.BanLists.{BanLists}
use Rattle.ban_table.specs.Tables.{by_serial, ended}
use Rattle.ban_table.proofs.BanLemmas.{all_placed}

pub none_lent : {A : Type 0} (r : Option (Bor A)) → is_some r ≡ false → option_copied r ≡ None
none_lent None h = refl
none_lent (Some b) h = absurd (let e : true ≡ false = h in cc)

-- serials below a number are other than it
pub all_apart : (serial : ℕ) (bans : List Ban) → AllOf (λ (b : Ban). b.serial < serial) bans → AllOf (λ (b : Ban). b.serial ≢ serial) bans
all_apart serial [] a = tt
all_apart serial (b ∷ bs) a = let lt = a.0 in ((λ e. absurd (omega arith)), all_apart serial bs a.1)

pub all_below_more : (serial : ℕ) (bans : List Ban) → AllOf (λ (b : Ban). b.serial < serial) bans → AllOf (λ (b : Ban). b.serial < serial + 1) bans
all_below_more serial [] a = tt
all_below_more serial (b ∷ bs) a = let lt = a.0 in (omega arith, all_below_more serial bs a.1)

pub all_below_begun : (serial : ℕ) (ban : Ban) (bans : List Ban) → AllOf (λ (b : Ban). b.serial < serial) bans → ban.serial ≡ serial
    → AllOf (λ (b : Ban). b.serial < serial + 1) (placed by_serial ban bans)
all_below_begun serial ban bans a e = all_placed (λ (b : Ban). b.serial < serial + 1) by_serial ban bans (omega arith) (all_below_more serial bans a)

pub all_below_ended : (serial : ℕ) (addr : Addr) (at : ℕ) (t : BanLists) → AllOf (λ (b : Ban). b.serial < serial) t.active → AllOf (λ (b : Ban). b.serial < serial + 1) (ended addr at t).active
all_below_ended serial addr at t a =
    let more = all_below_more serial t.active a in
    by_test (is_banned addr t.active) _ (λ e. rw e (all_of-filter (λ (b : Ban). b.serial < serial + 1) (λ b. not (ban_of addr b)) t.active more)) (λ e. rw e more)
