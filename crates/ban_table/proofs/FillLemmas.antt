-- Bans that begin one after the other, by serial.
use Rattle.std.proofs.Common.{◌≡◌, ◌≢◌, ℕ, zero, suc, ◌+◌, ◌<◌, false, nat_lt, List, [], ◌∷◌, ◌++◌, length, get_or, take, refl, sym, ◌∙◌, ap, arith}
use Rattle.std.proofs.lemmas.Bool.Decides.{nat_tests}
use Rattle.std.proofs.lemmas.List.{take_more}
use Rattle.f2b_base.specs.declared.ban.Ban.{Ban}
use Rattle.f2b_base.specs.declared.ban.Past.{Past}
use Rattle.f2b_base.specs.Addresses.{same_addr}
use Rattle.f2b_model.specs.Lists.{AllOf, placed}
use Rattle.f2b_model.specs.Moves.{is_banned}
use Rattle.f2b_model.specs.Sound.{IsOnceEach, IsRisingSerials}
use Rattle.f2b_model.proofs.EndLemmas.{all_not}
use Rattle.f2b_model.proofs.OrderlyLemmas.{same_addr_sym}
use Rattle.f2b_model.proofs.StepLemmas.{all_of-more}
use Rattle.ban_table.specs.declared.lists.BanLists.{BanLists}
use Rattle.ban_table.specs.Tables.{by_serial, begun}
use Rattle.ban_table.proofs.TableLemmas.{lists_of}

-- the greater number is not below the lower one
not_below : (a b : ℕ) → a < b → nat_lt b a ≡ false
not_below a b h = grind (arith, nat_tests)

-- a ban of a greater serial stands behind all others
pub placed_behind : (ban : Ban) (bans : List Ban) → AllOf (λ (b : Ban). b.serial < ban.serial) bans → placed by_serial ban bans ≡ bans ++ ban ∷ []
placed_behind ban [] lower = refl
placed_behind ban (b ∷ bs) lower =
    let behind : by_serial ban b ≡ false = not_below b.serial ban.serial lower.0 in
    rw behind (ap (λ r. b ∷ r) (placed_behind ban bs lower.1))

-- what is lower is another one
pub all_others_lower : (serial : ℕ) (bans : List Ban) → AllOf (λ (b : Ban). b.serial < serial) bans → AllOf (λ (b : Ban). b.serial ≢ serial) bans
all_others_lower serial bans lower = all_of-more (λ (b : Ban). b.serial < serial) (λ (b : Ban). b.serial ≢ serial) (λ b lt e. absurd (omega arith)) bans lower

-- what all are, the one at a place is
pub all_at : {A : Type 0} (P : A → Type 0) (xs : List A) (i : ℕ) (d : A) → i < length xs → AllOf P xs → P (get_or xs i d)
all_at P [] i d within a = absurd (omega arith)
all_at P (x ∷ xs) zero d within a = a.0
all_at P (x ∷ xs) (suc i) d within a = all_at P xs i d (omega arith) a.1

-- in front of a place the serials are lower
pub front_lower : (bans : List Ban) (i : ℕ) (d : Ban) → i < length bans → IsRisingSerials bans → AllOf (λ (b : Ban). b.serial < (get_or bans i d).serial) (take i bans)
front_lower [] i d within rising = absurd (omega arith)
front_lower (b ∷ bs) zero d within rising = tt
front_lower (b ∷ bs) (suc i) d within rising =
    (all_at (λ (c : Ban). b.serial < c.serial) bs i d (omega arith) rising.0, front_lower bs i d (omega arith) rising.1)

-- and the addresses are others
pub front_free : (bans : List Ban) (i : ℕ) (d : Ban) → i < length bans → IsOnceEach bans → is_banned (get_or bans i d).addr (take i bans) ≡ false
front_free [] i d within once = absurd (omega arith)
front_free (b ∷ bs) zero d within once = refl
front_free (b ∷ bs) (suc i) d within once =
    let other : same_addr b.addr (get_or bs i d).addr ≡ false =
    same_addr_sym b.addr (get_or bs i d).addr ∙ all_at (λ (c : Ban). same_addr c.addr b.addr ≡ false) bs i d (omega arith) (all_not b.addr bs once.0) in
    rw other (front_free bs i d (omega arith) once.1)

-- one ban more of the list begins behind those before it
pub begun_next : (bans : List Ban) (past : List Past) (i : ℕ) (d : Ban) → i < length bans → IsRisingSerials bans
    → begun (get_or bans i d) (lists_of (take i bans) past) ≡ lists_of (take (i + 1) bans) past
begun_next bans past i d within rising =
    ap (λ bs. lists_of bs past) (placed_behind (get_or bans i d) (take i bans) (front_lower bans i d within rising) ∙ sym (take_more bans i d within))

-- a list of bans comes one by one into a table: the next one may begin
pub fill_free : (bans : List Ban) (past : List Past) (i : ℕ) (d : Ban) (t : BanLists) → i < length bans → IsOnceEach bans → t ≡ lists_of (take i bans) past
    → is_banned (get_or bans i d).addr t.active ≡ false
fill_free bans past i d t within once is = rw is (front_free bans i d within once)

-- and has a serial of its own
pub fill_new : (bans : List Ban) (past : List Past) (i : ℕ) (d : Ban) (t : BanLists) → i < length bans → IsRisingSerials bans → t ≡ lists_of (take i bans) past
    → AllOf (λ (b : Ban). b.serial ≢ (get_or bans i d).serial) t.active
fill_new bans past i d t within rising is = rw is (all_others_lower (get_or bans i d).serial (take i bans) (front_lower bans i d within rising))

-- and once it did it stands where it stood in the list
pub fill_next : (bans : List Ban) (past : List Past) (i : ℕ) (d : Ban) (t after : BanLists) → i < length bans → IsRisingSerials bans → t ≡ lists_of (take i bans) past
    → after ≡ begun (get_or bans i d) t → after ≡ lists_of (take (i + 1) bans) past
fill_next bans past i d t after within rising is begins = begins ∙ ap (begun (get_or bans i d)) is ∙ begun_next bans past i d within rising
