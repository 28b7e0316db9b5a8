-- Items that stand by an order: what neighbours say of all.
use Rattle.std.proofs.Common.{◌≡◌, ℕ, zero, suc, ◌+◌, ◌-◌, ◌<◌, ◌≤◌, Bool, true, false, not, ◌||◌, nat_lt, nat_le, List, [], ◌∷◌, ◌++◌, length, Some, refl, sym, ap, subst, ◌∙◌, arith, true≢false}
use Rattle.std.specs.Prelude.{slice_get}
use Rattle.std.specs.List.{list_any}
use Rattle.std.proofs.lemmas.List.{length-append}
use Rattle.std.proofs.lemmas.Bool.{ltb-true, lt-ltb, leb-true, le-leb, leb-false, lt-leb}
use Rattle.f2b_base.specs.declared.ban.Ban.{Ban}
use Rattle.f2b_base.specs.declared.ban.Failure.{Failure}
use Rattle.f2b_base.specs.declared.ban.Past.{Past}
use Rattle.f2b_base.specs.declared.job.Job.{Job}
use Rattle.f2b_model.specs.Jobs.{AreById}
use Rattle.f2b_model.specs.Lists.{AllOf, NoneBefore, IsInOrder, IsOrder}
use Rattle.f2b_model.specs.Nows.{comes_before}
use Rattle.f2b_model.specs.Sound.{IsRisingEnds, IsRisingSerials}
use Rattle.f2b_model.proofs.ByIdLemmas.{by_id_rises}
use Rattle.f2b_model.proofs.MarkLemmas.{failures_order}
use Rattle.record_fields.specs.Lists.{AreAllowed, is_behind, last_passes}
use Rattle.record_codec.specs.Views.{may_follow, rises, ends_later, has_later_id}

-- each earlier one and each later one are so
abbrev pub Pairs : {A : Type 0} → (A → A → Type 0) → List A → Type 0
Pairs R [] = Unit {0}
Pairs R (x ∷ xs) = AllOf (R x) xs × Pairs R xs

pub all_given : {A : Type 0} (P Q : A → Type 0) → ((x : A) → P x → Q x) → (xs : List A) → AllOf P xs → AllOf Q xs
all_given P Q given [] h = tt
all_given P Q given (x ∷ xs) h = (given x h.0, all_given P Q given xs h.1)

pub pairs_given : {A : Type 0} (R S : A → A → Type 0) → ((x y : A) → R x y → S x y) → (xs : List A) → Pairs R xs → Pairs S xs
pairs_given R S given [] h = tt
pairs_given R S given (x ∷ xs) h = (all_given (R x) (S x) (given x) xs h.0, pairs_given R S given xs h.1)

at_end : {A : Type 0} (before : List A) (y : A) → slice_get (before ++ y ∷ []) (length before) ≡ Some y
at_end [] y = refl
at_end (x ∷ xs) y = at_end xs y

last_of : {A : Type 0} (before : List A) (y : A) → slice_get (before ++ y ∷ []) (length (before ++ y ∷ []) - 1) ≡ Some y
last_of before y =
    let place : length (before ++ y ∷ []) - 1 ≡ length before = omega (arith, length-append before (y ∷ [])) in
    ap (slice_get (before ++ y ∷ [])) place ∙ at_end before y

module _ {A : Type 0} (may : A → A → Bool) where
  abbrev May : A → A → Type 0
  May x y = may x y ≡ true

  behind_last : (before : List A) (y x : A) → is_behind may (before ++ y ∷ []) x ≡ may y x
  behind_last before y x = ap (last_passes (λ (z : A). may z x)) (last_of before y)

  pairs_behind : ((x y z : A) → may x y ≡ true → may y z ≡ true → may x z ≡ true) → (before : List A) (y : A) (xs : List A) → AreAllowed (is_behind may) (before ++ y ∷ []) xs → AllOf (May y) xs × Pairs May xs
  pairs_behind onward before y [] h = (tt, tt)
  pairs_behind onward before y (x ∷ xs) h =
      let next : may y x ≡ true = sym (behind_last before y x) ∙ h.0 in
      let others = pairs_behind onward (before ++ y ∷ []) x xs h.1 in
      ((next, all_given (May x) (May y) (λ z later. onward y x z next later) xs others.0), others)

  behind_pairs : (before : List A) (y : A) (xs : List A) → AllOf (May y) xs → Pairs May xs → AreAllowed (is_behind may) (before ++ y ∷ []) xs
  behind_pairs before y [] here later = tt
  behind_pairs before y (x ∷ xs) here later = (behind_last before y x ∙ here.0, behind_pairs (before ++ y ∷ []) x xs later.0 later.1)

  -- where neighbours may follow one another, each may follow each before it
  pub pairs_of_behind : ((x y z : A) → may x y ≡ true → may y z ≡ true → may x z ≡ true) → (xs : List A) → AreAllowed (is_behind may) [] xs → Pairs May xs
  pairs_of_behind onward [] h = tt
  pairs_of_behind onward (x ∷ xs) h = pairs_behind onward [] x xs h.1

  pub behind_of_pairs : (xs : List A) → Pairs May xs → AreAllowed (is_behind may) [] xs
  behind_of_pairs [] h = tt
  behind_of_pairs (x ∷ xs) h = (refl, behind_pairs [] x xs h.0 h.1)

-- ---- failures

pub not_true : (b : Bool) → not b ≡ true → b ≡ false
not_true true e = absurd (true≢false (sym e))
not_true false e = refl

pub true_not : (b : Bool) → b ≡ false → not b ≡ true
true_not b e = rw e refl

decided : (b : Bool) → (b ≡ true → ⊥) → b ≡ false
decided true never = absurd (never refl)
decided false never = refl

follow_onward : (f g h : Failure) → may_follow f g ≡ true → may_follow g h ≡ true → may_follow f h ≡ true
follow_onward f g h one two = true_not (comes_before h f) (decided (comes_before h f) (λ back.
    true≢false (sym (failures_order.onward h f g back (not_true (comes_before g f) one)) ∙ not_true (comes_before h g) two)))

none_before : (f : Failure) (fs : List Failure) → AllOf (λ g. may_follow f g ≡ true) fs → NoneBefore comes_before f fs
none_before f [] h = tt
none_before f (g ∷ gs) h = (not_true (comes_before g f) h.0, none_before f gs h.1)

all_follow : (f : Failure) (fs : List Failure) → NoneBefore comes_before f fs → AllOf (λ g. may_follow f g ≡ true) fs
all_follow f [] h = tt
all_follow f (g ∷ gs) h = (true_not (comes_before g f) h.0, all_follow f gs h.1)

ordered_pairs : (fs : List Failure) → Pairs (λ f g. may_follow f g ≡ true) fs → IsInOrder comes_before fs
ordered_pairs [] h = tt
ordered_pairs (f ∷ fs) h = (none_before f fs h.0, ordered_pairs fs h.1)

pairs_ordered : (fs : List Failure) → IsInOrder comes_before fs → Pairs (λ f g. may_follow f g ≡ true) fs
pairs_ordered [] h = tt
pairs_ordered (f ∷ fs) h = (all_follow f fs h.0, pairs_ordered fs h.1)

pub ordered_failures : (fs : List Failure) → AreAllowed (is_behind may_follow) [] fs → IsInOrder comes_before fs
ordered_failures fs h = ordered_pairs fs (pairs_of_behind may_follow follow_onward fs h)

pub failures_ordered : (fs : List Failure) → IsInOrder comes_before fs → AreAllowed (is_behind may_follow) [] fs
failures_ordered fs h = behind_of_pairs may_follow fs (pairs_ordered fs h)

-- ---- bans

rises_onward : (a b c : Ban) → rises a b ≡ true → rises b c ≡ true → rises a c ≡ true
rises_onward a b c one two = let x = ltb-true a.serial b.serial one in let y = ltb-true b.serial c.serial two in lt-ltb a.serial c.serial (omega arith)

serials_pairs : (bs : List Ban) → Pairs (λ b c. rises b c ≡ true) bs → IsRisingSerials bs
serials_pairs [] h = tt
serials_pairs (b ∷ bs) h = (all_given (λ c. rises b c ≡ true) (λ c. b.serial < c.serial) (λ c e. ltb-true b.serial c.serial e) bs h.0, serials_pairs bs h.1)

pairs_serials : (bs : List Ban) → IsRisingSerials bs → Pairs (λ b c. rises b c ≡ true) bs
pairs_serials [] h = tt
pairs_serials (b ∷ bs) h = (all_given (λ c. b.serial < c.serial) (λ c. rises b c ≡ true) (λ c lt. lt-ltb b.serial c.serial lt) bs h.0, pairs_serials bs h.1)

pub rising_serials : (bs : List Ban) → AreAllowed (is_behind rises) [] bs → IsRisingSerials bs
rising_serials bs h = serials_pairs bs (pairs_of_behind rises rises_onward bs h)

pub serials_rising : (bs : List Ban) → IsRisingSerials bs → AreAllowed (is_behind rises) [] bs
serials_rising bs h = behind_of_pairs rises bs (pairs_serials bs h)

-- ---- past bans

ends_onward : (a b c : Past) → ends_later a b ≡ true → ends_later b c ≡ true → ends_later a c ≡ true
ends_onward a b c one two = let x = leb-true a.end b.end one in let y = leb-true b.end c.end two in le-leb a.end c.end (omega arith)

ends_pairs : (ps : List Past) → Pairs (λ p q. ends_later p q ≡ true) ps → IsRisingEnds ps
ends_pairs [] h = tt
ends_pairs (p ∷ ps) h = (all_given (λ q. ends_later p q ≡ true) (λ q. p.end ≤ q.end) (λ q e. leb-true p.end q.end e) ps h.0, ends_pairs ps h.1)

pairs_ends : (ps : List Past) → IsRisingEnds ps → Pairs (λ p q. ends_later p q ≡ true) ps
pairs_ends [] h = tt
pairs_ends (p ∷ ps) h = (all_given (λ q. p.end ≤ q.end) (λ q. ends_later p q ≡ true) (λ q le. le-leb p.end q.end le) ps h.0, pairs_ends ps h.1)

pub rising_ends : (ps : List Past) → AreAllowed (is_behind ends_later) [] ps → IsRisingEnds ps
rising_ends ps h = ends_pairs ps (pairs_of_behind ends_later ends_onward ps h)

pub ends_rising : (ps : List Past) → IsRisingEnds ps → AreAllowed (is_behind ends_later) [] ps
ends_rising ps h = behind_of_pairs ends_later ps (pairs_ends ps h)

-- ---- jobs

id_onward : (a b c : Job) → has_later_id a b ≡ true → has_later_id b c ≡ true → has_later_id a c ≡ true
id_onward a b c one two = let x = ltb-true a.id b.id one in let y = ltb-true b.id c.id two in lt-ltb a.id c.id (omega arith)

by_id_pairs : (from : ℕ) (jobs : List Job) (next : ℕ) → from ≤ next → AllOf (λ (j : Job). from ≤ j.id) jobs → AllOf (λ (j : Job). j.id < next) jobs → Pairs (λ j k. has_later_id j k ≡ true) jobs → AreById from jobs next
by_id_pairs from [] next le above below pairs = le
by_id_pairs from (j ∷ js) next le above below pairs = (
  above.0,
  by_id_pairs (j.id + 1) js next (omega (arith, below.0))
      (all_given (λ (k : Job). has_later_id j k ≡ true) (λ (k : Job). j.id + 1 ≤ k.id) (λ k e. let lt = ltb-true j.id k.id e in omega arith) js pairs.0) below.1 pairs.1,
)

above_by_id : (from more : ℕ) (jobs : List Job) (next : ℕ) → from ≤ more → AreById more jobs next → AllOf (λ (j : Job). from ≤ j.id) jobs
above_by_id from more [] next le h = tt
above_by_id from more (j ∷ js) next le h = (omega (arith, h.0), above_by_id from (j.id + 1) js next (omega (arith, h.0)) h.1)

pairs_by_id : (from : ℕ) (jobs : List Job) (next : ℕ) → AreById from jobs next → Pairs (λ j k. has_later_id j k ≡ true) jobs
pairs_by_id from [] next h = tt
pairs_by_id from (j ∷ js) next h = (
  all_given (λ (k : Job). j.id + 1 ≤ k.id) (λ (k : Job). has_later_id j k ≡ true) (λ k le. lt-ltb j.id k.id (omega arith)) js (above_by_id (j.id + 1) (j.id + 1) js next (omega arith) h.1),
  pairs_by_id (j.id + 1) js next h.1,
)

below_by_id : (from : ℕ) (jobs : List Job) (next : ℕ) → AreById from jobs next → AllOf (λ (j : Job). j.id < next) jobs
below_by_id from [] next h = tt
below_by_id from (j ∷ js) next h = (let rest = by_id_rises (j.id + 1) js next h.1 in omega arith, below_by_id (j.id + 1) js next h.1)

all_from_zero : (jobs : List Job) → AllOf (λ (j : Job). 0 ≤ j.id) jobs
all_from_zero [] = tt
all_from_zero (j ∷ js) = (omega arith, all_from_zero js)

pub jobs_by_id : (jobs : List Job) (next : ℕ) → AreAllowed (is_behind has_later_id) [] jobs → AllOf (λ (j : Job). j.id < next) jobs → AreById 0 jobs next
jobs_by_id jobs next h below = by_id_pairs 0 jobs next (omega arith) (all_from_zero jobs) below (pairs_of_behind has_later_id id_onward jobs h)

pub by_id_jobs : (jobs : List Job) (next : ℕ) → AreById 0 jobs next → AreAllowed (is_behind has_later_id) [] jobs × AllOf (λ (j : Job). j.id < next) jobs
by_id_jobs jobs next h = (behind_of_pairs has_later_id jobs (pairs_by_id 0 jobs next h), below_by_id 0 jobs next h)

-- ---- none of a list

module _ {A : Type 0} (number : A → ℕ) (n : ℕ) where
  neither : (a b : Bool) → not (a || b) ≡ true → (a ≡ false) × (b ≡ false)
  neither true b e = absurd (true≢false (sym e))
  neither false b e = (refl, not_true b e)

  pub below_of_none : (xs : List A) → not (list_any (λ (x : A). nat_le n (number x)) xs) ≡ true → AllOf (λ (x : A). number x < n) xs
  below_of_none [] e = tt
  below_of_none (x ∷ xs) e =
      let parts = neither (nat_le n (number x)) (list_any (λ (y : A). nat_le n (number y)) xs) e in
      (leb-false n (number x) parts.0, below_of_none xs (true_not _ parts.1))

  pub none_of_below : (xs : List A) → AllOf (λ (x : A). number x < n) xs → not (list_any (λ (x : A). nat_le n (number x)) xs) ≡ true
  none_of_below [] h = refl
  none_of_below (x ∷ xs) h = rw (lt-leb n (number x) h.0) (none_of_below xs h.1)
