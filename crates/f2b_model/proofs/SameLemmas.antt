-- The tests of plain types tell equality.
use Rattle.std.proofs.Common.{ℕ, ◌≡◌, Bool, true, false, List, refl, sym, ap, ap₂, ◌∙◌}
use Rattle.std.specs.Str.{bytes_eq}
use Rattle.std.specs.Cmp.Lexicographic.{bytes_decides}
use Rattle.std.proofs.lemmas.Bool.{eqb-true, eq-eqb, and_parts, and_from}
use Rattle.f2b_base.specs.declared.addr.Addr.{Addr}
use Rattle.f2b_base.specs.declared.addr.Addr.TheVariants.{V4, V6}
use Rattle.f2b_base.specs.declared.addr.Family.{Family}
use Rattle.f2b_base.specs.declared.addr.Family.TheVariants.{Both, Inet4, Inet6}
use Rattle.f2b_base.specs.declared.job.LaneId.{LaneId}
use Rattle.f2b_base.specs.Families.{same_family}
use Rattle.f2b_model.specs.Families.{same_lane}
use Rattle.f2b_base.specs.Addresses.{same_addr}

pub bytes_eq-true : (xs ys : List ℕ) → bytes_eq xs ys ≡ true → xs ≡ ys
bytes_eq-true xs ys h = (bytes_decides xs ys).0 h

pub same_addr-true : (a b : Addr) → same_addr a b ≡ true → a ≡ b
same_addr-true (V4 x) (V4 y) h = ap V4 (eqb-true x y h)
same_addr-true (V6 x) (V6 y) h = ap V6 (eqb-true x y h)
same_addr-true (V4 x) (V6 y) h = cc
same_addr-true (V6 x) (V4 y) h = cc

pub same_family-true : (a b : Family) → same_family a b ≡ true → a ≡ b
same_family-true Both Both h = refl
same_family-true Inet4 Inet4 h = refl
same_family-true Inet6 Inet6 h = refl
same_family-true Both Inet4 h = cc
same_family-true Both Inet6 h = cc
same_family-true Inet4 Both h = cc
same_family-true Inet4 Inet6 h = cc
same_family-true Inet6 Both h = cc
same_family-true Inet6 Inet4 h = cc

made_lane : List ℕ → List ℕ → Family → LaneId
made_lane jail action family = record { jail = jail; action = action; family = family }

pub same_lane-true : (a b : LaneId) → same_lane a b ≡ true → a ≡ b
unfolding made_lane
same_lane-true a b h =
    let first = and_parts (bytes_eq a.jail b.jail) _ h in
    let second = and_parts (bytes_eq a.action b.action) _ first.1 in
    ap (λ j. made_lane j a.action a.family) (bytes_eq-true a.jail b.jail first.0)
    ∙ ap (λ n. made_lane b.jail n a.family) (bytes_eq-true a.action b.action second.0)
    ∙ ap (λ f. made_lane b.jail b.action f) (same_family-true a.family b.family second.1)

addr_same : (a : Addr) → same_addr a a ≡ true
addr_same (V4 x) = eq-eqb x x refl
addr_same (V6 x) = eq-eqb x x refl

pub same_family-same : (f : Family) → same_family f f ≡ true
same_family-same Both = refl
same_family-same Inet4 = refl
same_family-same Inet6 = refl

pub same_lane-same : (a : LaneId) → same_lane a a ≡ true
same_lane-same a = and_from (bytes_eq a.jail a.jail) _ ((bytes_decides a.jail a.jail).1 refl)
    (and_from (bytes_eq a.action a.action) (same_family a.family a.family) ((bytes_decides a.action a.action).1 refl) (same_family-same a.family))

-- ---- a test that decides equality is the same both ways

same_test : (x y : Bool) → (x ≡ true → y ≡ true) → (y ≡ true → x ≡ true) → x ≡ y
same_test true true p q = refl
same_test true false p q = sym (p refl)
same_test false true p q = q refl
same_test false false p q = refl

pub lane_swap : (a b : LaneId) → same_lane a b ≡ same_lane b a
lane_swap a b = same_test (same_lane a b) (same_lane b a) (λ h. let e : b ≡ a = sym (same_lane-true a b h) in ap₂ same_lane e (sym e) ∙ h) (λ h. let e : a ≡ b = sym (same_lane-true b a h) in ap₂ same_lane e (sym e) ∙ h)
