-- What the marks leave.
use Rattle.std.proofs.Common.{◌≡◌, ◌<◌, ◌≤◌, Bool, true, false, not, nat_lt, List, [], ◌∷◌, ◌++◌, map, refl, sym, ◌∙◌, ap, arith, ◌⊎◌, inl, inr}
use Rattle.std.specs.List.{filter}
use Rattle.std.proofs.lemmas.Bool.Decides.{nat_tests}
use Rattle.f2b_base.specs.declared.addr.Addr.{Addr}
use Rattle.f2b_base.specs.declared.addr.Addr.TheVariants.{V4, V6}
use Rattle.f2b_base.specs.declared.ban.Ban.{Ban}
use Rattle.f2b_base.specs.declared.ban.Failure.{Failure}
use Rattle.f2b_base.specs.declared.ban.Past.{Past}
use Rattle.f2b_model.specs.Lists.{IsOrder}
use Rattle.f2b_model.specs.State.{Counted, Begun, Ended, open_of, active_of, kept_of, forget, stop, drop_ends}
use Rattle.f2b_model.specs.Nows.{addr_before, comes_before}
use Rattle.f2b_model.proofs.ListLemmas.{by_test}

pub open_of-push : (cs : List Counted) (f : Failure) → open_of (cs ++ record { failure = f; is_open = true } ∷ []) ≡ open_of cs ++ f ∷ []
open_of-push [] f = refl
open_of-push (c ∷ cs) f = by_test (c.is_open) _ (λ e. rw e (ap (λ r. c.failure ∷ r) (open_of-push cs f))) (λ e. rw e (open_of-push cs f))

pub active_of-push : (bs : List Begun) (b : Ban) → active_of (bs ++ record { ban = b; is_active = true } ∷ []) ≡ active_of bs ++ b ∷ []
active_of-push [] f = refl
active_of-push (c ∷ cs) f = by_test (c.is_active) _ (λ e. rw e (ap (λ r. c.ban ∷ r) (active_of-push cs f))) (λ e. rw e (active_of-push cs f))

pub kept_of-push : (es : List Ended) (p : Past) → kept_of (es ++ record { past = p; is_kept = true } ∷ []) ≡ kept_of es ++ p ∷ []
kept_of-push [] f = refl
kept_of-push (c ∷ cs) f = by_test (c.is_kept) _ (λ e. rw e (ap (λ r. c.past ∷ r) (kept_of-push cs f))) (λ e. rw e (kept_of-push cs f))

pub open_of-forget : (test : Failure → Bool) (cs : List Counted) → open_of (forget test cs) ≡ filter (λ f. not (test f)) (open_of cs)
open_of-forget test [] = refl
open_of-forget test (c ∷ cs) =
    by_test (c.is_open) _
    (λ e. by_test (test c.failure) _
    (λ d. rw (e, d) (open_of-forget test cs))
    (λ d. rw (e, d) (ap (λ r. c.failure ∷ r) (open_of-forget test cs))))
    (λ e. rw e (open_of-forget test cs))

pub active_of-stop : (test : Ban → Bool) (bs : List Begun) → active_of (stop test bs) ≡ filter (λ b. not (test b)) (active_of bs)
active_of-stop test [] = refl
active_of-stop test (c ∷ cs) =
    by_test (c.is_active) _
    (λ e. by_test (test c.ban) _
    (λ d. rw (e, d) (active_of-stop test cs))
    (λ d. rw (e, d) (ap (λ r. c.ban ∷ r) (active_of-stop test cs))))
    (λ e. rw e (active_of-stop test cs))

pub kept_of-drop : (test : Past → Bool) (es : List Ended) → kept_of (drop_ends test es) ≡ filter (λ p. not (test p)) (kept_of es)
kept_of-drop test [] = refl
kept_of-drop test (c ∷ cs) =
    by_test (c.is_kept) _
    (λ e. by_test (test c.past) _
    (λ d. rw (e, d) (kept_of-drop test cs))
    (λ d. rw (e, d) (ap (λ r. c.past ∷ r) (kept_of-drop test cs))))
    (λ e. rw e (kept_of-drop test cs))

pub open_of-all : (fs : List Failure) → open_of (map (λ (f : Failure). record { failure = f; is_open = true }) fs) ≡ fs
open_of-all [] = refl
open_of-all (f ∷ fs) = ap (λ r. f ∷ r) (open_of-all fs)

pub active_of-all : (bs : List Ban) → active_of (map (λ (b : Ban). record { ban = b; is_active = true }) bs) ≡ bs
active_of-all [] = refl
active_of-all (b ∷ bs) = ap (λ r. b ∷ r) (active_of-all bs)

pub kept_of-all : (ps : List Past) → kept_of (map (λ (p : Past). record { past = p; is_kept = true }) ps) ≡ ps
kept_of-all [] = refl
kept_of-all (p ∷ ps) = ap (λ r. p ∷ r) (kept_of-all ps)

pub addr_not_both : (a b : Addr) → addr_before a b ≡ true → addr_before b a ≡ false
addr_not_both (V4 a) (V4 b) h = grind (arith, nat_tests)
addr_not_both (V4 a) (V6 b) h = refl
addr_not_both (V6 a) (V4 b) h = absurd (let e : false ≡ true = h in cc)
addr_not_both (V6 a) (V6 b) h = grind (arith, nat_tests)

-- a < b and b ≤ c
pub addr_onward : (a b c : Addr) → addr_before a b ≡ true → addr_before c b ≡ false → addr_before a c ≡ true
addr_onward (V4 a) (V4 b) (V4 c) h g = grind (arith, nat_tests)
addr_onward (V4 a) (V4 b) (V6 c) h g = refl
addr_onward (V4 a) (V6 b) (V4 c) h g = absurd (let e : true ≡ false = g in cc)
addr_onward (V4 a) (V6 b) (V6 c) h g = refl
addr_onward (V6 a) (V4 b) c h g = absurd (let e : false ≡ true = h in cc)
addr_onward (V6 a) (V6 b) (V4 c) h g = absurd (let e : true ≡ false = g in cc)
addr_onward (V6 a) (V6 b) (V6 c) h g = grind (arith, nat_tests)

-- a ≤ b and b < c
pub addr_across : (a b c : Addr) → addr_before b a ≡ false → addr_before b c ≡ true → addr_before a c ≡ true
addr_across (V4 a) (V4 b) (V4 c) h g = grind (arith, nat_tests)
addr_across (V4 a) (V4 b) (V6 c) h g = refl
addr_across (V4 a) (V6 b) (V4 c) h g = absurd (let e : false ≡ true = g in cc)
addr_across (V4 a) (V6 b) (V6 c) h g = refl
addr_across (V6 a) (V4 b) c h g = absurd (let e : true ≡ false = h in cc)
addr_across (V6 a) (V6 b) (V4 c) h g = absurd (let e : false ≡ true = g in cc)
addr_across (V6 a) (V6 b) (V6 c) h g = grind (arith, nat_tests)

-- a ≤ b and b ≤ c
pub addr_up : (a b c : Addr) → addr_before b a ≡ false → addr_before c b ≡ false → addr_before c a ≡ false
addr_up a b c h g = by_test (addr_before c a) _ (λ e. absurd (let d = addr_onward c a b e h in let k : true ≡ false = sym d ∙ g in cc)) (λ e. e)

-- what the order of failures says
abbrev Order : Failure → Failure → Type 0
Order f g = (addr_before f.addr g.addr ≡ true) ⊎ ((addr_before f.addr g.addr ≡ false) × (addr_before g.addr f.addr ≡ false) × (f.time < g.time))

tells : (f g : Failure) → comes_before f g ≡ true → Order f g
tells f g h =
    by_test (addr_before f.addr g.addr) _
    (λ e. inl e)
    (λ e. by_test (addr_before g.addr f.addr) _
    (λ d. absurd (let k : false ≡ true = rw (e, d) at h in cc))
    (λ d. let k : nat_lt f.time g.time ≡ true = rw (e, d) at h in inr (e, d, grind (arith, nat_tests))))

-- what it does not say
abbrev Unless : Failure → Failure → Type 0
Unless f g = (addr_before g.addr f.addr ≡ true) ⊎ ((addr_before f.addr g.addr ≡ false) × (addr_before g.addr f.addr ≡ false) × (g.time ≤ f.time))

tells_not : (f g : Failure) → comes_before f g ≡ false → Unless f g
tells_not f g h =
    by_test (addr_before f.addr g.addr) _
    (λ e. absurd (let k : true ≡ false = rw e at h in cc))
    (λ e. by_test (addr_before g.addr f.addr) _
    (λ d. inl d)
    (λ d. let k : nat_lt f.time g.time ≡ false = rw (e, d) at h in inr (e, d, grind (arith, nat_tests))))

told : (f g : Failure) → Order f g → comes_before f g ≡ true
told f g o = elim o [
  | inl e ↦ rw e refl
  | inr p ↦ (let lt = p.2 in let k : nat_lt f.time g.time ≡ true = grind (arith, nat_tests) in rw (p.0, p.1, k) refl)
]

told_not : (f g : Failure) → Unless f g → comes_before f g ≡ false
told_not f g o = elim o [
  | inl e ↦ (let d = addr_not_both g.addr f.addr e in rw (d, e) refl)
  | inr p ↦ (let le = p.2 in let k : nat_lt f.time g.time ≡ false = grind (arith, nat_tests) in rw (p.0, p.1, k) refl)
]

order_not_both : (f g : Failure) → Order f g → Unless g f
order_not_both f g o = elim o [ inl e ↦ inl e | inr p ↦ inr (p.1, p.0, (let lt = p.2 in omega arith)) ]

order_onward : (f g h : Failure) → Order f g → Unless h g → Order f h
order_onward f g h o u =
    elim o [
      | inl e ↦ elim u [
        | inl d ↦ inl (addr_onward f.addr g.addr h.addr e (addr_not_both g.addr h.addr d))
        | inr q ↦ inl (addr_onward f.addr g.addr h.addr e q.0)
      ]
      | inr p ↦ elim u [
        | inl d ↦ inl (addr_across f.addr g.addr h.addr p.1 d)
        | inr q ↦ inr (addr_up h.addr g.addr f.addr q.1 p.0, addr_up f.addr g.addr h.addr p.1 q.0, (let a = p.2 in let b = q.2 in omega arith))
      ]
    ]

-- the order of failures in a middle state
pub failures_order : IsOrder comes_before
failures_order = record {
  not_both = λ f g e. told_not g f (order_not_both f g (tells f g e));
  onward = λ f g h e d. told f h (order_onward f g h (tells f g e) (tells_not h g d));
}
