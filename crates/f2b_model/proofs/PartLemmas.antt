-- An ordered list of failures is known by the failures of each address: so windows, one for each address, give the whole.
use Rattle.std.proofs.Common.{◌≡◌, Bool, true, false, List, [], ◌∷◌, refl, sym, ◌∙◌, ap, ap₂, arith}
use Rattle.std.specs.List.{filter}
use Rattle.std.proofs.lemmas.Bool.Decides.{nat_tests}
use Rattle.f2b_base.specs.declared.addr.Addr.{Addr}
use Rattle.f2b_base.specs.declared.addr.Addr.TheVariants.{V4, V6}
use Rattle.f2b_base.specs.declared.ban.Failure.{Failure}
use Rattle.f2b_model.specs.Lists.{IsInOrder, NoneBefore}
use Rattle.f2b_base.specs.Addresses.{same_addr}
use Rattle.f2b_model.specs.Full.{is_of}
use Rattle.f2b_model.specs.Nows.{addr_before, comes_before}
use Rattle.f2b_model.proofs.ListLemmas.{by_test}
use Rattle.f2b_model.proofs.FullLemmas.{not_true_both}
use Rattle.f2b_model.proofs.OrderlyLemmas.{same_addr_sym}
use Rattle.f2b_model.proofs.EndLemmas.{same_addr_same}
use Rattle.f2b_model.proofs.SoundLemmas.{same_addr_true}

pub addr_total : (a b : Addr) → same_addr a b ≡ false → addr_before a b ≡ false → addr_before b a ≡ true
addr_total (V4 a) (V4 b) h g = grind (arith, nat_tests)
addr_total (V4 a) (V6 b) h g = absurd (let k : true ≡ false = g in cc)
addr_total (V6 a) (V4 b) h g = refl
addr_total (V6 a) (V6 b) h g = grind (arith, nat_tests)

none_of : (addr : Addr) (y : Failure) (zs : List Failure) → addr_before addr y.addr ≡ true → NoneBefore comes_before y zs → filter (is_of addr) zs ≡ []
none_of addr y [] h n = refl
none_of addr y (z ∷ zs) h n =
    by_test (same_addr z.addr addr) _
    (λ e.
    let same = same_addr_true z.addr addr e in
    let before : addr_before z.addr y.addr ≡ true = ap (λ a. addr_before a y.addr) same ∙ h in
    let it : comes_before z y ≡ true = rw before refl in
    absurd (not_true_both (comes_before z y) it n.0))
    (λ e. rw e (none_of addr y zs h n.1))

own_first : (x : Failure) (xs : List Failure) → filter (is_of x.addr) (x ∷ xs) ≡ x ∷ filter (is_of x.addr) xs
own_first x xs = let e = same_addr_same x.addr in rw e refl

-- the head of one list stands in the other
no_other : (x y : Failure) (xs ys : List Failure) → IsInOrder comes_before (y ∷ ys) → addr_before x.addr y.addr ≡ true
    → same_addr y.addr x.addr ≡ false → filter (is_of x.addr) (x ∷ xs) ≡ filter (is_of x.addr) (y ∷ ys) → ⊥
no_other x y xs ys order before differ h =
    let e1 : x ∷ filter (is_of x.addr) xs ≡ filter (is_of x.addr) (y ∷ ys) = sym (own_first x xs) ∙ h in
    let e2 : filter (is_of x.addr) (y ∷ ys) ≡ [] = rw differ (none_of x.addr y ys before order.0) in
    let e : x ∷ filter (is_of x.addr) xs ≡ [] = e1 ∙ e2 in
    cc

cut : (p : Failure → Bool) (x : Failure) (xs ys : List Failure) → filter p (x ∷ xs) ≡ filter p (x ∷ ys) → filter p xs ≡ filter p ys
cut p x xs ys h = by_test (p x) _ (λ e. let k : x ∷ filter p xs ≡ x ∷ filter p ys = rw e at h in cc) (λ e. rw e at h)

pub known_by_parts : (xs ys : List Failure) → IsInOrder comes_before xs → IsInOrder comes_before ys
    → ((addr : Addr) → filter (is_of addr) xs ≡ filter (is_of addr) ys) → xs ≡ ys
known_by_parts [] [] ox oy h = refl
known_by_parts [] (y ∷ ys) ox oy h = absurd (let e : [] ≡ y ∷ filter (is_of y.addr) ys = h y.addr ∙ own_first y ys in cc)
known_by_parts (x ∷ xs) [] ox oy h = absurd (let e : x ∷ filter (is_of x.addr) xs ≡ [] = sym (own_first x xs) ∙ h x.addr in cc)
known_by_parts (x ∷ xs) (y ∷ ys) ox oy h =
    by_test (same_addr y.addr x.addr) _
    (λ e.
    let here : x ∷ filter (is_of x.addr) xs ≡ y ∷ filter (is_of x.addr) ys =
    sym (own_first x xs) ∙ h x.addr ∙ (rw e refl) in
    let same : x ≡ y = cc in
    let rest : (addr : Addr) → filter (is_of addr) xs ≡ filter (is_of addr) ys = λ addr.
    cut (is_of addr) x xs ys (h addr ∙ ap (λ r. filter (is_of addr) (r ∷ ys)) (sym same)) in
    ap₂ (λ r rs. r ∷ rs) same (known_by_parts xs ys ox.1 oy.1 rest))
    (λ e. absurd (by_test (addr_before x.addr y.addr) _
    (λ b. no_other x y xs ys oy b e (h x.addr))
    (λ b. no_other y x ys xs ox (addr_total x.addr y.addr (same_addr_sym x.addr y.addr ∙ e) b) (same_addr_sym x.addr y.addr ∙ e) (sym (h y.addr)))))
