-- Past entries in the order of their ends, and those that are not old.
use Rattle.std.proofs.Common.{◌≡◌, ℕ, zero, suc, ◌+◌, ◌-◌, ◌<◌, ◌≤◌, true, nat_lt, List, [], ◌∷◌, ◌++◌, length, length-append, get_or, refl, ap, arith}
use Rattle.std.specs.List.{filter}
use Rattle.std.proofs.lemmas.Bool.Decides.{nat_tests}
use Rattle.f2b_base.specs.declared.ban.Past.{Past}
use Rattle.f2b_model.specs.Lists.{AllOf}
use Rattle.f2b_model.specs.Sound.{IsRisingEnds}
use Rattle.f2b_model.proofs.OrderlyLemmas.{all_of-push}
use Rattle.ban_table.specs.Entries.{IsFirstAfter}
use Rattle.ban_table.proofs.FillLemmas.{all_at}

after : (a b : ℕ) → a < b → nat_lt a b ≡ true
after a b h = grind (arith, nat_tests)

-- one more entry that ended no sooner than the last
pub rising_push : (ps : List Past) (i : ℕ) (last p : Past) → i ≡ length ps - 1 → IsRisingEnds ps → last ≡ get_or ps i last → last.end ≤ p.end → IsRisingEnds (ps ++ p ∷ [])
rising_push [] i last p at r is le = (tt, tt)
rising_push (q ∷ []) zero last p at r is le = let e : last.end ≡ q.end = ap (λ (x : Past). x.end) is in ((omega arith, tt), (tt, tt))
rising_push (q ∷ []) (suc i) last p at r is le = absurd (omega arith)
rising_push (q ∷ (s ∷ ps)) zero last p at r is le = absurd (omega arith)
rising_push (q ∷ (s ∷ ps)) (suc i) last p at r is le =
    let e : last.end ≡ (get_or (s ∷ ps) i last).end = ap (λ (x : Past). x.end) is in
    let upto : q.end ≤ (get_or (s ∷ ps) i last).end = all_at (λ (x : Past). q.end ≤ x.end) (s ∷ ps) i last (omega arith) r.0 in
    (all_of-push (λ (x : Past). q.end ≤ x.end) (s ∷ ps) p r.0 (omega arith), rising_push (s ∷ ps) i last p (omega arith) r.1 is le)

-- where the first is not old, none is
pub none_old : (limit : ℕ) (ps : List Past) → IsRisingEnds ps → IsFirstAfter limit ps → filter (λ (p : Past). nat_lt limit p.end) ps ≡ ps
none_old limit [] r h = refl
none_old limit (p ∷ ps) r h = let e = after limit p.end h in rw e (ap (λ t. p ∷ t) (later ps r.0))
  where
    later : (qs : List Past) → AllOf (λ (q : Past). p.end ≤ q.end) qs → filter (λ (q : Past). nat_lt limit q.end) qs ≡ qs
    later [] a = refl
    later (q ∷ qs) a = let le = a.0 in let e = after limit q.end (omega arith) in rw e (ap (λ t. q ∷ t) (later qs a.1))

pub length_pushed : (ps : List Past) (p : Past) → length (ps ++ p ∷ []) ≡ length ps + 1
length_pushed ps p = length-append ps (p ∷ [])
