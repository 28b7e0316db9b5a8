-- Each move keeps open failures, active bans and past entries orderly.
use Rattle.std.proofs.Common.{◌≡◌, ℕ, ◌≤◌, Bool, true, false, not, List, [], ◌∷◌, ◌++◌, refl, ◌∙◌, arith}
use Rattle.std.specs.List.{filter}
use Rattle.std.proofs.lemmas.Bool.Decides.{nat_tests}
use Rattle.f2b_base.specs.declared.addr.Addr.{Addr}
use Rattle.f2b_base.specs.declared.addr.Addr.TheVariants.{V4, V6}
use Rattle.f2b_base.specs.declared.ban.Ban.{Ban}
use Rattle.f2b_base.specs.declared.ban.Failure.{Failure}
use Rattle.f2b_base.specs.declared.ban.Past.{Past}
use Rattle.f2b_base.specs.declared.ban.Until.{Until}
use Rattle.f2b_base.specs.declared.ban.Until.TheVariants.{Never, At}
use Rattle.f2b_model.specs.Lists.{AllOf}
use Rattle.f2b_base.specs.Addresses.{same_addr}
use Rattle.f2b_model.specs.Full.{is_of}
use Rattle.f2b_model.specs.Moves.{ban_of, is_banned}
use Rattle.f2b_model.specs.Sound.{IsNotBefore, IsOnceEach, IsRisingEnds, IsPastBan, IsOrderly}
use Rattle.f2b_model.proofs.ListLemmas.{by_test}
use Rattle.f2b_model.proofs.StepLemmas.{all_of-more}

pub all_of-filter : {A : Type 0} (P : A → Type 0) (p : A → Bool) (xs : List A) → AllOf P xs → AllOf P (filter p xs)
all_of-filter P p [] a = tt
all_of-filter P p (x ∷ xs) a = by_test (p x) _ (λ e. rw e (a.0, all_of-filter P p xs a.1)) (λ e. rw e (all_of-filter P p xs a.1))

pub all_of-push : {A : Type 0} (P : A → Type 0) (xs : List A) (x : A) → AllOf P xs → P x → AllOf P (xs ++ x ∷ [])
all_of-push P [] x a h = (h, tt)
all_of-push P (y ∷ ys) x a h = (a.0, all_of-push P ys x a.1 h)

pub all_of-kept : {A : Type 0} (P : A → Type 0) (p : A → Bool) (xs : List A) → ((x : A) → p x ≡ true → P x) → AllOf P (filter p xs)
all_of-kept P p [] h = tt
all_of-kept P p (x ∷ xs) h = by_test (p x) _ (λ e. rw e (h x e, all_of-kept P p xs h)) (λ e. rw e (all_of-kept P p xs h))

all_of-both : {A : Type 0} (P Q : A → Type 0) (p : A → Bool) (xs : List A) → AllOf P xs → ((x : A) → P x → p x ≡ true → Q x) → AllOf Q (filter p xs)
all_of-both P Q p [] a h = tt
all_of-both P Q p (x ∷ xs) a h = by_test (p x) _ (λ e. rw e (h x a.0 e, all_of-both P Q p xs a.1 h)) (λ e. rw e (all_of-both P Q p xs a.1 h))

-- who is banned
banned_push : (addr : Addr) (bs : List Ban) (b : Ban) → is_banned addr bs ≡ false → same_addr b.addr addr ≡ false → is_banned addr (bs ++ b ∷ []) ≡ false
banned_push addr [] b h e = rw e refl
banned_push addr (c ∷ cs) b h e =
    by_test (same_addr c.addr addr) _
    (λ d. absurd (let k : true ≡ false = rw d at h in cc))
    (λ d. let h2 : is_banned addr cs ≡ false = rw d at h in rw d (banned_push addr cs b h2 e))

banned_filter : (addr : Addr) (p : Ban → Bool) (bs : List Ban) → is_banned addr bs ≡ false → is_banned addr (filter p bs) ≡ false
banned_filter addr p [] h = refl
banned_filter addr p (c ∷ cs) h =
    by_test (same_addr c.addr addr) _
    (λ d. absurd (let k : true ≡ false = rw d at h in cc))
    (λ d. let h2 : is_banned addr cs ≡ false = rw d at h in
    by_test (p c) _ (λ e. rw (e, d) (banned_filter addr p cs h2)) (λ e. rw e (banned_filter addr p cs h2)))

pub same_addr_sym : (a b : Addr) → same_addr a b ≡ same_addr b a
same_addr_sym (V4 a) (V4 b) = grind (arith, nat_tests)
same_addr_sym (V4 a) (V6 b) = refl
same_addr_sym (V6 a) (V4 b) = refl
same_addr_sym (V6 a) (V6 b) = grind (arith, nat_tests)

pub once_filter : (p : Ban → Bool) (bs : List Ban) → IsOnceEach bs → IsOnceEach (filter p bs)
once_filter p [] h = tt
once_filter p (b ∷ bs) h = by_test (p b) _ (λ e. rw e (banned_filter b.addr p bs h.0, once_filter p bs h.1)) (λ e. rw e (once_filter p bs h.1))

pub once_push : (bs : List Ban) (b : Ban) → IsOnceEach bs → is_banned b.addr bs ≡ false → IsOnceEach (bs ++ b ∷ [])
once_push [] b h e = (refl, tt)
once_push (c ∷ cs) b h e =
    by_test (same_addr c.addr b.addr) _
    (λ d. absurd (let k : true ≡ false = rw d at e in cc))
    (λ d. let e2 : is_banned b.addr cs ≡ false = rw d at e in
    (banned_push c.addr cs b h.0 (same_addr_sym b.addr c.addr ∙ d), once_push cs b h.1 e2))

rising_filter : (p : Past → Bool) (ps : List Past) → IsRisingEnds ps → IsRisingEnds (filter p ps)
rising_filter p [] h = tt
rising_filter p (q ∷ qs) h = by_test (p q) _ (λ e. rw e (all_of-filter _ p qs h.0, rising_filter p qs h.1)) (λ e. rw e (rising_filter p qs h.1))

rising_push : (ps : List Past) (q : Past) → IsRisingEnds ps → AllOf (λ (p : Past). p.end ≤ q.end) ps → IsRisingEnds (ps ++ q ∷ [])
rising_push [] q h a = (tt, tt)
rising_push (p ∷ ps) q h a = (all_of-push _ ps q h.0 a.0, rising_push ps q h.1 a.1)

-- the moves
pub orderly_later : (at later moment : ℕ) (fs : List Failure) (bs : List Ban) (ps : List Past) → at ≤ later → IsOrderly at moment fs bs ps → IsOrderly later moment fs bs ps
orderly_later at later moment fs bs ps le o = record {
  by_moment = o.by_moment;
  not_banned = o.not_banned;
  once = o.once;
  rising = o.rising;
  over = all_of-more (IsPastBan at bs) (IsPastBan later bs) (λ p h. (let a = h.0 in omega arith, h.1)) ps o.over;
}

pub orderly_counted : (at moment : ℕ) (f : Failure) (fs : List Failure) (bs : List Ban) (ps : List Past) → moment ≤ at → f.time ≤ at → is_banned f.addr bs ≡ false
    → IsOrderly at moment fs bs ps → IsOrderly at at (fs ++ f ∷ []) bs ps
orderly_counted at moment f fs bs ps le time not_banned o = record {
  by_moment = all_of-push _ fs f (all_of-more (λ (g : Failure). g.time ≤ moment) (λ (g : Failure). g.time ≤ at) (λ g h. omega arith) fs o.by_moment) time;
  not_banned = all_of-push _ fs f o.not_banned not_banned;
  once = o.once;
  rising = o.rising;
  over = o.over;
}

pub orderly_begun : (at moment : ℕ) (b : Ban) (fs : List Failure) (bs : List Ban) (ps : List Past) → is_banned b.addr bs ≡ false → IsNotBefore at b.until
    → IsOrderly at moment fs bs ps → IsOrderly at moment (filter (λ f. not (is_of b.addr f)) fs) (bs ++ b ∷ []) ps
orderly_begun at moment b fs bs ps not_banned later o = record {
  by_moment = all_of-filter _ _ fs o.by_moment;
  not_banned = all_of-both (λ (f : Failure). is_banned f.addr bs ≡ false) (λ (f : Failure). is_banned f.addr (bs ++ b ∷ []) ≡ false) (λ f. not (is_of b.addr f)) fs o.not_banned
      (λ f h e. banned_push f.addr bs b h (not_of f e));
  once = once_push bs b o.once not_banned;
  rising = o.rising;
  over = all_of-more (IsPastBan at bs) (IsPastBan at (bs ++ b ∷ [])) (λ p h. (h.0, all_of-push _ bs b h.1 (up p.end b.until h.0 later))) ps o.over;
}
  where
    not_of : (f : Failure) → not (is_of b.addr f) ≡ true → same_addr b.addr f.addr ≡ false
    not_of f e = same_addr_sym b.addr f.addr ∙ by_test (same_addr f.addr b.addr) _ (λ d. absurd (let k : false ≡ true = rw d at e in cc)) (λ d. d)

    up : (end : ℕ) (until : Until) → end ≤ at → IsNotBefore at until → IsNotBefore end until
    up end Never le h = tt
    up end (At e) le h = omega arith

pub orderly_ended : (at moment end : ℕ) (addr : Addr) (fs : List Failure) (bs : List Ban) (ps : List Past) → end ≤ at → AllOf (λ (p : Past). p.end ≤ end) ps
    → AllOf (λ (b : Ban). IsNotBefore end b.until) (filter (λ b. not (ban_of addr b)) bs)
    → IsOrderly at moment fs bs ps → IsOrderly at moment fs (filter (λ b. not (ban_of addr b)) bs) (ps ++ record { addr = addr; end = end } ∷ [])
orderly_ended at moment end addr fs bs ps le rise later o = record {
  by_moment = o.by_moment;
  not_banned = all_of-more (λ (f : Failure). is_banned f.addr bs ≡ false) _ (λ f h. banned_filter f.addr _ bs h) fs o.not_banned;
  once = once_filter _ bs o.once;
  rising = rising_push ps _ o.rising rise;
  over = all_of-push _ ps _ (all_of-more (IsPastBan at bs) (IsPastBan at (filter (λ b. not (ban_of addr b)) bs)) (λ p h. (h.0, all_of-filter _ _ bs h.1)) ps o.over) (le, later);
}

pub orderly_dropped : (at moment : ℕ) (p : Past → Bool) (fs : List Failure) (bs : List Ban) (ps : List Past) → IsOrderly at moment fs bs ps → IsOrderly at moment fs bs (filter p ps)
orderly_dropped at moment p fs bs ps o = record {
  by_moment = o.by_moment;
  not_banned = o.not_banned;
  once = o.once;
  rising = rising_filter p ps o.rising;
  over = all_of-filter _ p ps o.over;
}

pub orderly_fewer : (at moment : ℕ) (p : Failure → Bool) (fs : List Failure) (bs : List Ban) (ps : List Past) → IsOrderly at moment fs bs ps → IsOrderly at moment (filter p fs) bs ps
orderly_fewer at moment p fs bs ps o = record {
  by_moment = all_of-filter _ p fs o.by_moment;
  not_banned = all_of-filter _ p fs o.not_banned;
  once = o.once;
  rising = o.rising;
  over = o.over;
}
