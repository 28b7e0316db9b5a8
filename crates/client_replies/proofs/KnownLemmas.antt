-- Addresses that are known: one more, those of lists, and those of bans.
use Rattle.std.proofs.Common.{◌≡◌, ℕ, ◌+◌, ◌<◌, ◌≤◌, Bool, true, false, cond, ◌||◌, List, [], ◌∷◌, ◌++◌, length, take, drop, get_or, Some, refl, sym, ◌∙◌, ap, append-nil, append_assoc, arith}
use Rattle.std.specs.BTreeSet as sorted
use Rattle.std.specs.List.{list_any}
use Rattle.std.specs.Ordering.{is_eq}
use Rattle.std.proofs.lemmas.List.{drop_all, drop_more, take_all}
use Rattle.std.proofs.lemmas.List.Folds.{list_any_more}
use Rattle.std.proofs.lemmas.List.Filters.{length-filter_more}
use Rattle.ban_table.specs.Places.{pair_cmp, key_of}
use Rattle.ban_table.proofs.IndexLemmas.{key_same}
use Rattle.f2b_base.specs.declared.addr.Addr.{Addr}
use Rattle.f2b_base.specs.declared.ban.Ban.{Ban}
use Rattle.f2b_base.specs.Addresses.{same_addr}
use Rattle.f2b_model.specs.Moves.{is_banned}
use Rattle.f2b_model.specs.Steps.{is_meant}
use Rattle.f2b_model.proofs.OrderlyLemmas.{same_addr_sym}
use Rattle.client_replies.specs.Banned.{count_meant, is_among, new_after}
use Rattle.client_replies.specs.Known.{IsKnown}
use Rattle.client_replies.specs.declared.known.Known.{Known}

-- ---- tests

or_nothing : (a : Bool) → (a || false) ≡ a
or_nothing true = refl
or_nothing false = refl

or_other : (a b : Bool) → (a || b) ≡ (b || a)
or_other true true = refl
or_other true false = refl
or_other false true = refl
or_other false false = refl

or_between : (a b c : Bool) → (a || (b || c)) ≡ (b || (a || c))
or_between true true c = refl
or_between true false c = refl
or_between false true c = refl
or_between false false c = refl

cond_or : (a b : Bool) → cond a true b ≡ (a || b)
cond_or true b = refl
cond_or false b = refl

-- ---- sets

pub known_as : (known : Known) (f g : Addr → Bool) → IsKnown known f → ((addr : Addr) → f addr ≡ g addr) → IsKnown known g
known_as known f g is same = record { has = λ addr. is.has addr ∙ same addr }

pub known_none : (known : Known) → known.keys.keys ≡ [] → IsKnown known (λ addr. false)
known_none known none = record { has = λ addr. ap (λ ks. list_any (λ k. is_eq (pair_cmp (key_of addr) k)) ks) none }

pub known_more : (old new : Known) (addr : Addr) (test : Addr → Bool) → IsKnown old test
    → ((q : ℕ × ℕ) → sorted.contains pair_cmp new.keys q ≡ cond (is_eq (pair_cmp (key_of addr) q)) true (sorted.contains pair_cmp old.keys q))
    → IsKnown new (λ other. same_addr addr other || test other)
known_more old new addr test is put = record {
  has = λ other.
      put (key_of other) ∙ ap (λ t. cond t true (sorted.contains pair_cmp old.keys (key_of other))) (key_same addr other)
      ∙ ap (λ t. cond (same_addr addr other) true t) (is.has other) ∙ cond_or (same_addr addr other) (test other);
}

-- ---- lists

pub among_more : (addrs : List Addr) (i : ℕ) (d addr : Addr) → i < length addrs
    → (same_addr (get_or addrs i d) addr || is_among (take i addrs) addr) ≡ is_among (take (i + 1) addrs) addr
among_more addrs i d addr less =
    ap (λ t. t || is_among (take i addrs) addr) (same_addr_sym (get_or addrs i d) addr) ∙ or_other (same_addr addr (get_or addrs i d)) (is_among (take i addrs) addr)
    ∙ sym (list_any_more (same_addr addr) addrs i d less)

pub banned_more : (bans : List Ban) (i : ℕ) (d : Ban) (addr : Addr) → i < length bans
    → (same_addr (get_or bans i d).addr addr || is_banned addr (take i bans)) ≡ is_banned addr (take (i + 1) bans)
banned_more bans i d addr less =
    or_other (same_addr (get_or bans i d).addr addr) (is_banned addr (take i bans)) ∙ sym (list_any_more (λ (c : Ban). same_addr c.addr addr) bans i d less)

pub among_all : (addrs : List Addr) (i : ℕ) (addr : Addr) → length addrs ≤ i → is_among (take i addrs) addr ≡ is_among addrs addr
among_all addrs i addr past = ap (λ l. is_among l addr) (take_all i addrs past)

pub banned_all : (bans : List Ban) (i : ℕ) (addr : Addr) → length bans ≤ i → is_banned addr (take i bans) ≡ is_banned addr bans
banned_all bans i addr past = ap (λ l. is_banned addr l) (take_all i bans past)

-- ---- counts

pub count_more : (addrs : List Addr) (bans : List Ban) (i : ℕ) (d : Ban) → i < length bans
    → count_meant (Some addrs) (take (i + 1) bans) ≡ count_meant (Some addrs) (take i bans) + cond (is_among addrs (get_or bans i d).addr) 1 0
count_more addrs bans i d less = length-filter_more (is_meant (Some addrs)) bans i d less

pub count_yes : (addrs : List Addr) (bans : List Ban) (i count : ℕ) (d : Ban) → i < length bans → is_among addrs (get_or bans i d).addr ≡ true
    → count ≡ count_meant (Some addrs) (take i bans) → count + 1 ≡ count_meant (Some addrs) (take (i + 1) bans)
count_yes addrs bans i count d less is before = let more = rw is at (count_more addrs bans i d less) in omega (arith, more, before)

pub count_no : (addrs : List Addr) (bans : List Ban) (i count : ℕ) (d : Ban) → i < length bans → is_among addrs (get_or bans i d).addr ≡ false
    → count ≡ count_meant (Some addrs) (take i bans) → count ≡ count_meant (Some addrs) (take (i + 1) bans)
count_no addrs bans i count d less is before = let more = rw is at (count_more addrs bans i d less) in omega (arith, more, before)

-- ---- those who are not banned

-- which addresses are known before the rest of them, and what comes of that rest
pub record IsSoFar (bans : List Ban) (addrs : List Addr) (known : Known) (new : List Addr) (rest : List Addr) : Type 0 where
  pub seen : List Addr
  pub knows : IsKnown known (λ addr. is_banned addr bans || is_among seen addr)
  pub is : new_after [] bans addrs ≡ new ++ new_after seen bans rest

pub taken : (seen : List Addr) (bans : List Ban) (addr : Addr) (addrs : List Addr) → (is_banned addr bans || is_among seen addr) ≡ false
    → new_after seen bans (addr ∷ addrs) ≡ addr ∷ new_after (addr ∷ seen) bans addrs
taken seen bans addr addrs is = rw is refl

pub passed : (seen : List Addr) (bans : List Ban) (addr : Addr) (addrs : List Addr) → (is_banned addr bans || is_among seen addr) ≡ true
    → new_after seen bans (addr ∷ addrs) ≡ new_after seen bans addrs
passed seen bans addr addrs is = rw is refl

pub so_far_none : (bans : List Ban) (addrs : List Addr) (known : Known) → IsKnown known (λ addr. is_banned addr bans) → IsSoFar bans addrs known [] addrs
so_far_none bans addrs known is = record {
  seen = [];
  knows = known_as known (λ addr. is_banned addr bans) (λ addr. is_banned addr bans || false) is (λ addr. sym (or_nothing (is_banned addr bans)));
  is = refl;
}

-- an address more of the rest, which is not known
pub so_far_new : (bans : List Ban) (addrs : List Addr) (known after : Known) (new more : List Addr) (i : ℕ) (d : Addr) → i < length addrs
    → IsSoFar bans addrs known new (drop i addrs)
    → ((test : Addr → Bool) → IsKnown known test → false ≡ test (get_or addrs i d))
    → ((test : Addr → Bool) → IsKnown known test → IsKnown after (λ other. same_addr (get_or addrs i d) other || test other))
    → more ≡ new ++ get_or addrs i d ∷ [] → IsSoFar bans addrs after more (drop (i + 1) addrs)
so_far_new bans addrs known after new more i d less before unknown added grown =
    let addr = get_or addrs i d in
    let here = sym (unknown (λ other. is_banned other bans || is_among before.seen other) before.knows) in
    record {
      seen = addr ∷ before.seen;
      knows = known_as after (λ other. same_addr addr other || (is_banned other bans || is_among before.seen other))
          (λ other. is_banned other bans || is_among (addr ∷ before.seen) other)
          (added (λ other. is_banned other bans || is_among before.seen other) before.knows)
          (λ other.
          or_between (same_addr addr other) (is_banned other bans) (is_among before.seen other)
          ∙ ap (λ t. is_banned other bans || (t || is_among before.seen other)) (same_addr_sym addr other));
      is = before.is ∙ ap (λ l. new ++ new_after before.seen bans l) (drop_more addrs i d less) ∙ ap (λ l. new ++ l) (taken before.seen bans addr (drop (i + 1) addrs) here)
          ∙ sym (append_assoc new (addr ∷ []) (new_after (addr ∷ before.seen) bans (drop (i + 1) addrs)))
          ∙ ap (λ l. l ++ new_after (addr ∷ before.seen) bans (drop (i + 1) addrs)) (sym grown);
    }

-- and one that is known
pub so_far_known : (bans : List Ban) (addrs : List Addr) (known : Known) (new : List Addr) (i : ℕ) (d : Addr) → i < length addrs
    → IsSoFar bans addrs known new (drop i addrs)
    → ((test : Addr → Bool) → IsKnown known test → true ≡ test (get_or addrs i d))
    → IsSoFar bans addrs known new (drop (i + 1) addrs)
so_far_known bans addrs known new i d less before there =
    let here = sym (there (λ other. is_banned other bans || is_among before.seen other) before.knows) in
    record {
      seen = before.seen;
      knows = before.knows;
      is = before.is ∙ ap (λ l. new ++ new_after before.seen bans l) (drop_more addrs i d less) ∙ ap (λ l. new ++ l) (passed before.seen bans (get_or addrs i d) (drop (i + 1) addrs) here);
    }

-- all of them
pub so_far_all : (bans : List Ban) (addrs : List Addr) (known : Known) (new : List Addr) (i : ℕ) → length addrs ≤ i
    → IsSoFar bans addrs known new (drop i addrs) → new ≡ new_after [] bans addrs
so_far_all bans addrs known new i past before =
    sym (before.is ∙ ap (λ l. new ++ new_after before.seen bans l) (drop_all i addrs past) ∙ append-nil new)
