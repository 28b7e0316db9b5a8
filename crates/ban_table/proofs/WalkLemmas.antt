-- The bans from a serial on.
use Rattle.std.proofs.Common.{◌≡◌, ℕ, true, false, ◌==◌, nat_lt, nat_le, List, [], ◌∷◌, Some, None, refl, ◌∙◌, ap, arith}
use Rattle.std.specs.BTreeMap.Range.{entries_between, range_contains}
use Rattle.std.specs.List.{find}
use Rattle.std.specs.Map.{values_of}
use Rattle.std.specs.Ordering.{nat_cmp}
use Rattle.std.specs.declared.ops.Bound.TheVariants.{Included, Unbounded}
use Rattle.std.proofs.lemmas.Bool.Decides.{nat_tests}
use Rattle.f2b_base.specs.declared.ban.Ban.{Ban}
use Rattle.f2b_model.proofs.ListLemmas.{by_test}
use Rattle.ban_table.specs.Places.{AreKeyed}
use Rattle.ban_table.specs.Walks.{is_from}

-- the entries whose serial is at least this
abbrev pub entries_from : ℕ → List (ℕ × Ban) → List (ℕ × Ban)
entries_from serial es = entries_between nat_cmp (Included serial) Unbounded es

contains_is : (a b : ℕ) → range_contains nat_cmp (Included a) Unbounded b ≡ nat_le a b
contains_is a b =
    by_test (nat_lt a b) _
    (λ e. let above : nat_le a b ≡ true = grind (arith, nat_tests) in rw (e, above) refl)
    (λ e. by_test (a == b) _
    (λ d. let same : nat_le a b ≡ true = grind (arith, nat_tests) in rw (e, d, same) refl)
    (λ d. let below : nat_le a b ≡ false = grind (arith, nat_tests) in rw (e, d, below) refl))

pub none_from : (serial : ℕ) (es : List (ℕ × Ban)) → AreKeyed es → entries_from serial es ≡ [] → find (is_from serial) (values_of es) ≡ None
none_from serial [] keyed h = refl
none_from serial (e ∷ es) keyed h =
    let key = contains_is serial e.0 ∙ ap (λ n. nat_le serial n) keyed.0 in
    by_test (nat_le serial e.1.serial) _
    (λ t. let k : e ∷ entries_from serial es ≡ [] = rw (key ∙ t) at h in absurd (cc))
    (λ t. let rest : entries_from serial es ≡ [] = rw (key ∙ t) at h in rw t (none_from serial es keyed.1 rest))

pub first_from : (serial : ℕ) (es rest : List (ℕ × Ban)) (first : ℕ × Ban) → AreKeyed es → entries_from serial es ≡ first ∷ rest
    → find (is_from serial) (values_of es) ≡ Some first.1
first_from serial [] rest first keyed h = absurd (cc)
first_from serial (e ∷ es) rest first keyed h =
    let key = contains_is serial e.0 ∙ ap (λ n. nat_le serial n) keyed.0 in
    by_test (nat_le serial e.1.serial) _
    (λ t. let k : e ∷ entries_from serial es ≡ first ∷ rest = rw (key ∙ t) at h in let same : e ≡ first = cc in rw t (ap (λ (p : ℕ × Ban). Some p.1) same))
    (λ t. let k : entries_from serial es ≡ first ∷ rest = rw (key ∙ t) at h in rw t (first_from serial es rest first keyed.1 k))
