-- What two slots mean, of which one is open.
use Rattle.std.proofs.Common.{ℕ, zero, suc, ◌≡◌, ◌+◌, refl, sym, ap, ◌∙◌, arith, subst}
use Rattle.std.proofs.lemmas.Bool.{le-ltb, lt-ltb, ne_eqb}
use Rattle.journal_slots.specs.Grammar.{Opened, Parsed, Empty, Open, Bad}
use Rattle.journal_slots.specs.Tops.{NoneOpen, Newest, top_of, IsOlder}

newest_first : (o : Opened) (other : Parsed) → IsOlder o.start.generation other → top_of (Open o) other ≡ Newest 0 o
newest_first o Empty older = refl
newest_first o (Open b) older =
    rw (ne_eqb o.start.generation b.start.generation (λ e. omega (arith, e, older)), lt-ltb b.start.generation o.start.generation older) refl
newest_first o (Bad number at) older = absurd older

newest_second : (o : Opened) (other : Parsed) → IsOlder o.start.generation other → top_of other (Open o) ≡ Newest 1 o
newest_second o Empty older = refl
newest_second o (Open b) older =
    rw (ne_eqb b.start.generation o.start.generation (λ e. omega (arith, e, older)), le-ltb o.start.generation b.start.generation (omega (arith, older))) refl
newest_second o (Bad number at) older = absurd older

-- The open slot of the greatest generation counts.
pub newest : (slot other : ℕ) (parsed : ℕ → Parsed) (o : Opened) → slot + other ≡ 1 → parsed slot ≡ Open o → IsOlder o.start.generation (parsed other)
    → top_of (parsed 0) (parsed 1) ≡ Newest slot o
newest zero other parsed o pair is older =
    let one : other ≡ 1 = omega (arith, pair) in
    let P : ℕ → Type 0 = λ n. IsOlder o.start.generation (parsed n) in
    rw is (newest_first o (parsed 1) (subst P one older))
newest (suc n) other parsed o pair is older =
    let none : other ≡ 0 = omega (arith, pair) in
    let only : n ≡ 0 = omega (arith, pair) in
    let P : ℕ → Type 0 = λ n. IsOlder o.start.generation (parsed n) in
    let Q : ℕ → Type 0 = λ n. parsed (suc n) ≡ Open o in
    let here : parsed 1 ≡ Open o = subst Q only is in
    rw here (newest_second o (parsed 0) (subst P none older)) ∙ ap (λ (k : ℕ). Newest (suc k) o) (sym only)

-- two slots that mean nothing
pub none_open : (slot other : ℕ) (parsed : ℕ → Parsed) → slot + other ≡ 1 → parsed slot ≡ Empty → parsed other ≡ Empty → top_of (parsed 0) (parsed 1) ≡ NoneOpen
none_open zero other parsed pair is other_is =
    let one : other ≡ 1 = omega (arith, pair) in
    let Q : ℕ → Type 0 = λ n. parsed n ≡ Empty in
    let there : parsed 1 ≡ Empty = subst Q one other_is in
    rw (is, there) refl
none_open (suc n) other parsed pair is other_is =
    let none : other ≡ 0 = omega (arith, pair) in
    let only : n ≡ 0 = omega (arith, pair) in
    let Q : ℕ → Type 0 = λ n. parsed n ≡ Empty in
    let R : ℕ → Type 0 = λ n. parsed (suc n) ≡ Empty in
    let there : parsed 0 ≡ Empty = subst Q none other_is in
    let here : parsed 1 ≡ Empty = subst R only is in
    rw (there, here) refl

-- nothing is older than no generation
pub older_none : (p : Parsed) → IsOlder 0 p → p ≡ Empty
older_none Empty older = refl
older_none (Open o) older = absurd (omega (arith, older))
older_none (Bad number at) older = absurd older
