-- Room, by lengths that are capped.
use Rattle.std.proofs.Common.{ℕ, ◌≡◌, ◌+◌, ◌-◌, ◌≤◌, ◌<◌, ◌^◌, min, nat_le, true, List, [], ◌∷◌, length, length-append, refl, sym, ◌∙◌, arith, inl, inr, true≢false}
use Rattle.std.proofs.lemmas.Bool.{cases_Bool, leb-true, le-leb}
use Rattle.f2b_base.specs.declared.input.Input.{Input}
use Rattle.f2b_base.specs.declared.view.View.{View}
use Rattle.record_codec.specs.declared.version.Version.TheVariants.{Two}
use Rattle.record_codec.specs.Views.{view}
use Rattle.record_fields.specs.Codec.{capped}
use Rattle.record_fields.proofs.NumberLemmas.{both_of}
use Rattle.ban_journal.specs.Answers.{said}
use Rattle.slot_writes.specs.declared.position.Position.{Position}
use Rattle.slot_writes.specs.Entries.{fits, need, input_bytes, entry}

same_le : (a b c : ℕ) → (a ≤ c → b ≤ c) → (b ≤ c → a ≤ c) → nat_le a c ≡ nat_le b c
same_le a b c f g = elim (cases_Bool (nat_le a c)) [
  | inl is ↦ is ∙ sym (le-leb b c (f (leb-true a c is)))
  | inr not ↦ elim (cases_Bool (nat_le b c)) [
    | inl is ↦ absurd (true≢false (sym (le-leb a c (g (leb-true b c is))) ∙ not))
    | inr other ↦ not ∙ sym other
  ]
]

pub capped_is : (bytes : List ℕ) → capped bytes ≡ min (length bytes) (2 ^ 64 - 1)
unfolding capped
capped_is bytes = refl

-- A length that is capped fits where the length does.
pub fits_is : (p : Position) (i : Input) (len : ℕ) → p.limit < 2 ^ 64 → p.grows ≡ true → len ≡ capped (input_bytes i) → nat_le (p.gate + len + 2) p.limit ≡ fits p i
fits_is p i len small grows is =
    let cap = capped_is (input_bytes i) in
    rw grows (same_le (p.gate + len + 2) (p.gate + 1 + length (input_bytes i) + 1) p.limit (λ le. omega (arith, le, is, cap, small)) (λ le. omega (arith, le, is, cap, small)))

pub room_of : (p : Position) (i : Input) → fits p i ≡ true → p.gate + length (entry i) + 1 ≤ p.limit
room_of p i has =
    let b = both_of p.grows (nat_le (p.gate + 1 + length (input_bytes i) + 1) p.limit) has in
    omega (arith, leb-true (p.gate + 1 + length (input_bytes i) + 1) p.limit b.1, length-append (input_bytes i) (0 ∷ []))

pub grows_of : (p : Position) (i : Input) → fits p i ≡ true → p.grows ≡ true
grows_of p i has = (both_of p.grows (nat_le (p.gate + 1 + length (input_bytes i) + 1) p.limit) has).0

-- what is needed, by lengths that are capped
module _ (v : View) (i : Input) (limit view_len input_len bytes : ℕ) (small : limit < 2 ^ 64) (is_view : view_len ≡ capped ((view Two).spell v)) (is_input : input_len ≡ capped (input_bytes i))
    (total : bytes ≡ view_len + input_len + 12) where
  pub above_need : limit < bytes → limit < need v i
  above_need lt = omega (arith, lt, total, is_view, is_input, capped_is ((view Two).spell v), capped_is (input_bytes i))

  pub within_need : bytes ≤ limit → need v i ≤ limit
  within_need le = omega (arith, le, total, is_view, is_input, capped_is ((view Two).spell v), capped_is (input_bytes i), small)

  pub said_is : min bytes (2 ^ 64 - 1) ≡ said (need v i)
  said_is = omega (arith, total, is_view, is_input, capped_is ((view Two).spell v), capped_is (input_bytes i))
