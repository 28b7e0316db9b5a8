use Rattle.std.proofs.Common.{◌≡◌, ◌∙◌, ℕ, get_or, true, refl, ◌⊎◌, inl, inr, arith}
use Rattle.ini_interp.proofs.LineLemmas.{is_divider, divider_at, no_divider}
use Rattle.ini_interp.proofs.line.item.Goals as goal

divides : (byte : ℕ) → (byte ≡ 61) ⊎ ((byte ≡ 61 → ⊥) × (byte ≡ 58)) → is_divider byte ≡ true
divides byte (inl is) = rw is refl
divides byte (inr is) = rw is.1 refl

pub returns-then-byte-eq61 : goal.returns-then-byte-eq61
returns-then-byte-eq61 c =
    let here : is_divider (get_or c.args.text.now c.loop-place.place 0) ≡ true = rw c.as_bytes-byte-items.ensures.value at (divides _ c.then-byte-eq61.either) in
    c.divided.ensures ∙ divider_at c.args.text.now c.loop-place.place (omega arith) c.loop-place.invariant here

pub returns : goal.returns
returns c = no_divider c.args.text.now (λ k below. c.loop-place.invariant k (omega arith))
