-- What a codec makes of the front of bytes.
use Rattle.std.proofs.Common.{◌≡◌, ℕ, ◌+◌, ◌-◌, ◌<◌, ◌≤◌, List, ◌++◌, length, take, Result, Ok, Err, ap, subst, ◌∙◌, arith}
use Rattle.std.proofs.lemmas.List.{length-append}
use Rattle.std.proofs.Math.Seq.{take-append_seam}
use Rattle.record_fields.specs.Codec.{Codec, IsBytes, IsHeld, IsCodec}
use Rattle.record_codec.specs.Fronts.{front_of, IsAtFront}

module _ {A : Type 0} (c : Codec A) (is_c : IsCodec c) (bytes : List ℕ) where
  pub front_found : (x : A) (rest : List ℕ) → IsBytes bytes → c.read bytes ≡ Ok (x, rest) → c.Fits x × IsAtFront c.spell bytes (x, length bytes - length rest)
  front_found x rest ok e =
      let p = is_c.takes bytes x rest ok e in
      let len : length bytes - length rest ≡ length (c.spell x) = omega (arith, ap length p.0, length-append (c.spell x) rest) in
      (p.1, record { len = len; spelt = rw (len, p.0) (take-append_seam (c.spell x) rest) })

  pub front_only : (x : A) (rest : List ℕ) → c.Fits x → IsHeld bytes → bytes ≡ c.spell x ++ rest → front_of bytes (c.read bytes) ≡ Ok (x, length (c.spell x))
  front_only x rest fits held e =
      let len : length bytes - length rest ≡ length (c.spell x) = omega (arith, ap length e, length-append (c.spell x) rest) in
      ap (front_of bytes) (ap c.read e ∙ is_c.again x rest fits (subst IsHeld e held)) ∙ ap (λ (n : ℕ). Ok (x, n)) len
