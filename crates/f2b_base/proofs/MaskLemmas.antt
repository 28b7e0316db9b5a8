-- What masks keep, and what their texts read as.
use Rattle.std.proofs.Common.{◌≡◌, ◌≢◌, ℕ, ◌+◌, ◌-◌, ◌*◌, ◌/◌, ◌^◌, ◌<◌, ◌≤◌, List, get_or, length, Some, None, decimal, refl, sym, ap, ◌∙◌, inl, inr, arith, Bool, position, take, drop, ◌%◌, true, false, nat_le, cond, Option, IfSome, IfNone, append_assoc, take_at, drop_at, take-append-drop, drop-cons, add-one, [], ◌∷◌, ◌++◌}
use Rattle.std.proofs.lemmas.Bool.{cases_lt}
use Rattle.std.proofs.lemmas.Nat.{pow-add, shl-shr, shr-shr}
use Rattle.std.proofs.Math.Nat.{mul_assoc}
use Rattle.std.proofs.NetLemmas.Options.{cond_some}
use Rattle.std.proofs.NetLemmas.Options.{and_then_some, map_some}
use Rattle.std.proofs.lemmas.Option.{none-some}
use Rattle.std.proofs.lemmas.Bool.{leb-true, eqb-true}
use Rattle.std.proofs.lemmas.List.{length_push}
use Rattle.std.proofs.lemmas.List.Quantifiers.{position-Some}
use Rattle.f2b_base.specs.declared.addr.Addr.{Addr}
use Rattle.f2b_base.specs.declared.addr.Addr.TheVariants.{V4, V6}
use Rattle.f2b_base.specs.declared.addr.Cidr.{Cidr}
use Rattle.f2b_base.specs.Addresses.{is_mapped, written_addr, read_addr}
use Rattle.f2b_base.specs.Masks.{masked, masked_v4, masked_v6, alone, read_bits, read_split, read_cidr, SpellsMask}
use Rattle.f2b_base.proofs.FormLemmas.{written_addr-IsForm, IsForm-from_written, read_addr-Spells, Spells-from_read}
use Rattle.f2b_base.proofs.BitsLemmas.{read_bits-decimal, decimal-read_bits}
use Rattle.f2b_base.proofs.SlashLemmas.{is_slash, no_slash_in_form, position_none, position_first}

-- ---- values

-- an address that is not in ::ffff:0:0/96 does not come into it when its last bits become 0
pub unmapped-cleared : (number k : ℕ) → number / 2 ^ 32 ≢ 0xffff → number / 2 ^ k * 2 ^ k / 2 ^ 32 ≢ 0xffff
unmapped-cleared number k other =
    elim (cases_lt 32 k) [
      | inl many ↦
          let part = number / 2 ^ k * 2 ^ (k - 33) in
          let sum : k - 33 + 33 ≡ k = omega arith in
          let split : 2 ^ k ≡ 2 ^ (k - 33) * 2 ^ 33 = ap (λ j. 2 ^ j) (sym sum) ∙ pow-add 2 (k - 33) 33 in
          let even : number / 2 ^ k * 2 ^ k ≡ part * 8589934592 = ap (λ p. number / 2 ^ k * p) split ∙ sym (mul_assoc (number / 2 ^ k) (2 ^ (k - 33)) 8589934592) in
          λ mapped. omega arith
      | inr few ↦
          let sum : k + (32 - k) ≡ 32 = omega arith in
          let whole = number / 2 ^ k * 2 ^ k in
          let same : whole / 2 ^ (k + (32 - k)) ≡ number / 2 ^ (k + (32 - k)) = sym (shr-shr whole k (32 - k)) ∙ ap (λ n. n / 2 ^ (32 - k)) (shl-shr (number / 2 ^ k) k) ∙ shr-shr number k (32 - k) in
          λ mapped. other (sym (ap (λ j. number / 2 ^ j) sum) ∙ sym same ∙ ap (λ j. whole / 2 ^ j) sum ∙ mapped)
    ]

-- what is cleared stays as it is when it is cleared again
pub cleared_twice : (number k : ℕ) → number / 2 ^ k * 2 ^ k / 2 ^ k * 2 ^ k ≡ number / 2 ^ k * 2 ^ k
cleared_twice number k = ap (λ part. part * 2 ^ k) (shl-shr (number / 2 ^ k) k)

-- ---- texts

masked_v4-le : (number bits : ℕ) (cidr : Cidr) → masked_v4 number bits ≡ Some cidr → bits ≤ 32
masked_v4-le number bits cidr e = leb-true bits 32 (cond_some _ _ cidr e).0

masked_v6-le : (number bits : ℕ) (cidr : Cidr) → masked_v6 number bits ≡ Some cidr → bits ≤ 128
masked_v6-le number bits cidr e = leb-true bits 128 (cond_some _ _ cidr e).0

-- a mask has at most 128 bits in its text
masked-le : (written : Addr) (bits : ℕ) (cidr : Cidr) → masked written bits ≡ Some cidr → bits ≤ 128
masked-le (V4 number) bits cidr e = omega (arith, masked_v4-le number bits cidr e)
masked-le (V6 number) bits cidr e = either (is_mapped number) (nat_le 96 bits) e
  where
    either : (mapped enough : Bool) → cond mapped (cond enough (masked_v4 (number % 2 ^ 32) (bits - 96)) None) (masked_v6 number bits) ≡ Some cidr → bits ≤ 128
    either true true e₁ = omega (arith, masked_v4-le (number % 2 ^ 32) (bits - 96) cidr e₁)
    either true false e₁ = absurd (none-some cidr e₁)
    either false enough e₁ = masked_v6-le number bits cidr e₁

pub read_cidr-split : (text : List ℕ) (place : Option ℕ) → place ≡ position is_slash text → read_cidr text ≡ read_split text place
unfolding read_cidr
read_cidr-split text place e = ap (read_split text) (sym e)

-- a text reads as the mask that it spells
read_cidr-SpellsMask : (text : List ℕ) (cidr : Cidr) → SpellsMask text cidr → read_cidr text ≡ Some cidr
read_cidr-SpellsMask text cidr (inl (addr, (written, form, same), is)) =
    read_cidr-split text None (sym (position_none text (no_slash_in_form text written form)))
    ∙ rw (read_addr-Spells text addr (written, form, same)) (ap Some (sym is))
read_cidr-SpellsMask text cidr (inr masks) =
    let front = masks.address in
    let rest = decimal masks.bits in
    let shown : text ≡ front ++ 47 ∷ rest = masks.spelled ∙ append_assoc front (47 ∷ []) rest in
    let first = position_first front rest (no_slash_in_form front masks.written masks.form) in
    let small : masks.bits < 256 = omega (arith, masked-le masks.written masks.bits cidr masks.over) in
    let before : take (length front) text ≡ front = ap (take (length front)) shown ∙ take_at front (47 ∷ rest) (length front) refl in
    let behind : drop (length front + 1) text ≡ rest = ap (drop (length front + 1)) masks.spelled ∙ drop_at (front ++ 47 ∷ []) rest (length front + 1) (omega (arith, length_push front 47)) in
    read_cidr-split text (Some (length front)) (sym (ap (position is_slash) shown ∙ first))
    ∙ rw (before, written_addr-IsForm front masks.written masks.form, behind, read_bits-decimal masks.bits small) masks.over

-- and spells the mask that it reads as
by_place : (text : List ℕ) (cidr : Cidr) (place : Option ℕ) → place ≡ position is_slash text → read_split text place ≡ Some cidr → SpellsMask text cidr
by_place text cidr None is e =
    map_some alone (read_addr text) cidr e λ addr read same. inl (addr, Spells-from_read text addr read, sym same)
by_place text cidr (Some place) is e =
    and_then_some _ (written_addr (take place text)) cidr e λ written read e₁.
    and_then_some (masked written) (read_bits (drop (place + 1) text)) cidr e₁ λ bits is_bits over.
    let (within, test, _) = position-Some is_slash text place 0 (sym is) in
    let slash : get_or text place 0 ≡ 47 = eqb-true (get_or text place 0) 47 test in
    let behind : drop (place + 1) text ≡ decimal bits = decimal-read_bits (drop (place + 1) text) bits is_bits in
    let opened : drop place text ≡ get_or text place 0 ∷ drop (place + 1) text = rw add-one (drop-cons text place 0 within) in
    let cut : drop place text ≡ 47 ∷ decimal bits = opened ∙ λ i. slash i ∷ behind i in
    inr (record {
      address = take place text;
      written = written;
      bits = bits;
      spelled = sym (take-append-drop place text) ∙ ap (λ t. take place text ++ t) cut ∙ sym (append_assoc (take place text) (47 ∷ []) (decimal bits));
      form = IsForm-from_written (take place text) written read;
      over = over;
    })

SpellsMask-from_read : (text : List ℕ) (cidr : Cidr) → read_cidr text ≡ Some cidr → SpellsMask text cidr
SpellsMask-from_read text cidr e =
    let place = position is_slash text in
    by_place text cidr place refl (sym (read_cidr-split text place refl) ∙ e)

-- the same of what a reader gave
pub spelled_mask : (text : List ℕ) (r : Option Cidr) → r ≡ read_cidr text → IfSome r (SpellsMask text)
spelled_mask text None e = tt
spelled_mask text (Some cidr) e = SpellsMask-from_read text cidr (sym e)

pub no_mask : (text : List ℕ) (r : Option Cidr) → r ≡ read_cidr text → IfNone r ((cidr : Cidr) → ¬ (SpellsMask text cidr))
no_mask text None e = λ cidr h. none-some cidr (e ∙ read_cidr-SpellsMask text cidr h)
no_mask text (Some cidr) e = tt
