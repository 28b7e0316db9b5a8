-- An address that is read is the address that was written.
use Rattle.std.proofs.Common.{◌≡◌, ◌≢◌, ℕ, ◌+◌, ◌*◌, ◌/◌, ◌%◌, ◌^◌, ◌<◌, ◌≤◌, true, false, cond, nat_lt, ◌==◌, List, [], ◌∷◌, ◌++◌, length, take, drop, Result, Ok, Err, refl, sym, ap, ap₂, subst, ◌∙◌, append_assoc, arith, inl, inr, true≢false, lit≤}
use Rattle.std.specs.Int.{Width, w32, w64, to_be_bytes, from_be_bytes, byte_len}
use Rattle.std.proofs.lemmas.Bool.{cases_lt, ltb-false, le-ltb, leb-true, le-leb, eqb-true, eq-eqb}
use Rattle.std.proofs.lemmas.List.{take_at, drop_at, take-append-drop, length-append, length-take, get_or-take, get_or_past}
use Rattle.std.proofs.lemmas.Nat.{be_bytes_4, be_bytes_8, from_be_bytes-to_be_bytes_4, from_be_bytes-to_be_bytes_8}
use Rattle.f2b_base.specs.declared.addr.Addr.{Addr}
use Rattle.f2b_base.specs.declared.addr.Addr.TheVariants.{V4, V6}
use Rattle.f2b_base.specs.Addresses.{is_mapped, IsAddr}
use Rattle.record_fields.specs.Codec.{◌>>=◌, Codec, IsBytes, IsHeld, IsCodec}
use Rattle.record_fields.specs.Addresses.{addr, addr_spelling, addr_at, fixed_at, sixteen_at, eight, sixteen, is_mask, bits, cidr}
use Rattle.f2b_base.specs.Masks.{cleared, IsMask}
use Rattle.record_fields.proofs.CodecLemmas.{bind_ok, refused, split, ok_is, err_is_ok, Spelt, IsBytes-drop, IsBytes-tail, held_behind, then_codec, made_codec, tested_codec}
use Rattle.record_fields.proofs.NumberLemmas.{both_of}

-- a width of whole bytes, whose numbers are below a limit
record IsWide (w : Width) (limit : ℕ) : Type 0 where
  pub some : 1 ≤ byte_len w
  pub len : (n : ℕ) → length (to_be_bytes w n) ≡ byte_len w
  pub back : (bytes : List ℕ) → length bytes ≡ byte_len w → IsBytes bytes → to_be_bytes w (from_be_bytes w bytes) ≡ bytes
  pub again : (n : ℕ) → n < limit → from_be_bytes w (to_be_bytes w n) ≡ n
  pub below : (bytes : List ℕ) → IsBytes bytes → from_be_bytes w bytes < limit

wide32 : IsWide w32 (2 ^ 32)
wide32 = record {
  some = lit≤ tt;
  len = λ n. refl;
  back = λ bytes len fits. be_bytes_4 bytes _ len fits refl;
  again = λ n lt. from_be_bytes-to_be_bytes_4 n lt;
  below = λ bytes fits. omega (arith, fits 0, fits 1, fits 2, fits 3);
}

wide64 : IsWide w64 (2 ^ 64)
wide64 = record {
  some = lit≤ tt;
  len = λ n. refl;
  back = λ bytes len fits. be_bytes_8 bytes _ len fits refl;
  again = λ n lt. from_be_bytes-to_be_bytes_8 n lt;
  below = λ bytes fits. omega (arith, fits 0, fits 1, fits 2, fits 3, fits 4, fits 5, fits 6, fits 7);
}

IsBytes-take : (n : ℕ) (bytes : List ℕ) → IsBytes bytes → IsBytes (take n bytes)
IsBytes-take n bytes h i =
    elim (cases_lt i n) [
      | inl lt ↦ rw (get_or-take n bytes i 0 lt) (h i)
      | inr le ↦ rw (get_or_past (take n bytes) i 0 (omega (arith, length-take n bytes))) (omega arith)
    ]

abbrev fixed : Width → ℕ → ℕ → Codec ℕ
fixed w limit left = record { spell = to_be_bytes w; read = fixed_at w left; Fits = λ n. n < limit }

fixed_codec : (w : Width) (limit left : ℕ) → IsWide w limit → IsCodec (fixed w limit left)
unfolding fixed_at
fixed_codec w limit left wide = record {
  takes = λ bytes n rest ok e.
      let g = refused (nat_lt (length bytes) (byte_len w)) (from_be_bytes w (take (byte_len w) bytes), drop (byte_len w) bytes) left (n, rest) e in
      let long : byte_len w ≤ length bytes = ltb-false _ _ g.0 in
      let front : to_be_bytes w (from_be_bytes w (take (byte_len w) bytes)) ≡ take (byte_len w) bytes =
      wide.back (take (byte_len w) bytes) (omega (arith, length-take (byte_len w) bytes)) (IsBytes-take (byte_len w) bytes ok) in
      subst (Spelt (fixed w limit left) bytes) g.1 (
        sym (take-append-drop (byte_len w) bytes) ∙ ap (λ (t : List ℕ). t ++ drop (byte_len w) bytes) (sym front),
        wide.below (take (byte_len w) bytes) (IsBytes-take (byte_len w) bytes ok),
        IsBytes-drop (byte_len w) bytes ok,
      );
  again = λ n rest lt _.
      let long : nat_lt (length (to_be_bytes w n ++ rest)) (byte_len w) ≡ false = le-ltb _ _ (omega (arith, wide.len n, length-append (to_be_bytes w n) rest)) in
      rw (long, take_at (to_be_bytes w n) rest (byte_len w) (wide.len n), drop_at (to_be_bytes w n) rest (byte_len w) (wide.len n), wide.again n lt) refl;
  some = λ n. omega (arith, wide.len n, wide.some);
}

abbrev wide_number : ℕ → Codec ℕ
wide_number left = record { spell = sixteen; read = sixteen_at left; Fits = λ n. n < 2 ^ 128 }

halves : (high low : ℕ) → low < 2 ^ 64 → ((high * 2 ^ 64 + low) / 2 ^ 64 ≡ high) × ((high * 2 ^ 64 + low) % 2 ^ 64 ≡ low)
halves high low lt = (omega arith, omega arith)

sixteen_codec : (left : ℕ) → IsCodec (wide_number left)
unfolding eight sixteen sixteen_at
sixteen_codec left =
    let half = fixed_codec w64 (2 ^ 64) left wide64 in
    record {
      takes = λ bytes n rest ok e.
          let a = bind_ok (fixed_at w64 left bytes) _ (n, rest) e in
          let b = bind_ok (fixed_at w64 left a.0.1) _ (n, rest) a.2 in
          let p = half.takes bytes a.0.0 a.0.1 ok a.1 in
          let q = half.takes a.0.1 b.0.0 b.0.1 p.2 b.1 in
          let m = a.0.0 * 2 ^ 64 + b.0.0 in
          let h = halves a.0.0 b.0.0 q.1 in
          let parts : to_be_bytes w64 a.0.0 ++ to_be_bytes w64 b.0.0 ≡ sixteen m = ap₂ (λ (x y : ℕ). to_be_bytes w64 x ++ to_be_bytes w64 y) (sym h.0) (sym h.1) in
          subst (Spelt (wide_number left) bytes) (ok_is (m, b.0.1) (n, rest) b.2)
          (p.0 ∙ ap (λ (t : List ℕ). to_be_bytes w64 a.0.0 ++ t) q.0 ∙ sym (append_assoc (to_be_bytes w64 a.0.0) (to_be_bytes w64 b.0.0) b.0.1) ∙ ap (λ (t : List ℕ). t ++ b.0.1) parts, omega (arith, p.1, q.1), q.2);
      again = λ n rest lt held.
          let value : (n / 2 ^ 64) * 2 ^ 64 + n % 2 ^ 64 ≡ n = omega arith in
          let grouped = append_assoc (to_be_bytes w64 (n / 2 ^ 64)) (to_be_bytes w64 (n % 2 ^ 64)) rest in
          let all_held : IsHeld (to_be_bytes w64 (n / 2 ^ 64) ++ (to_be_bytes w64 (n % 2 ^ 64) ++ rest)) = subst IsHeld grouped held in
          ap (sixteen_at left) grouped
          ∙ ap (λ (r : Result (ℕ × List ℕ) ℕ). r >>= λ high. fixed_at w64 left high.1 >>= λ low. Ok (high.0 * 2 ^ 64 + low.0, low.1)) (half.again (n / 2 ^ 64) (to_be_bytes w64 (n % 2 ^ 64) ++ rest) (omega arith) all_held)
          ∙ ap (λ (r : Result (ℕ × List ℕ) ℕ). r >>= λ low. Ok ((n / 2 ^ 64) * 2 ^ 64 + low.0, low.1)) (half.again (n % 2 ^ 64) rest (omega arith) (held_behind (to_be_bytes w64 (n / 2 ^ 64)) (to_be_bytes w64 (n % 2 ^ 64) ++ rest) all_held))
          ∙ ap (λ (v : ℕ). Ok (v, rest)) value;
      some = λ n. omega (arith, half.some (n / 2 ^ 64), length-append (to_be_bytes w64 (n / 2 ^ 64)) (to_be_bytes w64 (n % 2 ^ 64)));
    }

not_mapped : (n : ℕ) → is_mapped n ≡ false → n / 2 ^ 32 ≢ 0xffff
not_mapped n e h = true≢false (sym (eq-eqb (n / 2 ^ 32) 0xffff h) ∙ e)

mapped_not : (n : ℕ) → n / 2 ^ 32 ≢ 0xffff → is_mapped n ≡ false
mapped_not n ne = elim (is_mapped n) as (λ b. is_mapped n ≡ b → is_mapped n ≡ false) [
  | true ↦ λ e. absurd (ne (eqb-true (n / 2 ^ 32) 0xffff e))
  | false ↦ λ e. e
] refl

addr_takes : (bytes : List ℕ) (y : Addr × List ℕ) → IsBytes bytes → addr_at bytes ≡ Ok y → Spelt addr bytes y
unfolding addr_at
addr_takes [] y ok e = absurd (err_is_ok _ y e)
addr_takes (b ∷ bytes) y ok e =
    elim (split (b == 4) _ _ _ e) [
      | inl four ↦
          let a = bind_ok (fixed_at w32 (length bytes + 1) bytes) (λ n. Ok (V4 n.0, n.1)) y four.1 in
          let p = (fixed_codec w32 (2 ^ 32) (length bytes + 1) wide32).takes bytes a.0.0 a.0.1 (IsBytes-tail b bytes ok) a.1 in
          subst (Spelt addr (b ∷ bytes)) (ok_is (V4 a.0.0, a.0.1) y a.2) (ap₂ ◌∷◌ (eqb-true b 4 four.0) p.0, p.1, p.2)
      | inr other ↦ elim (split (b == 6) _ _ _ other.1) [
        | inl six ↦
            let a = bind_ok (sixteen_at (length bytes + 1) bytes) _ y six.1 in
            let p = (sixteen_codec (length bytes + 1)).takes bytes a.0.0 a.0.1 (IsBytes-tail b bytes ok) a.1 in
            let g = refused (is_mapped a.0.0) (V6 a.0.0, a.0.1) (length bytes + 1) y a.2 in
            subst (Spelt addr (b ∷ bytes)) g.1 (ap₂ ◌∷◌ (eqb-true b 6 six.0) p.0, (p.1, not_mapped a.0.0 g.0), p.2)
        | inr none ↦ absurd (err_is_ok _ y none.1)
      ]
    ]

addr_again : (x : Addr) (rest : List ℕ) → IsAddr x → IsHeld (addr_spelling x ++ rest) → addr_at (addr_spelling x ++ rest) ≡ Ok (x, rest)
unfolding addr_at
addr_again (V4 n) rest lt held =
    ap (λ (r : Result (ℕ × List ℕ) ℕ). r >>= λ n. Ok (V4 n.0, n.1))
    ((fixed_codec w32 (2 ^ 32) (length (to_be_bytes w32 n ++ rest) + 1) wide32).again n rest lt (held_behind (4 ∷ []) (to_be_bytes w32 n ++ rest) held))
addr_again (V6 n) rest fits held =
    ap (λ (r : Result (ℕ × List ℕ) ℕ). r >>= λ m. cond (is_mapped m.0) (Err (length (sixteen n ++ rest) + 1)) (Ok (V6 m.0, m.1)))
    ((sixteen_codec (length (sixteen n ++ rest) + 1)).again n rest fits.0 (held_behind (6 ∷ []) (sixteen n ++ rest) held))
    ∙ rw (mapped_not n fits.1) refl

addr_some : (x : Addr) → 1 ≤ length (addr_spelling x)
addr_some (V4 n) = omega arith
addr_some (V6 n) = omega arith

pub addr_codec : IsCodec addr
addr_codec = record { takes = λ bytes x rest ok e. addr_takes bytes (x, rest) ok e; again = addr_again; some = addr_some }

-- ---- masks

mask_is : (a : Addr) (n : ℕ) → is_mask a n ≡ true → IsMask a n
mask_is (V4 base) n h = let t = both_of _ _ h in (leb-true n 32 t.0, eqb-true (cleared 32 n base) base t.1)
mask_is (V6 base) n h = let t = both_of _ _ h in (leb-true n 128 t.0, eqb-true (cleared 128 n base) base t.1)

is_mask_of : (a : Addr) (n : ℕ) → IsMask a n → is_mask a n ≡ true
is_mask_of (V4 base) n h = rw (le-leb n 32 h.0, eq-eqb (cleared 32 n base) base h.1) refl
is_mask_of (V6 base) n h = rw (le-leb n 128 h.0, eq-eqb (cleared 128 n base) base h.1) refl

bits_codec : (a : Addr) → IsCodec (bits a)
bits_codec a = tested_codec (is_mask a) (IsMask a) (mask_is a) (is_mask_of a)

pub cidr_codec : IsCodec cidr
unfolding cidr
cidr_codec = made_codec _ _ _ (λ a _. refl) (λ c. refl) (then_codec addr bits addr_codec bits_codec)
