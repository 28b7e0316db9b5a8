-- Lists that are read are those that were written.
use Rattle.std.proofs.Common.{◌≡◌, ℕ, zero, suc, ◌^◌, ◌<◌, ◌≤◌, Bool, true, ◌==◌, List, [], ◌∷◌, ◌++◌, length, Option, Ok, refl, sym, ap, ap₂, subst, ◌∙◌, append_assoc, arith}
use Rattle.std.proofs.lemmas.Bool.{eqb-true, eq-eqb}
use Rattle.std.proofs.lemmas.List.{length-append}
use Rattle.std.specs.List.{flat_map}
use Rattle.record_fields.specs.Codec.{Codec, IsBytes, IsHeld, IsCodec}
use Rattle.record_fields.specs.Numbers.{digits, number_at}
use Rattle.record_fields.specs.Lists.{is_few, items_at, AreAllowed, Each, list_at, list_of, listed, each_at, each_list_at, EachBy, each_of}
use Rattle.record_fields.proofs.CodecLemmas.{bind_ok, passed, ok_is, held_behind}
use Rattle.record_fields.proofs.NumberLemmas.{number_codec}

-- ---- any number of items

-- items with spellings that are not empty are no more than the bytes of their spellings
length-flat_map : {A : Type 0} (spell : A → List ℕ) → ((x : A) → 1 ≤ length (spell x)) → (xs : List A) → length xs ≤ length (flat_map spell xs)
length-flat_map spell some [] = omega arith
length-flat_map spell some (x ∷ xs) = omega (arith, some x, length-flat_map spell some xs, length-append (spell x) (flat_map spell xs))

-- a list's number fits where the list is held
count_fits : {A : Type 0} (spell : A → List ℕ) → ((x : A) → 1 ≤ length (spell x)) → (xs : List A) (rest : List ℕ) → IsHeld (digits 10 (length xs) ++ (flat_map spell xs ++ rest)) → length xs < 2 ^ 64
count_fits spell some xs rest held =
    omega (arith, held, length-flat_map spell some xs, length-append (digits 10 (length xs)) (flat_map spell xs ++ rest), length-append (flat_map spell xs) rest)

list_some : {A : Type 0} (spell : A → List ℕ) (xs : List A) → 1 ≤ length (list_of spell xs)
unfolding list_of
list_some spell xs = omega (arith, number_codec.some (length xs), length-append (digits 10 (length xs)) (flat_map spell xs))

module _ {A : Type 0} (allowed : List A → A → Bool) (c : Codec A) (is_c : IsCodec c) where
  abbrev Listed : List ℕ → List A → ℕ → List A × List ℕ → Type 0
  Listed bytes before n y = (bytes ≡ flat_map c.spell y.0 ++ y.1) × ((Each c.Fits y.0 × AreAllowed allowed before y.0) × (length y.0 ≡ n)) × IsBytes y.1

  takes_items : (before : List A) (n : ℕ) (bytes : List ℕ) (y : List A × List ℕ) → IsBytes bytes → items_at allowed c.read before n bytes ≡ Ok y → Listed bytes before n y
  unfolding items_at
  takes_items before zero bytes y ok e = subst (Listed bytes before 0) (ok_is ([], bytes) y e) (refl, ((tt, tt), refl), ok)
  takes_items before (suc n) bytes y ok e =
      let a = bind_ok (c.read bytes) _ y e in
      let t = passed (allowed before a.0.0) _ (length bytes) y a.2 in
      let b = bind_ok (items_at allowed c.read (before ++ a.0.0 ∷ []) n a.0.1) (λ b. Ok (a.0.0 ∷ b.0, b.1)) y t.1 in
      let p = is_c.takes bytes a.0.0 a.0.1 ok a.1 in
      let q = takes_items (before ++ a.0.0 ∷ []) n a.0.1 b.0 p.2 b.1 in
      subst (Listed bytes before (suc n)) (ok_is (a.0.0 ∷ b.0.0, b.0.1) y b.2) (
        p.0 ∙ ap (λ (t : List ℕ). c.spell a.0.0 ++ t) q.0 ∙ sym (append_assoc (c.spell a.0.0) (flat_map c.spell b.0.0) b.0.1),
        (((p.1, q.1.0.0), (t.0, q.1.0.1)), ap suc q.1.1),
        q.2,
      )

  again_items : (before xs : List A) (rest : List ℕ) → Each c.Fits xs → AreAllowed allowed before xs → IsHeld (flat_map c.spell xs ++ rest) → items_at allowed c.read before (length xs) (flat_map c.spell xs ++ rest) ≡ Ok (xs, rest)
  unfolding items_at
  again_items before [] rest h may held = refl
  again_items before (x ∷ xs) rest h may held =
      let grouped : flat_map c.spell (x ∷ xs) ++ rest ≡ c.spell x ++ (flat_map c.spell xs ++ rest) = append_assoc (c.spell x) (flat_map c.spell xs) rest in
      let first_held : IsHeld (c.spell x ++ (flat_map c.spell xs ++ rest)) = subst IsHeld grouped held in
      let others = again_items (before ++ x ∷ []) xs rest h.1 may.1 (held_behind (c.spell x) (flat_map c.spell xs ++ rest) first_held) in
      rw (grouped, is_c.again x (flat_map c.spell xs ++ rest) h.0 first_held, may.0, others) refl

  pub listed_codec : (most : Option ℕ) → IsCodec (listed most allowed c)
  unfolding list_of list_at
  listed_codec most = record {
    takes = λ bytes xs rest ok e.
        let a = bind_ok (number_at bytes) _ (xs, rest) e in
        let t = passed (is_few most a.0.0) _ (length bytes) (xs, rest) a.2 in
        let p = number_codec.takes bytes a.0.0 a.0.1 ok a.1 in
        let q = takes_items [] a.0.0 a.0.1 (xs, rest) p.2 t.1 in (
          p.0 ∙ ap₂ (λ (n : ℕ) (t : List ℕ). digits 10 n ++ t) (sym q.1.1) q.0 ∙ sym (append_assoc (digits 10 (length xs)) (flat_map c.spell xs) rest),
          record { few = subst (λ (n : ℕ). is_few most n ≡ true) (sym q.1.1) t.0; each = q.1.0.0; all_allowed = q.1.0.1 },
          q.2,
        );
    again = λ xs rest fits held.
        let grouped : (digits 10 (length xs) ++ flat_map c.spell xs) ++ rest ≡ digits 10 (length xs) ++ (flat_map c.spell xs ++ rest) = append_assoc (digits 10 (length xs)) (flat_map c.spell xs) rest in
        let all_held : IsHeld (digits 10 (length xs) ++ (flat_map c.spell xs ++ rest)) = subst IsHeld grouped held in
        let number_is = number_codec.again (length xs) (flat_map c.spell xs ++ rest) (count_fits c.spell is_c.some xs rest all_held) all_held in
        rw (grouped, number_is, fits.few) (again_items [] xs rest fits.each fits.all_allowed (held_behind (digits 10 (length xs)) (flat_map c.spell xs ++ rest) all_held));
    some = list_some c.spell;
  }

-- ---- as many items as definitions

module _ {D A : Type 0} (spell : A → List ℕ) (c : D → Codec A) (is_c : (d : D) → IsCodec (c d)) (same : (d : D) (x : A) → (c d).spell x ≡ spell x) where
  abbrev EachTaken : List ℕ → List D → List A × List ℕ → Type 0
  EachTaken bytes ds y = (bytes ≡ flat_map spell y.0 ++ y.1) × (EachBy (λ d. (c d).Fits) ds y.0 × (length y.0 ≡ length ds)) × IsBytes y.1

  takes_each : (ds : List D) (bytes : List ℕ) (y : List A × List ℕ) → IsBytes bytes → each_at (λ d. (c d).read) ds bytes ≡ Ok y → EachTaken bytes ds y
  unfolding each_at
  takes_each [] bytes y ok e = subst (EachTaken bytes []) (ok_is ([], bytes) y e) (refl, (tt, refl), ok)
  takes_each (d ∷ ds) bytes y ok e =
      let a = bind_ok ((c d).read bytes) _ y e in
      let b = bind_ok (each_at (λ d. (c d).read) ds a.0.1) (λ b. Ok (a.0.0 ∷ b.0, b.1)) y a.2 in
      let p = (is_c d).takes bytes a.0.0 a.0.1 ok a.1 in
      let q = takes_each ds a.0.1 b.0 p.2 b.1 in
      subst (EachTaken bytes (d ∷ ds)) (ok_is (a.0.0 ∷ b.0.0, b.0.1) y b.2) (
        p.0 ∙ ap₂ (λ (s t : List ℕ). s ++ t) (same d a.0.0) q.0 ∙ sym (append_assoc (spell a.0.0) (flat_map spell b.0.0) b.0.1),
        ((p.1, q.1.0), ap suc q.1.1),
        q.2,
      )

  again_each : (ds : List D) (xs : List A) (rest : List ℕ) → EachBy (λ d. (c d).Fits) ds xs → IsHeld (flat_map spell xs ++ rest) → each_at (λ d. (c d).read) ds (flat_map spell xs ++ rest) ≡ Ok (xs, rest)
  unfolding each_at
  again_each [] [] rest h held = refl
  again_each [] (x ∷ xs) rest h held = absurd h
  again_each (d ∷ ds) [] rest h held = absurd h
  again_each (d ∷ ds) (x ∷ xs) rest h held =
      let grouped : flat_map spell (x ∷ xs) ++ rest ≡ (c d).spell x ++ (flat_map spell xs ++ rest) = append_assoc (spell x) (flat_map spell xs) rest ∙ ap (λ (s : List ℕ). s ++ (flat_map spell xs ++ rest)) (sym (same d x)) in
      let first_held : IsHeld ((c d).spell x ++ (flat_map spell xs ++ rest)) = subst IsHeld grouped held in
      let others = again_each ds xs rest h.1 (held_behind ((c d).spell x) (flat_map spell xs ++ rest) first_held) in
      rw (grouped, (is_c d).again x (flat_map spell xs ++ rest) h.0 first_held, others) refl

  -- there are as many as definitions
  pub length-EachBy : (ds : List D) (xs : List A) → EachBy (λ d. (c d).Fits) ds xs → length xs ≡ length ds
  length-EachBy [] [] h = refl
  length-EachBy [] (x ∷ xs) h = absurd h
  length-EachBy (d ∷ ds) [] h = absurd h
  length-EachBy (d ∷ ds) (x ∷ xs) h = ap suc (length-EachBy ds xs h.1)

  pub each_codec : ((x : A) → 1 ≤ length (spell x)) → (ds : List D) → IsCodec (each_of spell c ds)
  unfolding list_of each_list_at
  each_codec some ds = record {
    takes = λ bytes xs rest ok e.
        let a = bind_ok (number_at bytes) _ (xs, rest) e in
        let t = passed (a.0.0 == length ds) _ (length bytes) (xs, rest) a.2 in
        let p = number_codec.takes bytes a.0.0 a.0.1 ok a.1 in
        let q = takes_each ds a.0.1 (xs, rest) p.2 t.1 in
        let count : a.0.0 ≡ length xs = eqb-true a.0.0 (length ds) t.0 ∙ sym q.1.1 in (
          p.0 ∙ ap₂ (λ (n : ℕ) (t : List ℕ). digits 10 n ++ t) count q.0 ∙ sym (append_assoc (digits 10 (length xs)) (flat_map spell xs) rest),
          q.1.0,
          q.2,
        );
    again = λ xs rest fits held.
        let grouped : (digits 10 (length xs) ++ flat_map spell xs) ++ rest ≡ digits 10 (length xs) ++ (flat_map spell xs ++ rest) = append_assoc (digits 10 (length xs)) (flat_map spell xs) rest in
        let all_held : IsHeld (digits 10 (length xs) ++ (flat_map spell xs ++ rest)) = subst IsHeld grouped held in
        let number_is = number_codec.again (length xs) (flat_map spell xs ++ rest) (count_fits spell some xs rest all_held) all_held in
        let count : (length xs == length ds) ≡ true = eq-eqb (length xs) (length ds) (length-EachBy ds xs fits) in
        rw (grouped, number_is, count) (again_each ds xs rest fits (held_behind (digits 10 (length xs)) (flat_map spell xs ++ rest) all_held));
    some = list_some spell;
  }
