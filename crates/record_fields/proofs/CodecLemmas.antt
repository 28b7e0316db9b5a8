-- Codecs of parts, joined.
use Rattle.std.proofs.Common.{◌≡◌, ℕ, ◌+◌, ◌≤◌, Bool, true, false, cond, ◌==◌, List, [], ◌∷◌, ◌++◌, length, drop, Option, Some, None, Result, Ok, Err, refl, sym, ap, ap₂, subst, ◌∙◌, append_assoc, arith, inl, inr, ◌⊎◌}
use Rattle.std.proofs.lemmas.Bool.{eqb-true}
use Rattle.std.proofs.lemmas.List.{get_or-drop, length-append}
use Rattle.std.proofs.lemmas.Option.{none-some, same_Some}
use Rattle.record_fields.specs.Codec.{◌>>=◌, as_made, Codec, IsBytes, IsHeld, IsCodec, and_then, both, made, fit, checked, coded, Cases, case, no_case, field, option_of, option_spelling, IsOption}

-- ---- results

pub bind_ok : {A B : Type 0} (r : Result A ℕ) (f : A → Result B ℕ) (y : B) → (r >>= f) ≡ Ok y → (x : A) × (r ≡ Ok x) × (f x ≡ Ok y)
bind_ok (Ok x) f y e = (x, refl, e)
bind_ok (Err d) f y e = absurd cc

-- a test that did not fail
pub chosen : {A : Type 0} (b : Bool) (x : A) (left : ℕ) (y : A) → cond b (Ok x) (Err left) ≡ Ok y → (b ≡ true) × (x ≡ y)
chosen true x left y e = (refl, cc)
chosen false x left y e = absurd cc

-- a test that did not fail, and what followed
pub passed : {A : Type 0} (b : Bool) (r : Result A ℕ) (left : ℕ) (y : A) → cond b r (Err left) ≡ Ok y → (b ≡ true) × (r ≡ Ok y)
passed true r left y e = (refl, e)
passed false r left y e = absurd cc

pub split : {A : Type 0} (t : Bool) (x y z : A) → cond t x y ≡ z → ((t ≡ true) × (x ≡ z)) ⊎ ((t ≡ false) × (y ≡ z))
split true x y z e = inl (refl, e)
split false x y z e = inr (refl, e)

pub refused : {A : Type 0} (b : Bool) (x : A) (left : ℕ) (y : A) → cond b (Err left) (Ok x) ≡ Ok y → (b ≡ false) × (x ≡ y)
refused true x left y e = absurd cc
refused false x left y e = (refl, cc)

abbrev done : {A : Type 0} → A → Result A ℕ
done x = Ok x

pub ok_is : {A : Type 0} (x y : A) → done x ≡ done y → x ≡ y
ok_is x y e = cc

pub err_is_ok : {A : Type 0} (left : ℕ) (y : A) → Err left ≡ done y → ⊥
err_is_ok left y e = cc

pub IsBytes-drop : (n : ℕ) (bytes : List ℕ) → IsBytes bytes → IsBytes (drop n bytes)
IsBytes-drop n bytes h i = rw get_or-drop (h (n + i))

pub IsBytes-tail : (b : ℕ) (bytes : List ℕ) → IsBytes (b ∷ bytes) → IsBytes bytes
IsBytes-tail b bytes h i = IsBytes-drop 1 (b ∷ bytes) h i

-- what follows some bytes is held where all is
pub held_behind : (bytes rest : List ℕ) → IsHeld (bytes ++ rest) → IsHeld rest
held_behind bytes rest held = omega (arith, length-append bytes rest, held)

-- what a codec takes
abbrev pub Spelt : {A : Type 0} → Codec A → List ℕ → A × List ℕ → Type 0
Spelt c bytes y = (bytes ≡ c.spell y.0 ++ y.1) × c.Fits y.0 × IsBytes y.1

-- ---- codecs of codecs

module _ {A B : Type 0} (first : Codec A) (next : A → Codec B) (is_first : IsCodec first) (is_next : (a : A) → IsCodec (next a)) where
  pub then_codec : IsCodec (and_then first next)
  then_codec = record {
    takes = λ bytes x rest ok e.
        let a = bind_ok (first.read bytes) (λ a. (next a.0).read a.1 >>= λ b. Ok ((a.0, b.0), b.1)) (x, rest) e in
        let b = bind_ok ((next a.0.0).read a.0.1) (λ b. Ok ((a.0.0, b.0), b.1)) (x, rest) a.2 in
        let p = is_first.takes bytes a.0.0 a.0.1 ok a.1 in
        let q = (is_next a.0.0).takes a.0.1 b.0.0 b.0.1 p.2 b.1 in
        let parts : bytes ≡ (first.spell a.0.0 ++ (next a.0.0).spell b.0.0) ++ b.0.1 =
        p.0 ∙ ap (λ (t : List ℕ). first.spell a.0.0 ++ t) q.0 ∙ sym (append_assoc (first.spell a.0.0) ((next a.0.0).spell b.0.0) b.0.1) in
        subst (Spelt (and_then first next) bytes) (ok_is ((a.0.0, b.0.0), b.0.1) (x, rest) b.2) (parts, (p.1, q.1), q.2);
    again = λ x rest fits held.
        let grouped : IsHeld (first.spell x.0 ++ ((next x.0).spell x.1 ++ rest)) = subst IsHeld (append_assoc (first.spell x.0) ((next x.0).spell x.1) rest) held in
        ap (and_then first next).read (append_assoc (first.spell x.0) ((next x.0).spell x.1) rest)
        ∙ ap (λ (r : Result (A × List ℕ) ℕ). r >>= λ a. (next a.0).read a.1 >>= λ b. Ok ((a.0, b.0), b.1)) (is_first.again x.0 ((next x.0).spell x.1 ++ rest) fits.0 grouped)
        ∙ ap (λ (r : Result (B × List ℕ) ℕ). r >>= λ b. Ok ((x.0, b.0), b.1)) ((is_next x.0).again x.1 rest fits.1 (held_behind (first.spell x.0) ((next x.0).spell x.1 ++ rest) grouped));
    some = λ x. omega (arith, is_first.some x.0, length-append (first.spell x.0) ((next x.0).spell x.1));
  }

pub both_codec : {A B : Type 0} (first : Codec A) (next : Codec B) → IsCodec first → IsCodec next → IsCodec (both first next)
both_codec first next is_first is_next = then_codec first (λ _. next) is_first (λ _. is_next)

module _ {A B : Type 0} (make : A → B) (parts : B → A) (c : Codec A) (undo : (a : A) → c.Fits a → parts (make a) ≡ a) (redo : (b : B) → make (parts b) ≡ b)
    (is_c : IsCodec c) where
  pub made_codec : IsCodec (made make parts c)
  made_codec = record {
    takes = λ bytes b rest ok e.
        let a = bind_ok (c.read bytes) (λ a. Ok (make a.0, a.1)) (b, rest) e in
        let p = is_c.takes bytes a.0.0 a.0.1 ok a.1 in
        let back = sym (undo a.0.0 p.1) in
        subst (Spelt (made make parts c) bytes) (ok_is (make a.0.0, a.0.1) (b, rest) a.2)
        (p.0 ∙ ap (λ (x : A). c.spell x ++ a.0.1) back, subst c.Fits back p.1, p.2);
    again = λ b rest fits held.
        ap (λ (r : Result (A × List ℕ) ℕ). r >>= λ a. Ok (make a.0, a.1)) (is_c.again (parts b) rest fits held)
        ∙ ap (λ (x : B). Ok (x, rest)) (redo b);
    some = λ b. is_c.some (parts b);
  }

pub checked_codec : {A : Type 0} (test : A → Bool) (c : Codec A) → IsCodec c → IsCodec (checked test c)
checked_codec test c is_c = record {
  takes = λ bytes x rest ok e.
      let a = bind_ok (c.read bytes) _ (x, rest) e in
      let g = chosen (test a.0.0) a.0 (length bytes) (x, rest) a.2 in
      let p = is_c.takes bytes a.0.0 a.0.1 ok a.1 in
      subst (Spelt (checked test c) bytes) g.1 (p.0, (p.1, g.0), p.2);
  again = λ x rest fits held. rw (is_c.again x rest fits.0 held, fits.1) refl;
  some = is_c.some;
}

-- a codec with another word for the same values
pub fit_codec : {A : Type 0} (Word : A → Type 0) (c : Codec A) → IsCodec c → ((x : A) → c.Fits x → Word x) → ((x : A) → Word x → c.Fits x) → IsCodec (fit Word c)
fit_codec Word c is_c word back = record {
  takes = λ bytes x rest ok e. let p = is_c.takes bytes x rest ok e in (p.0, word x p.1, p.2);
  again = λ x rest fits held. is_c.again x rest (back x fits) held;
  some = is_c.some;
}

-- ---- a value that is made of what a codec reads, with a spelling of its own

module _ {A B : Type 0} (c : Codec A) (make : A → B) (parts : B → A) (whole : B → List ℕ) (Q : B → Type 0)
    (undo : (a : A) → c.Fits a → parts (make a) ≡ a) (spelt : (b : B) → whole b ≡ c.spell (parts b))
    (fits : (a : A) → c.Fits a → Q (make a)) (unfits : (b : B) → Q b → c.Fits (parts b) × (make (parts b) ≡ b)) (is_c : IsCodec c) where
  abbrev remade : Codec B
  remade = record { spell = whole; read = as_made make c; Fits = Q }

  pub remade_codec : IsCodec remade
  remade_codec = record {
    takes = λ bytes b rest ok e.
        let a = bind_ok (c.read bytes) (λ a. Ok (make a.0, a.1)) (b, rest) e in
        let p = is_c.takes bytes a.0.0 a.0.1 ok a.1 in
        let as_spelt : c.spell a.0.0 ≡ whole (make a.0.0) = ap c.spell (sym (undo a.0.0 p.1)) ∙ sym (spelt (make a.0.0)) in
        subst (Spelt remade bytes) (ok_is (make a.0.0, a.0.1) (b, rest) a.2) (p.0 ∙ ap (λ (t : List ℕ). t ++ a.0.1) as_spelt, fits a.0.0 p.1, p.2);
    again = λ b rest h held.
        let p = unfits b h in
        ap (λ (t : List ℕ). as_made make c (t ++ rest)) (spelt b)
        ∙ ap (λ (r : Result (A × List ℕ) ℕ). r >>= λ a. Ok (make a.0, a.1)) (is_c.again (parts b) rest p.0 (subst (λ (t : List ℕ). IsHeld (t ++ rest)) (spelt b) held))
        ∙ ap (λ (x : B). Ok (x, rest)) p.1;
    some = λ b. subst (λ (t : List ℕ). 1 ≤ length t) (sym (spelt b)) (is_c.some (parts b));
  }

-- ---- codes, one after the other

pub record AreCodes {A : Type 0} (code : A → ℕ) (Fits : A → Type 0) (decode : ℕ → Option A) : Type 0 where
  pub back : (b : ℕ) (a : A) → decode b ≡ Some a → (code a ≡ b) × Fits a

pub picked : {A : Type 0} (t : Bool) (x y : A) → cond t (Some x) None ≡ Some y → (t ≡ true) × (x ≡ y)
picked true x y e = (refl, same_Some x y e)
picked false x y e = absurd (none-some y e)

module _ {A : Type 0} (code : A → ℕ) (Fits : A → Type 0) where
  pub no_codes : AreCodes code Fits (λ _. None)
  no_codes = record { back = λ b a e. absurd (none-some a e) }

  pub code_case : (k : ℕ) (x : A) (others : ℕ → Option A) → code x ≡ k → Fits x → AreCodes code Fits others → AreCodes code Fits (λ b. cond (b == k) (Some x) (others b))
  code_case k x others is fits are = record {
    back = λ b a e. elim (split (b == k) (Some x) (others b) (Some a) e) [
      | inl this ↦ subst (λ (y : A). (code y ≡ b) × Fits y) (same_Some x a this.1) (is ∙ sym (eqb-true b k this.0), fits)
      | inr other ↦ are.back b a other.1
    ];
  }

-- ---- bytes that stand for values

module _ {A : Type 0} (code : A → ℕ) (decode : ℕ → Option A) (Fits : A → Type 0) (back : AreCodes code Fits decode) where
  decoded : (b : ℕ) (bytes : List ℕ) (y : A × List ℕ) → IsBytes (b ∷ bytes) → (o : Option A) → decode b ≡ o →
      elim o as (λ _. Result (A × List ℕ) ℕ) [ Some a ↦ Ok (a, bytes) | None ↦ Err (length bytes + 1) ] ≡ Ok y → Spelt (coded code decode Fits) (b ∷ bytes) y
  decoded b bytes y ok None at none = absurd (err_is_ok _ y none)
  decoded b bytes y ok (Some a) at some =
      let p = back.back b a at in
      subst (Spelt (coded code decode Fits) (b ∷ bytes)) (ok_is (a, bytes) y some) (ap (λ (n : ℕ). n ∷ bytes) (sym p.0), p.1, IsBytes-tail b bytes ok)

  coded_takes : (bytes : List ℕ) (y : A × List ℕ) → IsBytes bytes → (coded code decode Fits).read bytes ≡ Ok y → Spelt (coded code decode Fits) bytes y
  coded_takes [] y ok e = absurd (err_is_ok _ y e)
  coded_takes (b ∷ bytes) y ok e = decoded b bytes y ok (decode b) refl e

pub coded_codec : {A : Type 0} (code : A → ℕ) (decode : ℕ → Option A) (Fits : A → Type 0) → AreCodes code Fits decode →
    ((a : A) → Fits a → decode (code a) ≡ Some a) → IsCodec (coded code decode Fits)
coded_codec code decode Fits back forth = record {
  takes = λ bytes x rest ok e. coded_takes code decode Fits back bytes (x, rest) ok e;
  again = λ x rest fits _. rw (forth x fits) refl;
  some = λ x. omega arith;
}

-- a byte that passes a test stands for itself
pub tested_codec : (test : ℕ → Bool) (Word : ℕ → Type 0) → ((n : ℕ) → test n ≡ true → Word n) → ((n : ℕ) → Word n → test n ≡ true) →
    IsCodec (coded (λ n. n) (λ b. cond (test b) (Some b) None) Word)
tested_codec test Word word back = coded_codec (λ n. n) (λ b. cond (test b) (Some b) None) Word
    (record {
      back = λ b a e. let p = picked (test b) b a e in (sym p.1, word a (subst (λ (n : ℕ). test n ≡ true) p.1 p.0));
    })
    (λ a fits. rw (back a fits) refl)

-- ---- cases by a byte

-- what cases take is spelt with the byte in front
pub record AreCases {A : Type 0} (spell : A → List ℕ) (Fits : A → Type 0) (cases : Cases A) : Type 0 where
  pub takes : (b left : ℕ) (bytes : List ℕ) (y : A × List ℕ) → IsBytes bytes → cases b left bytes ≡ Ok y → (b ∷ bytes ≡ spell y.0 ++ y.1) × Fits y.0 × IsBytes y.1

pub no_cases : {A : Type 0} (spell : A → List ℕ) (Fits : A → Type 0) → AreCases spell Fits no_case
no_cases spell Fits = record { takes = λ b left bytes y ok e. absurd (err_is_ok left y e) }

module _ {A : Type 0} (spell : A → List ℕ) (Fits : A → Type 0) where
  -- a case with fields
  pub case_of : {P : Type 0} (k : ℕ) (c : Codec P) (make : P → A) (others : Cases A) → IsCodec c → ((p : P) → spell (make p) ≡ k ∷ c.spell p) → ((p : P) → c.Fits p → Fits (make p)) →
      AreCases spell Fits others → AreCases spell Fits (case k (as_made make c) others)
  case_of k c make others is_c spelt fits are = record {
    takes = λ b left bytes y ok e. elim (split (b == k) _ _ _ e) [
      | inl this ↦
          let a = bind_ok (c.read bytes) (λ x. Ok (make x.0, x.1)) y this.1 in
          let p = is_c.takes bytes a.0.0 a.0.1 ok a.1 in
          subst (λ (z : A × List ℕ). (b ∷ bytes ≡ spell z.0 ++ z.1) × Fits z.0 × IsBytes z.1) (ok_is (make a.0.0, a.0.1) y a.2)
          (ap₂ ◌∷◌ (eqb-true b k this.0) p.0 ∙ ap (λ (t : List ℕ). t ++ a.0.1) (sym (spelt a.0.0)), fits a.0.0 p.1, p.2)
      | inr other ↦ are.takes b left bytes y ok other.1
    ];
  }

  -- a case without fields
  pub case_alone : (k : ℕ) (x : A) (others : Cases A) → spell x ≡ k ∷ [] → Fits x → AreCases spell Fits others → AreCases spell Fits (case k (λ bytes. Ok (x, bytes)) others)
  case_alone k x others spelt fits are = record {
    takes = λ b left bytes y ok e. elim (split (b == k) _ _ _ e) [
      | inl this ↦
          subst (λ (z : A × List ℕ). (b ∷ bytes ≡ spell z.0 ++ z.1) × Fits z.0 × IsBytes z.1) (ok_is (x, bytes) y this.1)
          (ap (λ (n : ℕ). n ∷ bytes) (eqb-true b k this.0) ∙ ap (λ (t : List ℕ). t ++ bytes) (sym spelt), fits, ok)
      | inr other ↦ are.takes b left bytes y ok other.1
    ];
  }

  pub field_takes : (cases : Cases A) → AreCases spell Fits cases → (bytes : List ℕ) (x : A) (rest : List ℕ) → IsBytes bytes → field cases bytes ≡ Ok (x, rest) →
      (bytes ≡ spell x ++ rest) × Fits x × IsBytes rest
  field_takes cases are [] x rest ok e = absurd (err_is_ok _ (x, rest) e)
  field_takes cases are (b ∷ bytes) x rest ok e = are.takes b (length bytes + 1) bytes (x, rest) (IsBytes-tail b bytes ok) e

-- a case is read again
pub case_again : {P A : Type 0} (k : ℕ) (c : Codec P) (make : P → A) → IsCodec c → (p : P) (rest : List ℕ) → c.Fits p → IsHeld ((k ∷ c.spell p) ++ rest) →
    as_made make c (c.spell p ++ rest) ≡ Ok (make p, rest)
case_again k c make is_c p rest fits held =
    ap (λ (r : Result (_ × List ℕ) ℕ). r >>= λ x. Ok (make x.0, x.1)) (is_c.again p rest fits (held_behind (k ∷ []) (c.spell p ++ rest) held))

-- an option of a codec
pub option_codec : {A : Type 0} (c : Codec A) → IsCodec c → IsCodec (option_of c)
option_codec c is_c = record {
  takes = field_takes (option_spelling c) (IsOption c) _
      (case_alone (option_spelling c) (IsOption c) 0 None _ refl tt (case_of (option_spelling c) (IsOption c) 1 c (λ x. Some x) _ is_c (λ p. refl) (λ p h. h) (no_cases (option_spelling c) (IsOption c))));
  again = λ x rest. elim x as (λ x. IsOption c x → IsHeld (option_spelling c x ++ rest) → (option_of c).read (option_spelling c x ++ rest) ≡ Ok (x, rest)) [
    | None ↦ λ h _. refl
    | Some p ↦ λ h held. case_again 1 c (λ x. Some x) is_c p rest h held
  ];
  some = λ x. elim x as (λ x. 1 ≤ length (option_spelling c x)) [ None ↦ omega arith | Some p ↦ omega arith ];
}
