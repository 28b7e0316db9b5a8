-- Frames behind their lengths: what a length says, how much is missing, and which bytes a whole frame is.
use Rattle.std.proofs.Common.{◌≡◌, ℕ, zero, suc, ◌+◌, ◌-◌, ◌<◌, ◌≤◌, ◌^◌, Bool, true, false, List, [], ◌∷◌, ◌++◌, length, drop, get_or, Option, Some, None, refl, sym, ap, ◌∙◌, subst, arith, lit<, inl, inr, IfSome}
use Rattle.std.specs.Int.{w32, from_be_bytes}
use Rattle.std.proofs.lemmas.Bool.{cases_lt, lt-ltb, le-ltb}
use Rattle.std.proofs.lemmas.List.{length-append, length-drop}
use Rattle.std.proofs.lemmas.Nat.{be_bytes_4, from_be_bytes-to_be_bytes_4}
use Rattle.client_frames.specs.Comes.{IsPart, IsWithin, missing, missing_of, said_length, wanted_of}
use Rattle.client_frames.specs.Frames.{four_bytes, framed, most_request}

abbrev pub AreBytes : List ℕ → Type 0
AreBytes bytes = (i : ℕ) → get_or bytes i 0 < 256

-- ---- the length that came

pub said_none : (came : List ℕ) → length came < 4 → said_length came ≡ None
unfolding said_length
said_none came few = rw (lt-ltb (length came) 4 few) refl

pub said_some : (came : List ℕ) → 4 ≤ length came → said_length came ≡ Some (from_be_bytes w32 came)
unfolding said_length
said_some came long = rw (le-ltb (length came) 4 long) refl

-- where no length has come there are fewer than four bytes
pub none_said : (came : List ℕ) → said_length came ≡ None → length came < 4
none_said came none =
    elim (cases_lt (length came) 4) [
      | inl few ↦ few
      | inr long ↦ absurd (let some : None ≡ Some (from_be_bytes w32 came) = sym none ∙ said_some came long in cc)
    ]

pub record Says (came : List ℕ) (n : ℕ) : Type 0 where
  pub long : 4 ≤ length came
  pub is : n ≡ from_be_bytes w32 came

-- where a length has come it is that of the first four bytes
pub some_said : (came : List ℕ) (n : ℕ) → said_length came ≡ Some n → Says came n
some_said came n said =
    elim (cases_lt (length came) 4) [
      | inl few ↦ absurd (let none : Some n ≡ None = sym said ∙ said_none came few in cc)
      | inr long ↦ record { long = long; is = let some : Some n ≡ Some (from_be_bytes w32 came) = sym said ∙ said_some came long in cc }
    ]

-- a length fits four bytes
pub said_below : (came : List ℕ) (n : ℕ) → AreBytes came → said_length came ≡ Some n → n < 2 ^ 32
said_below came n fits said = omega (arith, (some_said came n said).is, fits 0, fits 1, fits 2, fits 3)

-- more bytes leave the length as it is
number_front : (came more : List ℕ) → 4 ≤ length came → from_be_bytes w32 (came ++ more) ≡ from_be_bytes w32 came
number_front [] more long = absurd (omega arith)
number_front (a ∷ []) more long = absurd (omega arith)
number_front (a ∷ b ∷ []) more long = absurd (omega arith)
number_front (a ∷ b ∷ c ∷ []) more long = absurd (omega arith)
number_front (a ∷ b ∷ c ∷ d ∷ came) more long = refl

pub said_front : (came more : List ℕ) (n : ℕ) → said_length came ≡ Some n → said_length (came ++ more) ≡ Some n
said_front came more n said =
    let says = some_said came n said in
    said_some (came ++ more) (omega (arith, says.long, length-append came more)) ∙ ap (λ (k : ℕ). Some k) (number_front came more says.long ∙ sym says.is)

-- ---- what is missing

pub missing_none : (came : List ℕ) → said_length came ≡ None → missing came ≡ 4 - length came
unfolding missing
missing_none came none = ap (missing_of came) none

pub missing_some : (came : List ℕ) (n : ℕ) → said_length came ≡ Some n → missing came ≡ 4 + n - length came
unfolding missing
missing_some came n said = ap (missing_of came) said

-- the two cases of what has come
pub by_length : {P : Type 0} (came : List ℕ) → (said_length came ≡ None → P) → ((n : ℕ) → said_length came ≡ Some n → P) → P
by_length {P} came none some =
    elim (said_length came) as (λ o. said_length came ≡ o → P) [
      | None ↦ none
      | Some n ↦ some n
    ] refl

pub within_none : (came : List ℕ) → said_length came ≡ None → IsWithin came
within_none came none = subst (λ (o : Option ℕ). IfSome o (λ n. length came ≤ 4 + n)) (sym none) tt

pub within_some : (came : List ℕ) (n : ℕ) → said_length came ≡ Some n → length came ≤ 4 + n → IsWithin came
within_some came n said within = subst (λ (o : Option ℕ). IfSome o (λ n. length came ≤ 4 + n)) (sym said) within

pub some_within : (came : List ℕ) (n : ℕ) → said_length came ≡ Some n → IsWithin came → length came ≤ 4 + n
some_within came n said within = subst (λ (o : Option ℕ). IfSome o (λ n. length came ≤ 4 + n)) said within

-- where something is missing no more came than the frame has
pub within_missing : (came : List ℕ) → 1 ≤ missing came → IsWithin came
within_missing came some =
    by_length came (λ none. within_none came none) (λ n said. within_some came n said (omega (arith, missing_some came n said)))

-- nor where no more came than was missing
pub within_fed : (came bytes : List ℕ) → 1 ≤ missing came → length bytes ≤ missing came → IsWithin (came ++ bytes)
within_fed came bytes some few =
    by_length came
    (λ none. by_length (came ++ bytes) (λ more. within_none (came ++ bytes) more)
    (λ n said. within_some (came ++ bytes) n said (omega (arith, length-append came bytes, missing_none came none, none_said came none))))
    (λ n said. within_some (came ++ bytes) n (said_front came bytes n said) (omega (arith, length-append came bytes, missing_some came n said)))

-- what is fed to a connection that wants it
pub record IsFed (came bytes : List ℕ) : Type 0 where
  pub some : 1 ≤ missing came
  pub few : length bytes ≤ missing came

pub fed : (came bytes : List ℕ) (refused : Bool) → 1 ≤ length bytes → length bytes ≤ wanted_of came refused → IsFed came bytes
fed came bytes true some few = absurd (omega arith)
fed came bytes false some few = record { some = omega arith; few = few }

pub record IsWanting (came : List ℕ) (most : ℕ) : Type 0 where
  pub some : 1 ≤ missing came
  pub few : missing came ≤ most

-- a frame that is not whole has some bytes missing, and not more than it may have
pub part_wants : (most : ℕ) (came : List ℕ) → 4 ≤ most → IsPart most came → IsWanting came most
part_wants most came four part =
    by_length came
    (λ none. record { some = omega (arith, missing_none came none, none_said came none); few = omega (arith, missing_none came none) })
    (λ n said.
    let bounds = subst (λ (o : Option ℕ). IfSome o (λ n. (1 ≤ n) × (n ≤ most) × (length came < 4 + n))) said part in
    record {
      some = omega (arith, missing_some came n said, bounds.2);
      few = omega (arith, missing_some came n said, bounds.1, (some_said came n said).long);
    })

pub part_none : (most : ℕ) (came : List ℕ) → said_length came ≡ None → IsPart most came
part_none most came none = subst (λ (o : Option ℕ). IfSome o (λ n. (1 ≤ n) × (n ≤ most) × (length came < 4 + n))) (sym none) tt

pub part_some : (most : ℕ) (came : List ℕ) (n : ℕ) → said_length came ≡ Some n → 1 ≤ n → n ≤ most → length came < 4 + n → IsPart most came
part_some most came n said some few less = subst (λ (o : Option ℕ). IfSome o (λ n. (1 ≤ n) × (n ≤ most) × (length came < 4 + n))) (sym said) (some, few, less)

pub wants_none : IsWanting [] most_request
wants_none = record {
  some = omega (arith, missing_none [] (said_none [] (lit< tt)));
  few = omega (arith, missing_none [] (said_none [] (lit< tt)));
}

-- ---- a whole frame

-- so many bytes behind a length that says so are a frame
pub record IsFramed (came : List ℕ) (n : ℕ) : Type 0 where
  pub is : came ≡ framed (drop 4 came)
  pub len : length (drop 4 came) ≡ n

four_below : (a b c d : ℕ) → a < 256 → b < 256 → c < 256 → d < 256 → AreBytes (a ∷ b ∷ c ∷ d ∷ [])
four_below a b c d at_0 at_1 at_2 at_3 zero = at_0
four_below a b c d at_0 at_1 at_2 at_3 (suc zero) = at_1
four_below a b c d at_0 at_1 at_2 at_3 (suc (suc zero)) = at_2
four_below a b c d at_0 at_1 at_2 at_3 (suc (suc (suc zero))) = at_3
four_below a b c d at_0 at_1 at_2 at_3 (suc (suc (suc (suc i)))) = lit< tt

number_back : (came : List ℕ) → 4 ≤ length came → AreBytes came → (n : ℕ) → n ≡ from_be_bytes w32 came → came ≡ four_bytes n ++ drop 4 came
unfolding four_bytes
number_back [] long fits n is = absurd (omega arith)
number_back (a ∷ []) long fits n is = absurd (omega arith)
number_back (a ∷ b ∷ []) long fits n is = absurd (omega arith)
number_back (a ∷ b ∷ c ∷ []) long fits n is = absurd (omega arith)
number_back (a ∷ b ∷ c ∷ d ∷ came) long fits n is =
    ap (λ (front : List ℕ). front ++ came) (sym (be_bytes_4 (a ∷ b ∷ c ∷ d ∷ []) n refl (four_below a b c d (fits 0) (fits 1) (fits 2) (fits 3)) is))

pub whole_is_framed : (came : List ℕ) (n : ℕ) → AreBytes came → said_length came ≡ Some n → length came ≡ 4 + n → IsFramed came n
unfolding framed
whole_is_framed came n fits said whole =
    let says = some_said came n said in
    let len : length (drop 4 came) ≡ n = omega (arith, length-drop 4 came) in
    record { is = number_back came says.long fits (length (drop 4 came)) (len ∙ says.is); len = len }

-- the frame of bytes says how many they are
pub said_framed : (body : List ℕ) → length body < 2 ^ 32 → said_length (framed body) ≡ Some (length body)
unfolding framed four_bytes
said_framed body fits =
    said_some (framed body) (omega (arith, length-append (four_bytes (length body)) body)) ∙ ap (λ (k : ℕ). Some k) (from_be_bytes-to_be_bytes_4 (length body) fits)

pub drop_framed : (body : List ℕ) → drop 4 (framed body) ≡ body
unfolding framed four_bytes
drop_framed body = refl

pub length-framed : (body : List ℕ) → length (framed body) ≡ 4 + length body
unfolding framed four_bytes
length-framed body = omega (arith, length-append (four_bytes (length body)) body)
