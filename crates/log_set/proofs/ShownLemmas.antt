-- What a failure keeps of its line, and whether a command has the tag.
use Rattle.std.proofs.Common.{ℕ, zero, suc, ◌≡◌, ◌<◌, ◌≤◌, ◌+◌, ◌-◌, ◌||◌, inl, inr, Bool, true, false, List, [], ◌∷◌, length, take, drop, refl, sym, ap, ◌∙◌, subst, arith, rules, length-drop}
use Rattle.std.specs.Str.{IsUtf8}
use Rattle.std.specs.Prelude.{nat_le, nat_lt, slice_index, IsCharBoundary}
use Rattle.std.proofs.lemmas.Bool.{cases_Bool, cases_lt, cases_order, ltb-false, leb-false, leb-true, ltb-true, le-leb}
use Rattle.std.proofs.lemmas.List.{take_all}
use Rattle.f2b_base.specs.Limits.{kept_line_bytes}
use Rattle.f2b_base.specs.Lines.{IsKeptOf}
use Rattle.f2b_model.specs.Storable.{IsShortText}
use Rattle.log_set.specs.Shown.{begins_character, begins_with_tag, last_start, kept_of, has_tag}

-- a place within the text where a character begins is a boundary, and the other way round
boundary_from : (text : List ℕ) (n : ℕ) → n ≤ length text → begins_character (slice_index text n) ≡ true → IsCharBoundary text n
boundary_from text n within begins = (within, λ less high. grind arith)

begins_from : (text : List ℕ) (n : ℕ) → n < length text → IsCharBoundary text n → begins_character (slice_index text n) ≡ false → ⊥
begins_from text n less boundary fails = elim (cases_lt (slice_index text n) 128) [
  | inl low ↦ grind arith
  | inr high ↦ let more : 192 ≤ slice_index text n = boundary.1 less high in grind arith
]

-- the last boundary up to a place is where the last character begins
last_start_is : (text : List ℕ) (n m : ℕ) → m ≤ n → n < length text → IsCharBoundary text m → ((k : ℕ) → m < k → k ≤ n → ¬ IsCharBoundary text k) → last_start text n ≡ m
last_start_is text zero m most less boundary none = omega arith
last_start_is text (suc n) m most less boundary none = elim (cases_Bool (begins_character (slice_index text (suc n)))) [
  | inl passes ↦ elim (cases_lt m (suc n)) [
    | inl before ↦ absurd (none (suc n) before (omega arith) (boundary_from text (suc n) (omega arith) passes))
    | inr behind ↦ rw passes (omega arith)
  ]
  | inr fails ↦ elim (cases_lt m (suc n)) [
    | inl before ↦ rw fails (last_start_is text n m (omega arith) (omega arith) boundary (λ k more within. none k more (omega arith)))
    | inr behind ↦
        let same : m ≡ suc n = omega arith in
        absurd (begins_from text (suc n) less (subst (IsCharBoundary text) same boundary) fails)
  ]
]

-- what is kept of a line is the definition's
pub kept_is : (line kept : List ℕ) → IsKeptOf line kept → kept ≡ kept_of line
kept_is line kept is = elim (cases_Bool (nat_le (length line) kept_line_bytes)) [
  | inl short ↦
      let within : length kept ≤ length line = is.whole.0 in
      let all : length line ≤ length kept = elim (cases_lt (length kept) (length line)) [
        | inl less ↦ absurd (is.longest (length line) less (leb-true _ _ short) (omega arith, λ past high. omega arith))
        | inr more ↦ more
      ] in
      rw short (is.beginning ∙ take_all (length kept) line all)
  | inr long ↦
      rw long (is.beginning ∙ ap (λ n. take n line) (sym (last_start_is line kept_line_bytes (length kept) is.short (leb-false _ _ long) is.whole is.longest)))
]

-- and it is a short text
pub kept_short : (line kept : List ℕ) → IsKeptOf line kept → IsUtf8 kept → IsShortText kept_line_bytes kept
kept_short line kept is text = (text, is.short)

pub none_short : (kept : List ℕ) → kept ≡ [] → IsShortText kept_line_bytes kept
none_short kept is = subst (IsShortText kept_line_bytes) (sym is) (search rules, omega arith)

-- the tag stands at a place, or behind it
pub tag_from : (bytes : List ℕ) (i : ℕ) → i < length bytes → has_tag (drop i bytes) ≡ (begins_with_tag (drop i bytes) || has_tag (drop (i + 1) bytes))
tag_from [] i less = absurd (omega arith)
tag_from (b ∷ bytes) zero less = refl
tag_from (b ∷ bytes) (suc i) less =
    let behind : suc i + 1 ≡ suc (i + 1) = omega arith in
    rw behind (tag_from bytes i (omega arith))

-- where the tag does not begin at a place, it stands behind it or nowhere
pub tag_later : (bytes : List ℕ) (i : ℕ) → i < length bytes → false ≡ begins_with_tag (take (length bytes - i) (drop i bytes))
    → has_tag (drop i bytes) ≡ has_tag (drop (i + 1) bytes)
tag_later bytes i less fails =
    let whole : take (length bytes - i) (drop i bytes) ≡ drop i bytes = take_all (length bytes - i) (drop i bytes) (grind (arith, length-drop)) in
    tag_from bytes i less ∙ ap (λ (b : Bool). b || has_tag (drop (i + 1) bytes)) (sym (fails ∙ ap begins_with_tag whole))
