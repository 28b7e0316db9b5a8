-- The client at a place among the others.
use Rattle.std.proofs.Common.{◌≡◌, inl, inr, ℕ, suc, zero, ◌+◌, ◌<◌, ◌≤◌, Bool, true, false, nat_lt, List, [], ◌∷◌, length, get_or, Option, Some, None, refl, sym, ap, ◌∙◌, subst, IfSome, arith}
use Rattle.std.specs.List.{insert, position, position_or_len}
use Rattle.std.specs.Prelude.{slice_get, slice_set}
use Rattle.std.specs.Option.{option_map_or}
use Rattle.std.proofs.lemmas.Bool.{cases_Bool, ltb-false}
use Rattle.std.proofs.lemmas.List.Edits.{length-insert}
use Rattle.std.proofs.lemmas.Option.{slice_get_read}
use Rattle.client_table.specs.Clients.{Client, changed_at, most_clients}

-- the client that was read at a place stands there
pub read_at : (cs : List Client) (place : ℕ) (c : Client) → place < length cs → c ≡ get_or cs place c → slice_get cs place ≡ Some c
read_at cs place c within is = slice_get_read cs (length cs) place c refl within is

-- what holds of the client at a place
pub map_at : {A : Type 0} (f : Client → A) (none : A) (cs : List Client) (place : ℕ) (c : Client) → slice_get cs place ≡ Some c
    → option_map_or f (slice_get cs place) none ≡ f c
map_at f none cs place c at = ap (λ (o : Option Client). option_map_or f o none) at

pub fact_at : (P : Client → Type 0) (cs : List Client) (place : ℕ) (c : Client) → slice_get cs place ≡ Some c → P c → IfSome (slice_get cs place) P
fact_at P cs place c at holds = subst (λ (o : Option Client). IfSome o P) (sym at) holds

-- what is put in its place is what it was changed to
pub set_changed : (change : Client → Client) (cs : List Client) (place : ℕ) (c next : Client) → slice_get cs place ≡ Some c → next ≡ change c
    → slice_set cs place next ≡ changed_at place change cs
set_changed change [] place c next at is = absurd (let none : None ≡ Some c = at in cc)
set_changed change (x ∷ cs) zero c next at is =
    let same : Some x ≡ Some c = at in
    let first : x ≡ c = cc in
    ap (λ (y : Client). y ∷ cs) (is ∙ ap change (sym first))
set_changed change (x ∷ cs) (suc place) c next at is = ap (λ (ys : List Client). x ∷ ys) (set_changed change cs place c next at is)

-- what is put back as it was changes nothing
pub set_same : (cs : List Client) (place : ℕ) (c next : Client) → slice_get cs place ≡ Some c → next ≡ c → slice_set cs place next ≡ cs
set_same [] place c next at is = refl
set_same (x ∷ cs) zero c next at is =
    let same : Some x ≡ Some c = at in
    let first : x ≡ c = cc in
    ap (λ (y : Client). y ∷ cs) (is ∙ sym first)
set_same (x ∷ cs) (suc place) c next at is = ap (λ (ys : List Client). x ∷ ys) (set_same cs place c next at is)

-- one that is changed leaves as many
pub length-changed_at : (place : ℕ) (change : Client → Client) (cs : List Client) → length (changed_at place change cs) ≡ length cs
length-changed_at place change [] = refl
length-changed_at zero change (c ∷ cs) = refl
length-changed_at (suc place) change (c ∷ cs) = ap suc (length-changed_at place change cs)

-- the client at that place is then the changed one
pub get-changed_at : (place : ℕ) (change : Client → Client) (cs : List Client) (c : Client) → slice_get cs place ≡ Some c
    → slice_get (changed_at place change cs) place ≡ Some (change c)
get-changed_at place change [] c at = absurd (let none : None ≡ Some c = at in cc)
get-changed_at zero change (x ∷ cs) c at =
    let same : Some x ≡ Some c = at in
    let first : x ≡ c = cc in
    ap (λ (y : Client). Some (change y)) first
get-changed_at (suc place) change (x ∷ cs) c at = get-changed_at place change cs c at

-- ---- the place of one more

-- the place that was found, or the end, is one of the list or its end
pub place_within : {A : Type 0} (p : A → Bool) (xs : List A) → position_or_len p xs ≤ length xs
place_within p [] = omega arith
place_within p (x ∷ xs) = elim (cases_Bool (p x)) [
  | inl here ↦ rw here (omega arith)
  | inr later ↦ rw later (omega (arith, place_within p xs))
]

-- where none was found it is the end
pub place_none : {A : Type 0} (p : A → Bool) (xs : List A) → position p xs ≡ None → length xs ≡ position_or_len p xs
place_none p xs none = elim (cases_Bool (nat_lt (position_or_len p xs) (length xs))) [
  | inl found ↦ absurd (let some : Some (position_or_len p xs) ≡ None = rw found at none in cc)
  | inr end ↦ omega (arith, ltb-false _ _ end, place_within p xs)
]

-- one more is as many as may be at most, where there was room
pub few_more : (cs : List Client) (place : ℕ) (c : Client) → place ≤ length cs → length cs < most_clients → length (insert cs place c) ≤ most_clients
few_more cs place c within room = omega (arith, length-insert cs place c within)
