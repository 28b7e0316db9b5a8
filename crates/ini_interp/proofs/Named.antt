-- Lists under names: what a value that is set, a place and a name have to do with one another.
use Rattle.std.proofs.Common.{◌≡◌, ℕ, zero, suc, ◌+◌, not, Bool, true, false, cond, List, [], ◌∷◌, ◌++◌, map, None, Some, option_map, unwrap_or, refl, sym, ap, ◌∙◌}
use Rattle.std.proofs.Math.Numerals.{one-add}
use Rattle.std.proofs.lemmas.Option.{none-some}
use Rattle.std.proofs.lemmas.Slice.Eq.{bytes_eq-Decides}
use Rattle.std.specs.Str.{bytes_eq}
use Rattle.ini_interp.specs.Kept.{place_of, at_place, changed_at}
use Rattle.ini_interp.specs.Sections.{value_of, with_value, without}

-- a name is its own
pub own_name : (name : List ℕ) → bytes_eq name name ≡ true
own_name name = (bytes_eq-Decides name name).1 refl

-- what a `Some` holds
pub some_value : {V : Type 0} (v w : V) → Some v ≡ Some w → v ≡ w
some_value v w same = ap (λ o. unwrap_or o v) same

module _ {V : Type 0} where
  -- what was set is there
  pub value_of-with_value : (name : List ℕ) (v : V) (es : List (List ℕ × V)) → value_of name (with_value name v es) ≡ Some v
  value_of-with_value name v [] = ap (λ b. cond b (Some v) None) (own_name name)
  value_of-with_value name v (e ∷ es) = by (bytes_eq name e.0) refl (value_of-with_value name v es)
    where
      by : (b : Bool) → bytes_eq name e.0 ≡ b → value_of name (with_value name v es) ≡ Some v → value_of name (cond b ((e.0, v) ∷ es) (e ∷ with_value name v es)) ≡ Some v
      by true is rest = ap (λ b. cond b (Some v) (value_of name es)) is
      by false is rest = ap (λ b. cond b (Some e.1) (value_of name (with_value name v es))) is ∙ rest

  -- what is set again is set once
  pub with_value-again : (name : List ℕ) (v w : V) (es : List (List ℕ × V)) → with_value name w (with_value name v es) ≡ with_value name w es
  with_value-again name v w [] = ap (λ b. cond b ((name, w) ∷ []) ((name, v) ∷ (name, w) ∷ [])) (own_name name)
  with_value-again name v w (e ∷ es) = by (bytes_eq name e.0) refl (with_value-again name v w es)
    where
      by : (b : Bool) → bytes_eq name e.0 ≡ b → with_value name w (with_value name v es) ≡ with_value name w es →
          with_value name w (cond b ((e.0, v) ∷ es) (e ∷ with_value name v es)) ≡ cond b ((e.0, w) ∷ es) (e ∷ with_value name w es)
      by true is rest = ap (λ b. cond b ((e.0, w) ∷ es) ((e.0, v) ∷ with_value name w es)) is
      by false is rest = ap (λ b. cond b ((e.0, w) ∷ with_value name v es) (e ∷ with_value name w (with_value name v es))) is ∙ ap (λ l. e ∷ l) rest

  -- a value that is set to what it is
  pub with_value-same : (name : List ℕ) (v : V) (es : List (List ℕ × V)) → value_of name es ≡ Some v → with_value name v es ≡ es
  with_value-same name v [] there = absurd (none-some _ there)
  with_value-same name v (e ∷ es) there = by (bytes_eq name e.0) there (with_value-same name v es)
    where
      by : (b : Bool) → cond b (Some e.1) (value_of name es) ≡ Some v → (value_of name es ≡ Some v → with_value name v es ≡ es) →
          cond b ((e.0, v) ∷ es) (e ∷ with_value name v es) ≡ e ∷ es
      by true is rest = ap (λ w. (e.0, w) ∷ es) (sym (some_value e.1 v is))
      by false is rest = ap (λ l. e ∷ l) (rest is)

  -- a value that is set keeps its place
  pub place_of-with_value : (name : List ℕ) (v : V) (es : List (List ℕ × V)) → place_of name (with_value name v es) ≡ place_of name es
  place_of-with_value name v [] = ap (λ b. cond (not b) (1 + 0) 0) (own_name name)
  place_of-with_value name v (e ∷ es) = by (bytes_eq name e.0) refl (place_of-with_value name v es)
    where
      by : (b : Bool) → bytes_eq name e.0 ≡ b → place_of name (with_value name v es) ≡ place_of name es → place_of name (cond b ((e.0, v) ∷ es) (e ∷ with_value name v es)) ≡ cond (not b) (1 + place_of name es) 0
      by true is rest = ap (λ b. cond (not b) (1 + place_of name es) 0) is
      by false is rest = ap (λ b. cond (not b) (1 + place_of name (with_value name v es)) 0) is ∙ ap (λ n. 1 + n) rest

  -- a new value goes last
  pub with_value-new : (name : List ℕ) (v : V) (es : List (List ℕ × V)) → value_of name es ≡ None → with_value name v es ≡ es ++ (name, v) ∷ []
  with_value-new name v [] none = refl
  with_value-new name v (e ∷ es) none = by (bytes_eq name e.0) none (with_value-new name v es)
    where
      by : (b : Bool) → cond b (Some e.1) (value_of name es) ≡ None → (value_of name es ≡ None → with_value name v es ≡ es ++ (name, v) ∷ []) →
          cond b ((e.0, v) ∷ es) (e ∷ with_value name v es) ≡ e ∷ (es ++ (name, v) ∷ [])
      by true is rest = absurd (none-some _ (sym is))
      by false is rest = ap (λ l. e ∷ l) (rest is)

  -- what is not there is not taken out
  pub without-none : (name : List ℕ) (es : List (List ℕ × V)) → value_of name es ≡ None → without name es ≡ es
  without-none name [] none = refl
  without-none name (e ∷ es) none = by (bytes_eq name e.0) none (without-none name es)
    where
      by : (b : Bool) → cond b (Some e.1) (value_of name es) ≡ None → (value_of name es ≡ None → without name es ≡ es) →
          cond (not b) (e ∷ without name es) (without name es) ≡ e ∷ es
      by true is rest = absurd (none-some _ (sym is))
      by false is rest = ap (λ l. e ∷ l) (rest is)

module _ {V W : Type 0} (f : V → W) where
  -- each value changed, under its name
  abbrev pub valued : List (List ℕ × V) → List (List ℕ × W)
  valued = map (λ e. (e.0, f e.1))

  pub valued-with_value : (name : List ℕ) (v : V) (es : List (List ℕ × V)) → valued (with_value name v es) ≡ with_value name (f v) (valued es)
  valued-with_value name v [] = refl
  valued-with_value name v (e ∷ es) = by (bytes_eq name e.0) (valued-with_value name v es)
    where
      by : (b : Bool) → valued (with_value name v es) ≡ with_value name (f v) (valued es) → valued (cond b ((e.0, v) ∷ es) (e ∷ with_value name v es)) ≡ cond b ((e.0, f v) ∷ valued es) ((e.0, f e.1) ∷ with_value name (f v) (valued es))
      by true rest = refl
      by false rest = ap (λ l. (e.0, f e.1) ∷ l) rest

  pub valued-without : (name : List ℕ) (es : List (List ℕ × V)) → valued (without name es) ≡ without name (valued es)
  valued-without name [] = refl
  valued-without name (e ∷ es) = by (bytes_eq name e.0) (valued-without name es)
    where
      by : (b : Bool) → valued (without name es) ≡ without name (valued es) →
          valued (cond (not b) (e ∷ without name es) (without name es)) ≡ cond (not b) ((e.0, f e.1) ∷ without name (valued es)) (without name (valued es))
      by true rest = rest
      by false rest = ap (λ l. (e.0, f e.1) ∷ l) rest

  pub value_of-valued : (name : List ℕ) (es : List (List ℕ × V)) → value_of name (valued es) ≡ option_map f (value_of name es)
  value_of-valued name [] = refl
  value_of-valued name (e ∷ es) = by (bytes_eq name e.0) (value_of-valued name es)
    where
      by : (b : Bool) → value_of name (valued es) ≡ option_map f (value_of name es) → cond b (Some (f e.1)) (value_of name (valued es)) ≡ option_map f (cond b (Some e.1) (value_of name es))
      by true rest = refl
      by false rest = rest

  pub place_of-valued : (name : List ℕ) (es : List (List ℕ × V)) → place_of name (valued es) ≡ place_of name es
  place_of-valued name [] = refl
  place_of-valued name (e ∷ es) = ap (λ n. cond (not (bytes_eq name e.0)) (1 + n) 0) (place_of-valued name es)

-- a value that is changed at the place of its name
pub changed_at-place_of : {V : Type 0} (f : V → V) (name : List ℕ) (v : V) (es : List (List ℕ × V)) → value_of name es ≡ Some v →
    changed_at f es (place_of name es) ≡ with_value name (f v) es
changed_at-place_of f name v [] there = absurd (none-some _ there)
changed_at-place_of f name v (e ∷ es) there = by (bytes_eq name e.0) there (changed_at-place_of f name v es)
  where
    by : (b : Bool) → cond b (Some e.1) (value_of name es) ≡ Some v →
        (value_of name es ≡ Some v → changed_at f es (place_of name es) ≡ with_value name (f v) es) →
        changed_at f (e ∷ es) (cond (not b) (1 + place_of name es) 0) ≡ cond b ((e.0, f v) ∷ es) (e ∷ with_value name (f v) es)
    by true is rest = ap (λ w. (e.0, f w) ∷ es) (some_value e.1 v is)
    by false is rest = rw one-add (ap (λ l. e ∷ l) (rest is))

-- the value at the place of a name
pub at_place_of : {V : Type 0} (name : List ℕ) (es : List (List ℕ × V)) → at_place es (Some (place_of name es)) ≡ value_of name es
at_place_of name [] = refl
at_place_of name (e ∷ es) = by (bytes_eq name e.0) (at_place_of name es)
  where
    by : (b : Bool) → at_place es (Some (place_of name es)) ≡ value_of name es →
        at_place (e ∷ es) (Some (cond (not b) (1 + place_of name es) 0)) ≡ cond b (Some e.1) (value_of name es)
    by true rest = refl
    by false rest = rw one-add rest

-- a change at a place moves nothing
pub place_of-changed_at : {V : Type 0} (f : V → V) (name : List ℕ) (es : List (List ℕ × V)) (place : ℕ) → place_of name (changed_at f es place) ≡ place_of name es
place_of-changed_at f name [] place = refl
place_of-changed_at f name (e ∷ es) zero = refl
place_of-changed_at f name (e ∷ es) (suc place) = ap (λ n. cond (not (bytes_eq name e.0)) (1 + n) 0) (place_of-changed_at f name es place)
