-- A map under texts, seen as a list.
use Rattle.std.proofs.Common.{option_map, slice_get, zero, suc, ◌≡◌, ℕ, ◌+◌, not, Bool, true, false, cond, List, [], ◌∷◌, drop, None, Some, Option, String, string_bytes, refl, sym, ap, ◌∙◌}
use Rattle.std.proofs.lemmas.Option.{none-some}
use Rattle.std.specs.List.{position_or_len}
use Rattle.std.specs.Map.{lookup, set_value, remove_entry, keys_of, values_of}
use Rattle.std.specs.Str.{bytes_eq}
use Rattle.std.specs.String.{string_eq}
use Rattle.indexmap.specs.IndexMap.{insert_entry, set_value_at}
use Rattle.ini_interp.specs.Entries.{by_bytes}
use Rattle.ini_interp.specs.Kept.{place_of, at_place, changed_at, changed}
use Rattle.ini_interp.specs.Sections.{value_of, with_value, without}
use Rattle.ini_interp.proofs.Named.{some_value, without-none}

module _ {A V : Type 0} where
  pub value_is : (name : List ℕ) (es : List (String A × V)) → lookup (λ k. bytes_eq name (string_bytes k)) es ≡ value_of name (by_bytes es)
  value_is name [] = refl
  value_is name (e ∷ es) = ap (cond (bytes_eq name (string_bytes e.0)) (Some e.1)) (value_is name es)

  either : (b : Bool) (e : String A × V) (v : V) (es : List (String A × V)) (rest : List (String A × V)) (seen : List (List ℕ × V)) → by_bytes rest ≡ seen →
      by_bytes (cond b ((e.0, v) ∷ es) (e ∷ rest)) ≡ cond b ((string_bytes e.0, v) ∷ by_bytes es) ((string_bytes e.0, e.1) ∷ seen)
  either true e v es rest seen h = refl
  either false e v es rest seen h = ap (λ s. (string_bytes e.0, e.1) ∷ s) h

  pub inserted_is : (key : String A) (v : V) (es : List (String A × V)) → by_bytes (insert_entry string_eq es key v) ≡ with_value (string_bytes key) v (by_bytes es)
  inserted_is key v [] = refl
  inserted_is key v (e ∷ es) = either (string_eq key e.0) e v es _ _ (inserted_is key v es)

  -- a value written at a name that is there
  pub written_is : (name : List ℕ) (v x : V) (es : List (String A × V)) → value_of name (by_bytes es) ≡ Some x →
      by_bytes (set_value (λ k. bytes_eq name (string_bytes k)) es v) ≡ with_value name v (by_bytes es)
  written_is name v x [] h = absurd (none-some _ h)
  written_is name v x (e ∷ es) h = by (bytes_eq name (string_bytes e.0)) h (λ found. written_is name v x es found)
    where
      by : (b : Bool) → cond b (Some e.1) (value_of name (by_bytes es)) ≡ Some x →
          (value_of name (by_bytes es) ≡ Some x →
          by_bytes (set_value (λ k. bytes_eq name (string_bytes k)) es v) ≡ with_value name v (by_bytes es)) →
          by_bytes (cond b ((e.0, v) ∷ es) (e ∷ set_value (λ k. bytes_eq name (string_bytes k)) es v))
          ≡ cond b ((string_bytes e.0, v) ∷ by_bytes es) ((string_bytes e.0, e.1) ∷ with_value name v (by_bytes es))
      by true found rest = refl
      by false found rest = ap (λ s. (string_bytes e.0, e.1) ∷ s) (rest found)

  -- an entry that is taken out, where none of its name is left
  pub removed_is : (name : List ℕ) (es : List (String A × V)) → lookup (λ k. bytes_eq name (string_bytes k)) (remove_entry (λ k. bytes_eq name (string_bytes k)) es) ≡ None →
      by_bytes (remove_entry (λ k. bytes_eq name (string_bytes k)) es) ≡ without name (by_bytes es)
  removed_is name [] none = refl
  removed_is name (e ∷ es) none = by (bytes_eq name (string_bytes e.0)) refl none (removed_is name es)
    where
      left : List (String A × V)
      left = remove_entry (λ k. bytes_eq name (string_bytes k)) es

      by : (b : Bool) → bytes_eq name (string_bytes e.0) ≡ b → lookup (λ k. bytes_eq name (string_bytes k)) (cond b es (e ∷ left)) ≡ None →
          (lookup (λ k. bytes_eq name (string_bytes k)) left ≡ None → by_bytes left ≡ without name (by_bytes es)) →
          by_bytes (cond b es (e ∷ left)) ≡ cond (not b) ((string_bytes e.0, e.1) ∷ without name (by_bytes es)) (without name (by_bytes es))
      by true is none rest = sym (without-none name (by_bytes es) (sym (value_is name es) ∙ none))
      by false is none rest =
          ap (λ s. (string_bytes e.0, e.1) ∷ s)
          (rest (sym (ap (λ b. cond b (Some e.1) (lookup (λ k. bytes_eq name (string_bytes k)) left)) is) ∙ none))

  -- a value written at a place
  pub written_at : (f : V → V) (es : List (String A × V)) (place : ℕ) (v : V) → slice_get (values_of es) place ≡ Some v →
      by_bytes (set_value_at es place (f v)) ≡ changed_at f (by_bytes es) place
  written_at f [] place v there = refl
  written_at f (e ∷ es) zero v there = ap (λ w. (string_bytes e.0, f w) ∷ by_bytes es) (sym (some_value e.1 v there))
  written_at f (e ∷ es) (suc place) v there = ap (λ s. (string_bytes e.0, e.1) ∷ s) (written_at f es place v there)

  -- nothing stands at a place behind the end
  pub unchanged_at : (f : V → V) (es : List (String A × V)) (place : ℕ) → slice_get (values_of es) place ≡ None → changed_at f (by_bytes es) place ≡ by_bytes es
  unchanged_at f [] place none = refl
  unchanged_at f (e ∷ es) zero none = absurd (none-some _ (sym none))
  unchanged_at f (e ∷ es) (suc place) none = ap (λ s. (string_bytes e.0, e.1) ∷ s) (unchanged_at f es place none)

  -- the value at a place
  pub at_place_is : (es : List (String A × V)) (place : ℕ) → slice_get (values_of es) place ≡ at_place (by_bytes es) (Some place)
  at_place_is [] place = refl
  at_place_is (e ∷ es) zero = refl
  at_place_is (e ∷ es) (suc place) = at_place_is es place

  -- a value that was written at the place that an option names, and what is found there
  pub changed_is : (f : V → V) (es : List (String A × V)) (named : Option ℕ) (place : ℕ) (old new : V) → named ≡ Some place →
      Some old ≡ slice_get (values_of es) place → new ≡ f old → by_bytes (set_value_at es place new) ≡ changed f (by_bytes es) named
  changed_is f es named place old new is there same =
      ap (λ w. by_bytes (set_value_at es place w)) same ∙ written_at f es place old (sym there) ∙ ap (changed f (by_bytes es)) (sym is)

  pub unchanged_is : (f : V → V) (es : List (String A × V)) (named : Option ℕ) (place : ℕ) → named ≡ Some place →
      None ≡ slice_get (values_of es) place → by_bytes es ≡ changed f (by_bytes es) named
  unchanged_is f es named place is none = sym (unchanged_at f es place (sym none)) ∙ ap (changed f (by_bytes es)) (sym is)

  pub found_is : (es : List (String A × V)) (named : Option ℕ) (place : ℕ) (found : Option V) → named ≡ Some place →
      found ≡ slice_get (values_of es) place → found ≡ at_place (by_bytes es) named
  found_is es named place found is there = there ∙ at_place_is es place ∙ ap (at_place (by_bytes es)) (sym is)

  -- the place of a text
  pub insert_place_is : (key : String A) (es : List (String A × V)) → position_or_len (string_eq key) (keys_of es) ≡ place_of (string_bytes key) (by_bytes es)
  insert_place_is key [] = refl
  insert_place_is key (e ∷ es) = ap (λ n. cond (not (string_eq key e.0)) (1 + n) 0) (insert_place_is key es)

  pub place_is : (name : List ℕ) (es : List (String A × V)) → position_or_len (λ k. bytes_eq name (string_bytes k)) (keys_of es) ≡ place_of name (by_bytes es)
  place_is name [] = refl
  place_is name (e ∷ es) = ap (λ n. cond (not (bytes_eq name (string_bytes e.0))) (1 + n) 0) (place_is name es)

-- the names stand in the same places
pub name_at : {A V : Type 0} (es : List (String A × V)) (index : ℕ) →
    option_map (λ e. string_bytes e.0) (slice_get es index) ≡ option_map (λ e. e.0) (slice_get (by_bytes es) index)
name_at [] index = refl
name_at (e ∷ es) zero = refl
name_at (e ∷ es) (suc index) = name_at es index

-- What a search from a place on finds.
module _ {A V : Type 0} (name : List ℕ) where
  -- the value of the entry at the place, where it has the name
  pub found_at : (es : List (String A × V)) (place : ℕ) (e : String A × V) → slice_get es place ≡ Some e → bytes_eq name (string_bytes e.0) ≡ true →
      value_of name (by_bytes (drop place es)) ≡ Some e.1
  found_at [] place e there is = absurd (none-some _ there)
  found_at (x ∷ es) zero e there is =
      let same = some_value x e there in
      ap (λ (y : String A × V). cond (bytes_eq name (string_bytes y.0)) (Some y.1) (value_of name (by_bytes es))) same ∙ ap (λ b. cond b (Some e.1) (value_of name (by_bytes es))) is
  found_at (x ∷ es) (suc place) e there is = found_at es place e there is

  -- what is behind the place, where that entry has another name
  pub passed_at : (es : List (String A × V)) (place : ℕ) (e : String A × V) → slice_get es place ≡ Some e → bytes_eq name (string_bytes e.0) ≡ false →
      value_of name (by_bytes (drop place es)) ≡ value_of name (by_bytes (drop (suc place) es))
  passed_at [] place e there is = absurd (none-some _ there)
  passed_at (x ∷ es) zero e there is =
      let same = some_value x e there in
      ap (λ (y : String A × V). cond (bytes_eq name (string_bytes y.0)) (Some y.1) (value_of name (by_bytes es))) same ∙ ap (λ b. cond b (Some e.1) (value_of name (by_bytes es))) is
  passed_at (x ∷ es) (suc place) e there is = passed_at es place e there is

  -- and nothing from a place on where there is nothing
  pub nothing_from : (es : List (String A × V)) (place : ℕ) → slice_get es place ≡ None → value_of name (by_bytes (drop place es)) ≡ None
  nothing_from [] zero none = refl
  nothing_from [] (suc place) none = refl
  nothing_from (x ∷ es) zero none = absurd (none-some _ (sym none))
  nothing_from (x ∷ es) (suc place) none = nothing_from es place none
