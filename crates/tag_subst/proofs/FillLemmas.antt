-- Names that are no dynamic tag's.
use Rattle.std.proofs.Common.{◌≡◌, ℕ, inl, inr, None, List, [], ◌∷◌, find, refl, sym, codes}
use Rattle.std.specs.Prelude.{option_map}
use Rattle.std.specs.Str.{bytes_eq}
use Rattle.std.proofs.lemmas.Bool.{cases_Bool}
use Rattle.f2b_model.specs.declared.fill.Fill.{Fill}
use Rattle.f2b_model.specs.Lists.{AllOf}
use Rattle.f2b_model.specs.Render.{values, value_of}
use Rattle.f2b_model.proofs.SameLemmas.{bytes_eq-true}

-- no entry has the name
found_none : (entries : List (List ℕ × List ℕ)) (name : List ℕ) → AllOf (λ (e : List ℕ × List ℕ). name ≡ e.0 → ⊥) entries →
    None ≡ option_map (λ e. e.1) (find (λ e. bytes_eq e.0 name) entries)
found_none [] name none = refl
found_none (e ∷ entries) name none = elim (cases_Bool (bytes_eq e.0 name)) [
  | inl y ↦ absurd (none.0 (sym (bytes_eq-true e.0 name y)))
  | inr n ↦ rw n (found_none entries name none.1)
]

pub value_of-none : (f : Fill) (name : List ℕ) → (name ≡ codes "ip" → ⊥) → (name ≡ codes "family" → ⊥) → (name ≡ codes "failures" → ⊥) →
    (name ≡ codes "time" → ⊥) → (name ≡ codes "bantime" → ⊥) → (name ≡ codes "bancount" → ⊥) → (name ≡ codes "matches" → ⊥) →
    (name ≡ codes "br" → ⊥) → None ≡ value_of f name
value_of-none f name ip family failures time bantime bancount matches br =
    found_none (values f) name (ip, (family, (failures, (time, (bantime, (bancount, (matches, (br, tt))))))))
