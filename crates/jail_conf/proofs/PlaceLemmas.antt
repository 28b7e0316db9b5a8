-- What stands at a place of a list, and behind it.
use Rattle.std.proofs.Common.{◌≡◌, ℕ, zero, suc, ◌+◌, List, [], ◌∷◌, ◌++◌, drop, map, Option, None, Some, option_map, refl, sym, ap, ◌∙◌, append_assoc, arith}
use Rattle.std.specs.Prelude.{slice_get, option_and_then, option_copied, unwrap_or, codes}
use denote.Bor.{Bor}
use Rattle.std.proofs.lemmas.List.{append-nil}
use Rattle.ini_interp.specs.Sections.{Sections, Items, value_of, items_or_none, items_of, item_at, raw, section_at}
use Rattle.jail_conf.specs.Sources.{section_names}
use Rattle.jail_conf.specs.Jails.{known_of}

-- an item stands there
pub drop_at : {X : Type 0} (xs : List X) (place : ℕ) (x : X) → slice_get xs place ≡ Some x → drop place xs ≡ x ∷ drop (place + 1) xs
drop_at [] place x is = absurd (cc)
drop_at (y ∷ xs) zero x is = let same : y ≡ x = cc in ap (λ z. z ∷ xs) same
drop_at (y ∷ xs) (suc place) x is =
    let next : suc place + 1 ≡ suc (place + 1) = omega arith in
    drop_at xs place x is ∙ sym (ap (λ n. x ∷ drop n (y ∷ xs)) next)

-- and none does
pub drop_past : {X : Type 0} (xs : List X) (place : ℕ) → slice_get xs place ≡ None → drop place xs ≡ []
drop_past [] zero is = refl
drop_past [] (suc place) is = refl
drop_past (x ∷ xs) zero is = absurd (cc)
drop_past (x ∷ xs) (suc place) is = drop_past xs place is

slice_get-map : {X Y : Type 0} (f : X → Y) (xs : List X) (place : ℕ) → slice_get (map f xs) place ≡ option_map f (slice_get xs place)
slice_get-map f [] place = refl
slice_get-map f (x ∷ xs) zero = refl
slice_get-map f (x ∷ xs) (suc place) = slice_get-map f xs place

-- what a reference gives, or else that default
pub copied_or : (found : Option (Bor (List ℕ))) (default : Bor (List ℕ)) → (unwrap_or found default).now ≡ unwrap_or (option_copied found) default.now
copied_or None default = refl
copied_or (Some text) default = refl

-- ---- names of sections

pub name_more : (sections : Sections) (names : List (List ℕ)) (place : ℕ) (name : List ℕ) → names ++ drop place (section_names sections) ≡ section_names sections →
    Some name ≡ section_at sections place → (names ++ name ∷ []) ++ drop (place + 1) (section_names sections) ≡ section_names sections
name_more sections names place name before is =
    append_assoc names (name ∷ []) (drop (place + 1) (section_names sections))
    ∙ (ap (λ rest. names ++ rest) (sym (drop_at (section_names sections) place name (slice_get-map (λ section. section.0) sections place ∙ sym is))) ∙ before)

pub name_none : (sections : Sections) (names : List (List ℕ)) (place : ℕ) → names ++ drop place (section_names sections) ≡ section_names sections →
    None ≡ section_at sections place → names ≡ section_names sections
name_none sections names place before is =
    sym (append-nil names) ∙ (ap (λ rest. names ++ rest) (sym (drop_past (section_names sections) place (slice_get-map (λ section. section.0) sections place ∙ sym is))) ∙ before)

-- ---- items of a section

item_at_is : (sections : Sections) (section : List ℕ) (place : ℕ) → item_at sections section place ≡ option_map (λ item. item.0) (slice_get (items_of section sections) place)
unfolding items_of item_at
item_at_is sections section place = by (value_of section sections)
  where
    by : (items : Option Items) → option_and_then (λ items. option_map (λ e. e.0) (slice_get items place)) items ≡ option_map (λ item. item.0) (slice_get (items_or_none items) place)
    by None = refl
    by (Some items) = refl

-- an item with its raw value
abbrev pub with_its_raw : Sections → List ℕ × List ℕ → List ℕ × List ℕ
with_its_raw sections item = (item.0, unwrap_or (raw sections (codes "Definition") item.0) [])

pub known_more : (sections : Sections) (known : Items) (place : ℕ) (name : List ℕ) → known ++ map (with_its_raw sections) (drop place (items_of (codes "Definition") sections)) ≡ known_of sections →
    Some name ≡ item_at sections (codes "Definition") place →
    (known ++ (name, unwrap_or (raw sections (codes "Definition") name) []) ∷ []) ++ map (with_its_raw sections) (drop (place + 1) (items_of (codes "Definition") sections)) ≡ known_of sections
known_more sections known place name before is = by (slice_get (items_of (codes "Definition") sections) place) refl
  where
    items : Items
    items = items_of (codes "Definition") sections

    by : (found : Option (List ℕ × List ℕ)) → slice_get items place ≡ found →
        (known ++ (name, unwrap_or (raw sections (codes "Definition") name) []) ∷ []) ++ map (with_its_raw sections) (drop (place + 1) items) ≡ known_of sections
    by None found = absurd (none (is ∙ (item_at_is sections (codes "Definition") place ∙ ap (option_map (λ item. item.0)) found)))
      where
        none : Some name ≡ None → ⊥
        none e = cc
    by (Some item) found =
        let some : Some name ≡ Some item.0 = is ∙ (item_at_is sections (codes "Definition") place ∙ ap (option_map (λ item. item.0)) found) in
        let same : name ≡ item.0 = cc in
        append_assoc known ((name, unwrap_or (raw sections (codes "Definition") name) []) ∷ []) (map (with_its_raw sections) (drop (place + 1) items))
        ∙ (ap (λ name. known ++ (name, unwrap_or (raw sections (codes "Definition") name) []) ∷ map (with_its_raw sections) (drop (place + 1) items)) same
        ∙ (ap (λ rest. known ++ map (with_its_raw sections) rest) (sym (drop_at items place item found)) ∙ before))

pub known_none : (sections : Sections) (known : Items) (place : ℕ) → known ++ map (with_its_raw sections) (drop place (items_of (codes "Definition") sections)) ≡ known_of sections →
    None ≡ item_at sections (codes "Definition") place → known ≡ known_of sections
known_none sections known place before is = by (slice_get (items_of (codes "Definition") sections) place) refl
  where
    items : Items
    items = items_of (codes "Definition") sections

    by : (found : Option (List ℕ × List ℕ)) → slice_get items place ≡ found → known ≡ known_of sections
    by None found = sym (append-nil known) ∙ (ap (λ rest. known ++ map (with_its_raw sections) rest) (sym (drop_past items place found)) ∙ before)
    by (Some item) found = absurd (some (is ∙ (item_at_is sections (codes "Definition") place ∙ ap (option_map (λ item. item.0)) found)))
      where
        some : None ≡ Some item.0 → ⊥
        some e = cc
