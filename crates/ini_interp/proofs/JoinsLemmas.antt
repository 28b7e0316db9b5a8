-- The changes that a file makes, one by one.
use Rattle.std.proofs.Common.{◌≡◌, ℕ, ◌+◌, not, Bool, true, false, cond, List, [], ◌∷◌, ◌++◌, length, map, filter, drop, slice_get, Option, None, Some, append_assoc, append-nil, refl, sym, ap, ◌∙◌}
use Rattle.std.specs.List.{flat_map}
use Rattle.std.specs.Str.{bytes_eq}
use Rattle.ini_interp.specs.declared.joins.Change.{Change}
use Rattle.ini_interp.specs.Changes.{setting_of, settings_of}
use Rattle.ini_interp.specs.Joins.{Setting, Opens, Sets, section_settings, settings, without_includes}
use Rattle.ini_interp.specs.Known.{known_replaced}
use Rattle.ini_interp.specs.Sections.{Items, Sections}
use Rattle.ini_interp.proofs.PlacesLemmas.{drop_at_place}

map-push : {X Y : Type 0} (f : X → Y) (xs : List X) (x : X) → map f (xs ++ x ∷ []) ≡ map f xs ++ f x ∷ []
map-push f [] x = refl
map-push f (y ∷ xs) x = ap (λ (l : List _). f y ∷ l) (map-push f xs x)

-- one more change, for the item at a place
pub one_more : {X : Type 0} (set : X → Setting) (old new : List Change) (change : Change) (items : List X) (index : ℕ) (item : X) (whole : List Setting) →
    new ≡ old ++ change ∷ [] → setting_of change ≡ set item → Some item ≡ slice_get items index →
    settings_of old ++ map set (drop index items) ≡ whole → settings_of new ++ map set (drop (index + 1) items) ≡ whole
one_more set old new change items index item whole pushed is there so_far =
    ap (λ (l : List Change). settings_of l ++ map set (drop (index + 1) items)) pushed
    ∙ ap (λ (l : List Setting). l ++ map set (drop (index + 1) items)) (map-push setting_of old change)
    ∙ append_assoc (settings_of old) (setting_of change ∷ []) (map set (drop (index + 1) items))
    ∙ ap (λ (s : Setting). settings_of old ++ s ∷ map set (drop (index + 1) items)) is
    ∙ ap (λ (l : _). settings_of old ++ map set l) (sym (drop_at_place items index item there)) ∙ so_far

settings-cons : (before : Sections) (section : List ℕ × Items) (file : Sections) → settings before (section ∷ file) ≡ settings before (section ∷ []) ++ settings before file
settings-cons before section file = by (not (bytes_eq section.0 _))
  where
    by : (b : Bool) →
        flat_map (section_settings before) (cond b (section ∷ without_includes file) (without_includes file))
        ≡ flat_map (section_settings before) (cond b (section ∷ []) []) ++ flat_map (section_settings before) (without_includes file)
    by true =
        ap (λ (l : List Setting). l ++ flat_map (section_settings before) (without_includes file)) (sym (append-nil (section_settings before section)))
    by false = refl

-- the changes of one more section
pub section_more : (before : Sections) (old new : List Change) (file : Sections) (index : ℕ) (section : List ℕ × Items) (whole : List Setting) →
    settings_of new ≡ settings_of old ++ settings before (section ∷ []) → Some section ≡ slice_get file index →
    settings_of old ++ settings before (drop index file) ≡ whole → settings_of new ++ settings before (drop (index + 1) file) ≡ whole
section_more before old new file index section whole pushed there so_far =
    ap (λ (l : List Setting). l ++ settings before (drop (index + 1) file)) pushed
    ∙ append_assoc (settings_of old) (settings before (section ∷ [])) (settings before (drop (index + 1) file))
    ∙ ap (λ (l : List Setting). settings_of old ++ l) (sym (settings-cons before section (drop (index + 1) file)))
    ∙ ap (λ (l : Sections). settings_of old ++ settings before l) (sym (drop_at_place file index section there)) ∙ so_far
