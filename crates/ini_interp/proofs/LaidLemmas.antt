-- A file laid over sections, item by item.
use Rattle.std.proofs.Common.{◌≡◌, ℕ, not, Bool, true, false, true≢false, cond, List, [], ◌∷◌, ◌++◌, map, Option, None, Some, option_map, option_and_then, Result, Ok, Err, refl, sym, ap, ap₂, subst, ◌∙◌}
use Rattle.std.proofs.lemmas.List.Elements.{recursion_from_All}
use Rattle.std.proofs.lemmas.Map.Keys.{IsDistinct-tail}
use Rattle.std.proofs.lemmas.Slice.Eq.{bytes_eq-Decides}
use Rattle.std.specs.List.{AllByRecursion as Each, fold, flat_map}
use Rattle.std.specs.Map.{keys_of}
use Rattle.std.specs.Prelude.{codes}
use Rattle.std.specs.Str.{bytes_eq, str_to_ascii_lowercase}
use Rattle.ini_interp.specs.AreSections.{AreApart, AreItems, AreSections, IsLowercase}
use Rattle.ini_interp.specs.Joins.{Setting, Opens, Sets, section_settings, settings, without_includes, with_setting, joined}
use Rattle.ini_interp.specs.Known.{known_replaced}
use Rattle.ini_interp.specs.declared.merge_error.MergeError.{MergeError}
use Rattle.ini_interp.specs.Merges.{Files, FilesRead, all_read, joined_all, merged_in}
use Rattle.std.specs.Result.{IfOk}
use Rattle.ini_interp.specs.Sections.{Items, Sections, value_of, with_value, items_of, items_or_none, opened, raw, with_raw}
use Rattle.ini_interp.specs.Values.{first_of}
use Rattle.ini_interp.proofs.AreSectionsLemmas.{bytes_eq-flip, value_of-other, none_apart, fold-keeps, ok_is}
use Rattle.ini_interp.proofs.JoinedLemmas.{section_of, section-each, settings-each}
use Rattle.ini_interp.proofs.Named.{own_name, value_of-with_value}

-- One setting.

-- a setting of a section changes no other
setting-other : (section : List ℕ) (sections : Sections) (setting : Setting) → bytes_eq section (section_of setting) ≡ false →
    value_of section (with_setting sections setting) ≡ value_of section sections
unfolding opened with_raw
setting-other section sections (Opens other) differ = value_of-other section other (items_of other sections) sections differ
setting-other section sections (Sets other name value) differ = value_of-other section other _ sections differ

others_keep : (section : List ℕ) (settings : List Setting) (sections : Sections) → Each (λ setting. bytes_eq section (section_of setting) ≡ false) settings →
    value_of section (fold with_setting sections settings) ≡ value_of section sections
others_keep section [] sections differ = refl
others_keep section (setting ∷ settings) sections differ =
    others_keep section settings (with_setting sections setting) differ.1 ∙ setting-other section sections setting differ.0

-- what is looked up among the items of a section
among_items : (section name : List ℕ) (sections : Sections) → value_of (str_to_ascii_lowercase name) (items_of section sections) ≡ raw sections section name
unfolding items_of raw
among_items section name sections = by (value_of section sections)
  where
    by : (items : Option Items) → value_of (str_to_ascii_lowercase name) (items_or_none items) ≡ option_and_then (value_of (str_to_ascii_lowercase name)) items
    by None = refl
    by (Some items) = refl

raw-opened : (section name : List ℕ) (sections : Sections) → raw (opened section sections) section name ≡ raw sections section name
unfolding opened raw
raw-opened section name sections =
    ap (option_and_then (value_of (str_to_ascii_lowercase name))) (value_of-with_value section (items_of section sections) sections)
    ∙ among_items section name sections

raw-set : (section name item value : List ℕ) (sections : Sections) → IsLowercase item →
    raw (with_raw sections section item value) section name ≡ cond (bytes_eq (str_to_ascii_lowercase name) item) (Some value) (raw sections section name)
unfolding with_raw raw
raw-set section name item value sections lower =
    ap (option_and_then (value_of asked)) (value_of-with_value section (with_value (str_to_ascii_lowercase item) value items) sections)
    ∙ ap (λ name. value_of asked (with_value name value items)) lower
    ∙ by (bytes_eq asked item) refl
  where
    asked : List ℕ
    asked = str_to_ascii_lowercase name

    items : Items
    items = items_of section sections

    by : (b : Bool) → bytes_eq asked item ≡ b → value_of asked (with_value item value items) ≡ cond b (Some value) (raw sections section name)
    by true is =
        ap (λ name. value_of name (with_value item value items)) ((bytes_eq-Decides asked item).0 is) ∙ value_of-with_value item value items
    by false is = value_of-other asked item value items is ∙ among_items section name sections

-- The items of a section.

module _ (before : Sections) (section name : List ℕ) where
  abbrev sets : Items → List Setting
  sets items = map (λ item. Sets section item.0 (known_replaced before section item.1)) items

  items_win : (items : Items) (sections : Sections) → AreApart items → Each (λ item. IsLowercase item.0) items →
      raw (fold with_setting sections (sets items)) section name
      ≡ first_of (option_map (known_replaced before section) (value_of (str_to_ascii_lowercase name) items)) (raw sections section name)
  items_win [] sections apart lower = refl
  items_win (item ∷ items) sections apart lower =
      items_win items (with_raw sections section item.0 (known_replaced before section item.1)) (IsDistinct-tail bytes_eq item.0 (keys_of items) apart) lower.1
      ∙ ap (first_of (option_map (known_replaced before section) (value_of asked items))) (raw-set section name item.0 (known_replaced before section item.1) sections lower.0)
      ∙ by (bytes_eq asked item.0) refl
    where
      asked : List ℕ
      asked = str_to_ascii_lowercase name

      by : (b : Bool) → bytes_eq asked item.0 ≡ b →
          first_of (option_map (known_replaced before section) (value_of asked items)) (cond b (Some (known_replaced before section item.1)) (raw sections section name))
          ≡ first_of (option_map (known_replaced before section) (cond b (Some item.1) (value_of asked items))) (raw sections section name)
      by true is =
          ap (λ (o : Option (List ℕ)). first_of (option_map (known_replaced before section) o) (Some (known_replaced before section item.1)))
          (ap (λ x. value_of x items) ((bytes_eq-Decides asked item.0).0 is) ∙ none_apart item items apart)
      by false is = refl

  section_wins : (items : Items) (sections : Sections) → AreItems items →
      raw (fold with_setting sections (section_settings before (section, items))) section name
      ≡ first_of (option_map (known_replaced before section) (value_of (str_to_ascii_lowercase name) items)) (raw sections section name)
  section_wins items sections are =
      items_win items (opened section sections) are.apart (recursion_from_All _ items are.lowercase)
      ∙ ap (first_of (option_map (known_replaced before section) (value_of (str_to_ascii_lowercase name) items))) (raw-opened section name sections)

-- The sections of a file.

fold-append : {A B : Type 0} (f : B → A → B) (xs ys : List A) (b : B) → fold f b (xs ++ ys) ≡ fold f (fold f b xs) ys
fold-append f [] ys b = refl
fold-append f (x ∷ xs) ys b = fold-append f xs ys (f b x)

-- what stands first, and what stands behind it
raw-first : (section : List ℕ × Items) (file : Sections) (name : List ℕ) → raw (section ∷ file) section.0 name ≡ value_of (str_to_ascii_lowercase name) section.1
unfolding raw
raw-first section file name =
    ap (λ b. option_and_then (value_of (str_to_ascii_lowercase name)) (cond b (Some section.1) (value_of section.0 file))) (own_name section.0)

raw-behind : (first : List ℕ × Items) (file : Sections) (section name : List ℕ) → bytes_eq section first.0 ≡ false → raw (first ∷ file) section name ≡ raw file section name
unfolding raw
raw-behind first file section name differ =
    ap (λ b. option_and_then (value_of (str_to_ascii_lowercase name)) (cond b (Some first.1) (value_of section file))) differ

raw-none : (section name : List ℕ) (file : Sections) → value_of section file ≡ None → raw file section name ≡ None
unfolding raw
raw-none section name file none = ap (option_and_then (value_of (str_to_ascii_lowercase name))) none

raw-same : (section name : List ℕ) (one other : Sections) → value_of section one ≡ value_of section other → raw one section name ≡ raw other section name
unfolding raw
raw-same section name one other same = ap (option_and_then (value_of (str_to_ascii_lowercase name))) same

-- the file's value where it has one, else the one before
abbrev laid : Sections → Sections → List ℕ → List ℕ → Option (List ℕ) → Option (List ℕ)
laid before file section name old = first_of (option_map (known_replaced before section) (raw file section name)) old

module _ (before : Sections) where
  -- one more section in front: of its own name, and of another
  own_wins : (first : List ℕ × Items) (file sections : Sections) (name : List ℕ) → AreApart (first ∷ file) → AreItems first.1 →
      raw (fold with_setting (fold with_setting sections (section_settings before first)) (settings before file)) first.0 name
      ≡ laid before file first.0 name (raw (fold with_setting sections (section_settings before first)) first.0 name) →
      raw (fold with_setting (fold with_setting sections (section_settings before first)) (settings before file)) first.0 name
      ≡ laid before (first ∷ file) first.0 name (raw sections first.0 name)
  own_wins first file sections name apart are rest =
      rest
      ∙ ap (λ (o : Option (List ℕ)). first_of (option_map (known_replaced before first.0) o) (raw (fold with_setting sections (section_settings before first)) first.0 name))
      (raw-none first.0 name file (none_apart first file apart))
      ∙ section_wins before first.0 name first.1 sections are
      ∙ ap (λ (o : Option (List ℕ)). first_of (option_map (known_replaced before first.0) o) (raw sections first.0 name)) (sym (raw-first first file name))

  other_wins : (first : List ℕ × Items) (file sections : Sections) (section name : List ℕ) → bytes_eq section first.0 ≡ false →
      raw (fold with_setting (fold with_setting sections (section_settings before first)) (settings before file)) section name
      ≡ laid before file section name (raw (fold with_setting sections (section_settings before first)) section name) →
      raw (fold with_setting (fold with_setting sections (section_settings before first)) (settings before file)) section name
      ≡ laid before (first ∷ file) section name (raw sections section name)
  other_wins first file sections section name differ rest =
      rest
      ∙ ap₂ (λ (o : Option (List ℕ)) (old : Option (List ℕ)). first_of (option_map (known_replaced before section) o) old)
      (sym (raw-behind first file section name differ))
      (raw-same section name (fold with_setting sections (section_settings before first)) sections
      (others_keep section (section_settings before first) sections (section-each (λ other. bytes_eq section other ≡ false) before first differ)))

  files_win : (file sections : Sections) (section name : List ℕ) → bytes_eq section (codes "INCLUDES") ≡ false → AreApart file → Each (λ section. AreItems section.1) file →
      raw (fold with_setting sections (settings before file)) section name ≡ laid before file section name (raw sections section name)
  unfolding raw
  files_win [] sections section name merged apart are = refl
  files_win (first ∷ file) sections section name merged apart are =
      by (bytes_eq first.0 (codes "INCLUDES")) refl (bytes_eq section first.0) refl
      (files_win file sections section name merged (IsDistinct-tail bytes_eq first.0 (keys_of file) apart) are.1)
      (files_win file (fold with_setting sections (section_settings before first)) section name merged (IsDistinct-tail bytes_eq first.0 (keys_of file) apart) are.1)
      (λ first_merged. files_win file (fold with_setting sections (section_settings before first)) first.0 name first_merged (IsDistinct-tail bytes_eq first.0 (keys_of file) apart) are.1)
    where
      after : Sections
      after = fold with_setting (fold with_setting sections (section_settings before first)) (settings before file)

      by : (c : Bool) → bytes_eq first.0 (codes "INCLUDES") ≡ c → (d : Bool) → bytes_eq section first.0 ≡ d →
          raw (fold with_setting sections (settings before file)) section name ≡ laid before file section name (raw sections section name) →
          raw after section name ≡ laid before file section name (raw (fold with_setting sections (section_settings before first)) section name) →
          (bytes_eq first.0 (codes "INCLUDES") ≡ false →
          raw after first.0 name ≡ laid before file first.0 name (raw (fold with_setting sections (section_settings before first)) first.0 name)) →
          raw (fold with_setting sections (flat_map (section_settings before) (cond (not c) (first ∷ without_includes file) (without_includes file)))) section name
          ≡ laid before (first ∷ file) section name (raw sections section name)
      by true includes true same left right own =
          absurd (true≢false (sym (ap (λ x. bytes_eq x (codes "INCLUDES")) ((bytes_eq-Decides section first.0).0 same) ∙ includes) ∙ merged))
      by true includes false differ left right own =
          left ∙ ap (λ (o : Option (List ℕ)). first_of (option_map (known_replaced before section) o) (raw sections section name)) (sym (raw-behind first file section name differ))
      by false first_merged true same left right own =
          let at : List ℕ → Type 0 = λ (x : List ℕ). raw after x name ≡ laid before (first ∷ file) x name (raw sections x name) in
          ap (λ (s : Sections). raw s section name) (fold-append with_setting (section_settings before first) (settings before file) sections)
          ∙ subst at (sym ((bytes_eq-Decides section first.0).0 same)) (own_wins first file sections name apart are.0 (own first_merged))
      by false first_merged false differ left right own =
          ap (λ (s : Sections). raw s section name) (fold-append with_setting (section_settings before first) (settings before file) sections)
          ∙ other_wins first file sections section name differ right

pub later_wins : (before file : Sections) (section name : List ℕ) → AreSections file → bytes_eq section (codes "INCLUDES") ≡ false →
    raw (joined before file) section name ≡ laid before file section name (raw before section name)
unfolding joined
later_wins before file section name are merged =
    files_win before file before section name merged are.apart (recursion_from_All _ file are.items)

-- [INCLUDES]
not_includes : (file : Sections) → Each (λ section. bytes_eq section.0 (codes "INCLUDES") ≡ false → bytes_eq (codes "INCLUDES") section.0 ≡ false) file
not_includes [] = tt
not_includes (section ∷ file) = (λ differ. bytes_eq-flip section.0 (codes "INCLUDES") differ, not_includes file)

pub includes_stay : (before file : Sections) → value_of (codes "INCLUDES") (joined before file) ≡ value_of (codes "INCLUDES") before
unfolding joined
includes_stay before file =
    others_keep (codes "INCLUDES") (settings before file) before
    (settings-each (λ section. bytes_eq (codes "INCLUDES") section ≡ false) before file (not_includes file))

always : (files : List Sections) → Each (λ file. Unit {0}) files
always [] = tt
always (file ∷ files) = (tt, always files)

-- what the files of a base come to has no [INCLUDES]
merged_includes : (files : Files) (base : List ℕ) (sections : Sections) → merged_in files base ≡ Ok sections → value_of (codes "INCLUDES") sections ≡ None
unfolding merged_in
merged_includes files base sections comes = by (all_read files base) comes
  where
    by : (read : FilesRead) → joined_all read ≡ Ok sections → value_of (codes "INCLUDES") sections ≡ None
    by (Err fault) is = cc
    by (Ok all) is =
        ap (value_of (codes "INCLUDES")) (sym (ok_is {E = MergeError} (joined_all (Ok all)) (fold joined [] all) sections refl is))
        ∙ fold-keeps (λ (sections : Sections). value_of (codes "INCLUDES") sections ≡ None) (λ file. Unit {0}) joined
        (λ before file none _. includes_stay before file ∙ none) all [] (always all) refl

pub includes_answer : (base : List ℕ) (files : Files) (result : Result Sections MergeError) →
    IfOk result (λ (sections : Sections). merged_in files base ≡ Ok sections) → IfOk result (λ (sections : Sections). value_of (codes "INCLUDES") sections ≡ None)
includes_answer base files (Ok sections) comes = merged_includes files base sections comes
includes_answer base files (Err fault) comes = tt
