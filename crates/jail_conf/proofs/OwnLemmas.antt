-- What a jail puts into the sections of its base: once that is taken out, they are as they were.
use Rattle.std.proofs.Common.{◌≡◌, ◌∙◌, ◌++◌, ℕ, not, Bool, true, false, cond, List, [], ◌∷◌, None, Some, Ok, codes, refl, sym, ap}
use Rattle.std.proofs.lemmas.Bool.{true≢false}
use Rattle.std.proofs.lemmas.List.{append_cancel_right}
use Rattle.std.proofs.lemmas.List.Elements.{All-head, All-tail}
use Rattle.std.proofs.lemmas.Slice.Eq.{bytes_eq-Decides}
use Rattle.std.specs.List.{All}
use Rattle.std.specs.Str.{bytes_eq}
use Rattle.ini_interp.specs.AreSections.{has_bracket, AreSections}
use Rattle.ini_interp.specs.Merges.{Files, merged_in}
use Rattle.ini_interp.specs.Sections.{Items, Sections, value_of, with_value, with_raw, without}
use Rattle.ini_interp.proofs.Named.{own_name, without-none}
use Rattle.jail_conf.specs.declared.source.Source.{Source}
use Rattle.jail_conf.specs.MergedBases.{given_back, IsOfBase}
use Rattle.jail_conf.specs.Sources.{bases_of, sections_of, names_for, with_items, with_options, percents_doubled, of_definition, for_inet6}
use Rattle.jail_conf.proofs.BaseLemmas.{merged_from, sections_are}

module _ {V : Type 0} where
  -- a value that is set is taken out with the name
  without-with_value : (name : List ℕ) (v : V) (es : List (List ℕ × V)) → without name (with_value name v es) ≡ without name es
  without-with_value name v [] = ap (λ b. cond (not b) ((name, v) ∷ []) []) (own_name name)
  without-with_value name v (e ∷ es) = by (bytes_eq name e.0) refl (without-with_value name v es)
    where
      by : (b : Bool) → bytes_eq name e.0 ≡ b → without name (with_value name v es) ≡ without name es →
          without name (cond b ((e.0, v) ∷ es) (e ∷ with_value name v es)) ≡ cond (not b) (e ∷ without name es) (without name es)
      by true is rest = ap (λ b. cond (not b) ((e.0, v) ∷ without name es) (without name es)) is
      by false is rest =
          ap (λ b. cond (not b) (e ∷ without name (with_value name v es)) (without name (with_value name v es))) is ∙ ap (λ l. e ∷ l) rest

  -- of two names either may be taken out first
  without-without : (first second : List ℕ) (es : List (List ℕ × V)) → without first (without second es) ≡ without second (without first es)
  without-without first second [] = refl
  without-without first second (e ∷ es) = by (bytes_eq first e.0) refl (bytes_eq second e.0) refl (without-without first second es)
    where
      by : (a : Bool) → bytes_eq first e.0 ≡ a → (b : Bool) → bytes_eq second e.0 ≡ b → without first (without second es) ≡ without second (without first es) →
          without first (cond (not b) (e ∷ without second es) (without second es)) ≡ without second (cond (not a) (e ∷ without first es) (without first es))
      by true p true q rest = rest
      by true p false q rest = ap (λ a. cond (not a) (e ∷ without first (without second es)) (without first (without second es))) p ∙ rest
      by false p true q rest = rest ∙ sym (ap (λ b. cond (not b) (e ∷ without second (without first es)) (without second (without first es))) q)
      by false p false q rest =
          ap (λ a. cond (not a) (e ∷ without first (without second es)) (without first (without second es))) p
          ∙ (ap (λ l. e ∷ l) rest ∙ sym (ap (λ b. cond (not b) (e ∷ without second (without first es)) (without second (without first es))) q))

without-with_raw : (sections : Sections) (section name value : List ℕ) → without section (with_raw sections section name value) ≡ without section sections
unfolding with_raw
without-with_raw sections section name value = without-with_value section _ sections

-- items that are put into a section are taken out with it
pub without-with_items : (section : List ℕ) (items : Items) (sections : Sections) → without section (with_items section items sections) ≡ without section sections
without-with_items section [] sections = refl
without-with_items section (item ∷ items) sections =
    without-with_items section items (with_raw sections section item.0 item.1) ∙ without-with_raw sections section item.0 item.1

-- a name with a bracket is none of those that files can name
not_there : (name : List ℕ) (sections : Sections) → has_bracket name ≡ true → All (λ section. has_bracket section.0 ≡ false) sections → value_of name sections ≡ None
not_there name [] bracket none = refl
not_there name (section ∷ sections) bracket none =
    by (bytes_eq name section.0) refl (not_there name sections bracket (All-tail (λ section. has_bracket section.0 ≡ false) section sections none))
  where
    by : (b : Bool) → bytes_eq name section.0 ≡ b → value_of name sections ≡ None → cond b (Some section.1) (value_of name sections) ≡ None
    by true is rest =
        let same : name ≡ section.0 = (bytes_eq-Decides name section.0).0 is in
        let clash : has_bracket name ≡ false = ap has_bracket same ∙ All-head (λ section. has_bracket section.0 ≡ false) section sections none in
        absurd (true≢false (sym bracket ∙ clash))
    by false is rest = rest

-- options are taken out with their section
without-with_options : (options : Items) (sections : Sections) → without (codes "]options") (with_options options sections) ≡ without (codes "]options") sections
without-with_options [] sections = refl
without-with_options (option ∷ options) sections =
    without-with_options options (with_raw sections (codes "]options") option.0 (percents_doubled option.1))
    ∙ without-with_raw sections (codes "]options") option.0 (percents_doubled option.1)

-- the sections are as they were before a jail's names and a section of its own were put in
pub as_before : (own : List ℕ) (merged old new : Sections) (names : Items) → has_bracket own ≡ true → AreSections merged → old ≡ with_items (codes "]name") names merged →
    without own new ≡ without own old → without (codes "]name") (without own new) ≡ merged
as_before own merged old new names bracket are made kept =
    ap (without (codes "]name")) (kept ∙ ap (without own) made)
    ∙ (without-without (codes "]name") own (with_items (codes "]name") names merged)
    ∙ (ap (without own) (without-with_items (codes "]name") names merged)
    ∙ (ap (without own) (without-none (codes "]name") merged (not_there (codes "]name") merged refl are.no_bracket))
    ∙ without-none own merged (not_there own merged bracket are.no_bracket))))

-- what a filter or an action gives back is what its files come to
definition_as_before : (merged : Sections) (file jail : List ℕ) (options : Items) → AreSections merged → given_back (of_definition file jail options merged) ≡ merged
definition_as_before merged file jail options are =
    let named : Sections = with_items (codes "]name") (names_for jail) merged in
    as_before (codes "]options") merged named (with_options options named) (names_for jail) refl are refl (without-with_options options named)

pub definition_of_base : (files : Files) (base file jail : List ℕ) (options : Items) (merged : Sections) → file ≡ base ++ codes ".conf" → sections_of (bases_of files) base ≡ Ok merged →
    IsOfBase files file (given_back (of_definition file jail options merged))
definition_of_base files base file jail options merged first is other named =
    let same : other ≡ base = append_cancel_right other base (codes ".conf") (sym named ∙ first) in
    ap (merged_in files) same
    ∙ (merged_from (merged_in files base) merged is ∙ ap Ok (sym (definition_as_before merged file jail options (sections_are files base merged is))))

-- no path is the first file of a base where it is empty
nowhere : (base : List ℕ) → [] ≡ base ++ codes ".conf" → ⊥
nowhere [] named = cc
nowhere (x ∷ base) named = cc

pub no_base : (files : Files) (sections : Sections) → IsOfBase files [] sections
no_base files sections base named = absurd (nowhere base named)

-- what has a section for IPv6 in its scope has but another scope
pub scope_alone : (old new : Source) → new ≡ for_inet6 old → new ≡ record old { scope = new.scope }
scope_alone old new is = is ∙ ap (λ scope. record old { scope = scope }) (sym (ap (λ (source : Source). source.scope) is))
