-- The names in sections that are read from files.
use Rattle.std.proofs.Common.{◌≡◌, ◌≢◌, ℕ, ◌+◌, ◌==◌, ◌||◌, not, nat_lt, Bool, true, false, true≢false, cond, List, [], ◌∷◌, ◌++◌, map, length, take, Option, None, Some, option_map, Result, Ok, Err, refl, sym, ap, subst, ◌∙◌}
use Rattle.std.proofs.Math.Numerals.{one-add}
use Rattle.std.proofs.lemmas.List.Elements.{All-from_recursion, recursion_from_All}
use Rattle.std.proofs.lemmas.Map.Keys.{IsDistinct-cons, IsDistinct-head, IsDistinct-tail}
use Rattle.std.proofs.lemmas.Option.{none-some}
use Rattle.std.proofs.lemmas.Slice.Eq.{bytes_eq-Decides}
use Rattle.std.specs.List.{IsDistinct, AllByRecursion as Each, fold, position_or_len}
use Rattle.std.specs.Map.{keys_of}
use Rattle.std.specs.Str.{bytes_eq, is_utf8}
use Rattle.std.specs.Str.Lines.{lines}
use Rattle.std.specs.Str.Lossy.{utf8_valid_len}
use Rattle.ini_interp.specs.declared.error.IniError.{IniError}
use Rattle.ini_interp.specs.declared.error.IniError.TheVariants.{NotUtf8}
use Rattle.ini_interp.specs.AreSections.{AreApart, IsLowercase, has_bracket, AreItems, AreSections}
use Rattle.ini_interp.specs.Files.{blocks, with_block, gathered, entries, items_in, sections_of, first_fault, unless_at_fault, meaning_of, file_of}
use Rattle.ini_interp.specs.Lines.{Form, Nothing, Opens, Continues, Sets, Broken, is_empty_or_comment, begins_with_blank, trimmed_start, trimmed_end, without_comment, opened_by, named, divided_at, item_of, header_or_item, content_form, form_of}
use Rattle.ini_interp.specs.Sections.{Items, Sections, value_of, with_value}
use Rattle.ini_interp.proofs.CaseLemmas.{lowercase-again}
use Rattle.ini_interp.proofs.Named.{some_value, valued}

-- Entries under names.

pub bytes_eq-flip : (one other : List ℕ) → bytes_eq one other ≡ false → bytes_eq other one ≡ false
bytes_eq-flip one other differ = by (bytes_eq other one) refl
  where
    by : (b : Bool) → bytes_eq other one ≡ b → b ≡ false
    by true is = absurd (true≢false (sym ((bytes_eq-Decides one other).1 (sym ((bytes_eq-Decides other one).0 is))) ∙ differ))
    by false is = refl

module _ {V : Type 0} where
  -- what each entry has, each has where a value is set
  pub each-with_value : (P : List ℕ × V → Type 0) (name : List ℕ) (v : V) (es : List (List ℕ × V)) → P (name, v) → Each P es → Each P (with_value name v es)
  each-with_value P name v [] new old = (new, tt)
  each-with_value P name v (e ∷ es) new old = by (bytes_eq name e.0) refl (each-with_value P name v es new old.1)
    where
      by : (b : Bool) → bytes_eq name e.0 ≡ b → Each P (with_value name v es) → Each P (cond b ((e.0, v) ∷ es) (e ∷ with_value name v es))
      by true is rest = (subst (λ (x : List ℕ). P (x, v)) ((bytes_eq-Decides name e.0).0 is) new, old.1)
      by false is rest = (old.0, rest)

  each-key : (P : List ℕ → Type 0) (name : List ℕ) (v : V) (es : List (List ℕ × V)) → P name → Each P (keys_of es) → Each P (keys_of (with_value name v es))
  each-key P name v [] new old = (new, tt)
  each-key P name v (e ∷ es) new old = by (bytes_eq name e.0) (each-key P name v es new old.1)
    where
      by : (b : Bool) → Each P (keys_of (with_value name v es)) → Each P (keys_of (cond b ((e.0, v) ∷ es) (e ∷ with_value name v es)))
      by true rest = old
      by false rest = (old.0, rest)

  -- names stay apart where a value is set
  pub apart-with_value : (name : List ℕ) (v : V) (es : List (List ℕ × V)) → AreApart es → AreApart (with_value name v es)
  apart-with_value name v [] apart = IsDistinct-cons bytes_eq name [] tt apart
  apart-with_value name v (e ∷ es) apart = by (bytes_eq name e.0) refl (apart-with_value name v es (IsDistinct-tail bytes_eq e.0 (keys_of es) apart))
    where
      by : (b : Bool) → bytes_eq name e.0 ≡ b → AreApart (with_value name v es) → AreApart (cond b ((e.0, v) ∷ es) (e ∷ with_value name v es))
      by true is rest = apart
      by false is rest =
          IsDistinct-cons bytes_eq e.0 (keys_of (with_value name v es))
          (each-key (λ y. bytes_eq e.0 y ≡ false) name v es (bytes_eq-flip name e.0 is) (IsDistinct-head bytes_eq e.0 (keys_of es) apart)) rest

  -- what each entry has, the value of a name has
  pub each-value_of : (P : V → Type 0) (name : List ℕ) (v : V) (es : List (List ℕ × V)) → Each (λ e. P e.1) es → value_of name es ≡ Some v → P v
  each-value_of P name v [] each there = absurd (none-some _ there)
  each-value_of P name v (e ∷ es) each there = by (bytes_eq name e.0) there (each-value_of P name v es each.1)
    where
      by : (b : Bool) → cond b (Some e.1) (value_of name es) ≡ Some v → (value_of name es ≡ Some v → P v) → P v
      by true is rest = subst P (some_value e.1 v is) each.0
      by false is rest = rest is

  -- a value that is set changes no other
  pub value_of-other : (asked name : List ℕ) (v : V) (es : List (List ℕ × V)) → bytes_eq asked name ≡ false → value_of asked (with_value name v es) ≡ value_of asked es
  value_of-other asked name v [] other = ap (λ b. cond b (Some v) None) other
  value_of-other asked name v (e ∷ es) other = by (bytes_eq name e.0) refl (value_of-other asked name v es other)
    where
      by : (b : Bool) → bytes_eq name e.0 ≡ b → value_of asked (with_value name v es) ≡ value_of asked es →
          value_of asked (cond b ((e.0, v) ∷ es) (e ∷ with_value name v es)) ≡ value_of asked (e ∷ es)
      by true is rest =
          let differ : bytes_eq asked e.0 ≡ false = ap (bytes_eq asked) (sym ((bytes_eq-Decides name e.0).0 is)) ∙ other in
          ap (λ b. cond b (Some v) (value_of asked es)) differ ∙ sym (ap (λ b. cond b (Some e.1) (value_of asked es)) differ)
      by false is rest = ap (cond (bytes_eq asked e.0) (Some e.1)) rest

  -- a name that stands first stands nowhere else
  pub none_apart : (e : List ℕ × V) (es : List (List ℕ × V)) → AreApart (e ∷ es) → value_of e.0 es ≡ None
  none_apart e es apart = by es (IsDistinct-head bytes_eq e.0 (keys_of es) apart)
    where
      by : (rest : List (List ℕ × V)) → Each (λ y. bytes_eq e.0 y ≡ false) (keys_of rest) → value_of e.0 rest ≡ None
      by [] each = refl
      by (r ∷ rest) each = ap (λ b. cond b (Some r.1) (value_of e.0 rest)) each.0 ∙ by rest each.1

pub fold-keeps : {A B : Type 0} (P : B → Type 0) (Q : A → Type 0) (f : B → A → B) → ((b : B) (a : A) → P b → Q a → P (f b a)) →
    (xs : List A) (b : B) → Each Q xs → P b → P (fold f b xs)
fold-keeps P Q f step [] b each kept = kept
fold-keeps P Q f step (x ∷ xs) b each kept = fold-keeps P Q f step xs (f b x) each.1 (step b x kept each.0)

pub each-append : {X : Type 0} (P : X → Type 0) (xs ys : List X) → Each P xs → Each P ys → Each P (xs ++ ys)
each-append P [] ys first second = second
each-append P (x ∷ xs) ys first second = (first.0, each-append P xs ys first.1 second)

pub each-map : {X Y : Type 0} (P : Y → Type 0) (f : X → Y) → ((x : X) → P (f x)) → (xs : List X) → Each P (map f xs)
each-map P f all [] = tt
each-map P f all (x ∷ xs) = (all x, each-map P f all xs)

-- Lines.

-- a header's name holds no `]`
abbrev pub IsNamed : Form → Type 0
IsNamed Nothing = Unit {0}
IsNamed (Opens section) = has_bracket section ≡ false
IsNamed (Continues value) = Unit {0}
IsNamed (Sets name value) = Unit {0}
IsNamed Broken = Unit {0}

no_bracket_before : (rest : List ℕ) → has_bracket (take (position_or_len (λ byte. byte == 93) rest) rest) ≡ false
no_bracket_before [] = refl
no_bracket_before (x ∷ rest) = by (x == 93) refl (no_bracket_before rest)
  where
    place : ℕ
    place = position_or_len (λ byte. byte == 93) rest

    by : (b : Bool) → (x == 93) ≡ b → has_bracket (take place rest) ≡ false → has_bracket (take (cond (not b) (1 + place) 0) (x ∷ rest)) ≡ false
    by true is none = refl
    by false is none = rw one-add (ap (λ b. b || has_bracket (take place rest)) is ∙ none)

opened_is_named : (text section : List ℕ) → opened_by text ≡ Some section → has_bracket section ≡ false
unfolding opened_by
opened_is_named [] section is = absurd (none-some _ is)
opened_is_named (first ∷ rest) section is = by (first == 91) (nat_lt place (length rest)) is
  where
    place : ℕ
    place = position_or_len (λ byte. byte == 93) rest

    by : (b there : Bool) → cond b (option_map (λ at. take at rest) (cond there (Some place) None)) None ≡ Some section → has_bracket section ≡ false
    by true true is = ap has_bracket (sym (some_value _ section is)) ∙ no_bracket_before rest
    by true false is = absurd (none-some _ is)
    by false there is = absurd (none-some _ is)

item_is_named : (name value : List ℕ) → IsNamed (named name value)
item_is_named [] value = tt
item_is_named (first ∷ rest) value = tt

divided_is_named : (text : List ℕ) (place : Option ℕ) → IsNamed (divided_at text place)
divided_is_named text None = tt
divided_is_named text (Some place) = item_is_named _ _

header_is_named : (text : List ℕ) (section : Option (List ℕ)) → opened_by text ≡ section → IsNamed (header_or_item text section)
unfolding item_of
header_is_named text None is = divided_is_named text _
header_is_named text (Some section) is = opened_is_named text section is

content_is_named : (text : List ℕ) → IsNamed (content_form text)
unfolding content_form
content_is_named text = by (begins_with_blank text) (header_is_named text (opened_by text) refl)
  where
    by : (b : Bool) → IsNamed (header_or_item text (opened_by text)) → IsNamed (cond b (Continues (trimmed_start text)) (header_or_item text (opened_by text)))
    by true is = tt
    by false is = is

form_is_named : (line : List ℕ) → IsNamed (form_of line)
unfolding form_of
form_is_named line = by (is_empty_or_comment (trimmed_start line)) (content_is_named (trimmed_end (without_comment line)))
  where
    by : (b : Bool) → IsNamed (content_form (trimmed_end (without_comment line))) → IsNamed (cond b Nothing (content_form (trimmed_end (without_comment line))))
    by true is = tt
    by false is = is

-- Files.

-- names stand once each, and hold no `]`
abbrev AreNamed : {V : Type 0} → List (List ℕ × V) → Type 0
AreNamed es = AreApart es × Each (λ e. has_bracket e.0 ≡ false) es

blocks_are_named : (lines : List Form) → Each IsNamed lines → Each (λ block. has_bracket block.0 ≡ false) (blocks lines)
blocks_are_named [] each = tt
blocks_are_named (Nothing ∷ lines) each = blocks_are_named lines each.1
blocks_are_named (Opens section ∷ lines) each = (each.0, blocks_are_named lines each.1)
blocks_are_named (Continues value ∷ lines) each = blocks_are_named lines each.1
blocks_are_named (Sets name value ∷ lines) each = blocks_are_named lines each.1
blocks_are_named (Broken ∷ lines) each = blocks_are_named lines each.1

no_entries_apart : AreApart {V = List Form} []
unfolding IsDistinct
no_entries_apart = tt

gathered_are_named : (lines : List Form) → Each IsNamed lines → AreNamed (gathered lines)
gathered_are_named lines each =
    fold-keeps AreNamed (λ block. has_bracket block.0 ≡ false) with_block
    (λ sections block old new.
    (apart-with_value block.0 _ sections old.0, each-with_value (λ e. has_bracket e.0 ≡ false) block.0 _ sections new old.1))
    (blocks lines) [] (blocks_are_named lines each) (no_entries_apart, tt)

entries_are_lowercase : (lines : List Form) → Each (λ item. IsLowercase item.0) (entries lines)
entries_are_lowercase [] = tt
entries_are_lowercase (Nothing ∷ lines) = entries_are_lowercase lines
entries_are_lowercase (Opens section ∷ lines) = entries_are_lowercase lines
entries_are_lowercase (Continues value ∷ lines) = entries_are_lowercase lines
entries_are_lowercase (Sets name value ∷ lines) = (lowercase-again name, entries_are_lowercase lines)
entries_are_lowercase (Broken ∷ lines) = entries_are_lowercase lines

pub no_items : AreItems []
unfolding IsDistinct
no_items = record { apart = tt; lowercase = All-from_recursion _ [] tt }

pub no_sections : AreSections []
unfolding IsDistinct
no_sections = record { apart = tt; no_bracket = All-from_recursion _ [] tt; items = All-from_recursion _ [] tt }

-- one more item
pub items-with_value : (name value : List ℕ) (items : Items) → IsLowercase name → AreItems items → AreItems (with_value name value items)
items-with_value name value items lower are = record {
  apart = apart-with_value name value items are.apart;
  lowercase =
      All-from_recursion _ (with_value name value items)
      (each-with_value (λ item. IsLowercase item.0) name value items lower (recursion_from_All _ items are.lowercase));
}

items_are : (lines : List Form) → AreItems (items_in lines)
items_are lines =
    fold-keeps AreItems (λ item. IsLowercase item.0) (λ items item. with_value item.0 item.1 items)
    (λ items item old new. items-with_value item.0 item.1 items new old) (entries lines) [] (entries_are_lowercase lines) no_items

sections_are : (lines : List Form) → Each IsNamed lines → AreSections (sections_of lines)
sections_are lines each = record {
  apart = let P : List (List ℕ) → Type 0 = IsDistinct bytes_eq in subst P (sym (keys-valued (gathered lines))) (gathered_are_named lines each).0;
  no_bracket = All-from_recursion _ (sections_of lines) (names-valued (gathered lines) (gathered_are_named lines each).1);
  items = All-from_recursion _ (sections_of lines) (each-map (λ section. AreItems section.1) (λ section. (section.0, items_in section.1)) (λ section. items_are section.1) (gathered lines));
}
  where
    keys-valued : (es : List (List ℕ × List Form)) → keys_of (valued items_in es) ≡ keys_of es
    keys-valued [] = refl
    keys-valued (e ∷ es) = ap (λ l. e.0 ∷ l) (keys-valued es)

    names-valued : (es : List (List ℕ × List Form)) → Each (λ e. has_bracket e.0 ≡ false) es → Each (λ e. has_bracket e.0 ≡ false) (valued items_in es)
    names-valued [] named = tt
    names-valued (e ∷ es) named = (named.0, names-valued es named.1)

pub ok_is : {A E : Type 0} (r : Result A E) (a b : A) → r ≡ Ok a → r ≡ Ok b → a ≡ b
ok_is r a b one other = cc

meaning_are : (lines : List Form) (sections : Sections) → Each IsNamed lines → meaning_of lines ≡ Ok sections → AreSections sections
unfolding meaning_of
meaning_are lines sections each means = by (first_fault [] lines) means
  where
    by : (fault : Option IniError) → unless_at_fault lines fault ≡ Ok sections → AreSections sections
    by None is = subst AreSections (ok_is {E = IniError} (Ok (sections_of lines)) (sections_of lines) sections refl is) (sections_are lines each)
    by (Some error) is = cc

-- what is read from a file
pub file_are : (bytes : List ℕ) (sections : Sections) → file_of bytes ≡ Ok sections → AreSections sections
unfolding file_of
file_are bytes sections means = by (is_utf8 bytes) means
  where
    by : (b : Bool) → cond b (meaning_of (map form_of (lines bytes))) (Err (NotUtf8 (utf8_valid_len bytes))) ≡ Ok sections → AreSections sections
    by true is = meaning_are (map form_of (lines bytes)) sections (each-map IsNamed form_of form_is_named (lines bytes)) is
    by false is = cc
