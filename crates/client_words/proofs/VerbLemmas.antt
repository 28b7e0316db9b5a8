-- The verb by a third word, and by the first one.
use Rattle.std.proofs.Common.{◌≡◌, ℕ, ◌-◌, ◌≤◌, Bool, false, inl, inr, List, [], ◌∷◌, length, get_or, take, drop, Option, Some, Result, Ok, refl, sym, ap, ◌∙◌, arith}
use Rattle.std.specs.Cmp.Lexicographic.{bytes_decides}
use Rattle.std.specs.Prelude.{codes}
use Rattle.std.specs.Str.{bytes_eq}
use Rattle.std.proofs.lemmas.Bool.{cases_Bool}
use Rattle.std.proofs.lemmas.List.{take_rest}
use Rattle.jail_conf.specs.Then.{◌>>=◌, ◌>>◌, or_refuse, refuse_if}
use Rattle.client_words.specs.Verbs.{get_verb, has_unknown_switch, item_behind, items, named_in, plain_verb, set_verb, settings, verb_behind, verb_of, verbs}
use Rattle.client_words.specs.declared.error.CommandError.{CommandError}
use Rattle.client_words.specs.declared.error.CommandError.TheVariants.{Unknown}
use Rattle.client_words.specs.declared.verb.Item.{Item}
use Rattle.client_words.specs.declared.verb.Item.TheVariants as get
use Rattle.client_words.specs.declared.verb.Setting.{Setting}
use Rattle.client_words.specs.declared.verb.Verb.{Verb}
use Rattle.client_words.specs.declared.verb.Verb.TheVariants.{Banned, Set, Get}

-- words with a third one
third : (words : List (List ℕ)) (word : List ℕ) → 3 ≤ length words → word ≡ get_or words 2 word →
    words ≡ get_or words 0 word ∷ get_or words 1 word ∷ word ∷ drop 3 words
third [] word long is = absurd (omega arith)
third (first ∷ []) word long is = absurd (omega arith)
third (first ∷ second ∷ []) word long is = absurd (omega arith)
third (first ∷ second ∷ other ∷ words) word long is = ap (λ (w : List ℕ). first ∷ second ∷ w ∷ words) (sym is)

abbrev pub by_item : List (List ℕ) → Option Item → Result Verb CommandError
by_item values found = or_refuse Unknown found >>= λ item. Ok (Get (item_behind item values))

pub get_verb-third : (words : List (List ℕ)) (word : List ℕ) (found : Option Item) → 3 ≤ length words → word ≡ get_or words 2 word →
    found ≡ named_in items word → by_item (drop 3 words) found ≡ get_verb words
get_verb-third words word found long is named = ap (by_item (drop 3 words)) named ∙ sym (ap get_verb (third words word long is))

pub get_verb-some : (words : List (List ℕ)) (word : List ℕ) (item made : Item) → 3 ≤ length words → word ≡ get_or words 2 word →
    Some item ≡ named_in items word → made ≡ item_behind item (take (length words - 3) (drop 3 words)) → Ok (Get made) ≡ get_verb words
get_verb-some words word item made long is named behind =
    ap (λ (x : Item). Ok (Get x)) (behind ∙ ap (item_behind item) (take_rest words 3)) ∙ get_verb-third words word (Some item) long is named

-- an item that has nothing to do with what stands behind it
pub other_item : (item : Item) (values : List (List ℕ)) → (item ≡ get.Banip → ⊥) → item ≡ item_behind item values
other_item get.Banip values other = absurd (other refl)
other_item item values other = refl

-- ---- by the first word

-- words with a first one
first : (words : List (List ℕ)) (word : List ℕ) → 1 ≤ length words → word ≡ get_or words 0 word → words ≡ word ∷ drop 1 words
first [] word some is = absurd (omega arith)
first (other ∷ words) word some is = ap (λ (w : List ℕ). w ∷ words) (sym is)

abbrev pub by_name : List (List ℕ) → Option Verb → Result Verb CommandError
by_name values found = or_refuse Unknown found >>= λ verb. Ok (verb_behind verb values)

pub plain_verb-first : (words : List (List ℕ)) (word : List ℕ) (found : Option Verb) → 1 ≤ length words → word ≡ get_or words 0 word →
    found ≡ named_in verbs word → by_name (drop 1 words) found ≡ plain_verb words
plain_verb-first words word found some is named = ap (by_name (drop 1 words)) named ∙ sym (ap plain_verb (first words word some is))

pub plain_verb-some : (words : List (List ℕ)) (word : List ℕ) (verb made : Verb) → 1 ≤ length words → word ≡ get_or words 0 word →
    Some verb ≡ named_in verbs word → made ≡ verb_behind verb (take (length words - 1) (drop 1 words)) → Ok made ≡ plain_verb words
plain_verb-some words word verb made some is named behind =
    ap (λ (x : Verb). Ok x) (behind ∙ ap (verb_behind verb) (take_rest words 1)) ∙ plain_verb-first words word (Some verb) some is named

-- a setting whose switch is unknown or not
abbrev pub by_switch : Setting → Bool → Result Verb CommandError
by_switch setting unknown = refuse_if unknown Unknown >> Ok (Set setting)

abbrev pub by_setting : List (List ℕ) → Option Setting → Result Verb CommandError
by_setting values found = or_refuse Unknown found >>= λ setting. by_switch setting (has_unknown_switch setting values)

pub set_verb-third : (words : List (List ℕ)) (word : List ℕ) (found : Option Setting) → 3 ≤ length words → word ≡ get_or words 2 word →
    found ≡ named_in settings word → by_setting (drop 3 words) found ≡ set_verb words
set_verb-third words word found long is named = ap (by_setting (drop 3 words)) named ∙ sym (ap set_verb (third words word long is))

pub set_verb-some : (words : List (List ℕ)) (word : List ℕ) (setting : Setting) (unknown : Bool) → 3 ≤ length words → word ≡ get_or words 2 word →
    Some setting ≡ named_in settings word → unknown ≡ has_unknown_switch setting (take (length words - 3) (drop 3 words)) →
    by_switch setting unknown ≡ set_verb words
set_verb-some words word setting unknown long is named tested =
    ap (by_switch setting) (tested ∙ ap (has_unknown_switch setting) (take_rest words 3)) ∙ set_verb-third words word (Some setting) long is named

-- a verb that has nothing to do with what stands behind it
pub other_verb : (verb : Verb) (values : List (List ℕ)) → (verb ≡ Banned → ⊥) → verb ≡ verb_behind verb values
other_verb Banned values other = absurd (other refl)
other_verb verb values other = refl

differs : (one other : List ℕ) → (one ≡ other → ⊥) → bytes_eq one other ≡ false
differs one other apart = elim (cases_Bool (bytes_eq one other)) [ inl y ↦ absurd (apart ((bytes_decides one other).0 y)) | inr n ↦ n ]

-- words that begin neither with `set` nor with `get`
pub verb_of-other : (words : List (List ℕ)) (word : List ℕ) → 1 ≤ length words → word ≡ get_or words 0 word → (word ≡ codes "set" → ⊥) → (word ≡ codes "get" → ⊥)
    → plain_verb words ≡ verb_of words
unfolding verb_of
verb_of-other [] word some is not_set not_get = absurd (omega arith)
verb_of-other (first ∷ others) word some is not_set not_get =
    let no_set : bytes_eq first (codes "set") ≡ false = differs first (codes "set") (λ same. not_set (is ∙ same)) in
    let no_get : bytes_eq first (codes "get") ≡ false = differs first (codes "get") (λ same. not_get (is ∙ same)) in
    rw (no_set, no_get) refl
