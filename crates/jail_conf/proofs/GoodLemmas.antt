-- What holds of a value, by how its text is read.
use Rattle.std.proofs.Common.{◌≡◌, ℕ, ◌+◌, ◌<◌, ◌≤◌, Bool, true, false, nat_le, nat_lt, ◌==◌, ◌&&◌, ◌||◌, List, [], ◌∷◌, length, Option, None, Some, Result, Ok, Err, unwrap_or, refl, subst, arith}
use Rattle.std.proofs.lemmas.Bool.Decides.{nat_tests}
use Rattle.host_ident.specs.Expanded.{hosts_in}
use Rattle.jail_conf.specs.declared.conf_error.ConfKind.{ConfKind}
use Rattle.jail_conf.specs.declared.conf_error.ConfKind.TheVariants.{NoHost, TwoHosts, BadTag, TooMany}
use Rattle.jail_conf.specs.declared.source.Source.{Source}
use Rattle.jail_conf.specs.Items.{item}
use Rattle.jail_conf.specs.Patterns.{pattern, in_order, patterns_in, has_bad_tag, is_too_long, most_patterns}
use Rattle.jail_conf.specs.Readers.{Reader}
use Rattle.jail_conf.specs.Sources.{text_in, read_if, found, or_told, own, or_else, own_or}
use Rattle.jail_conf.specs.Then.{◌>>=◌, ◌>>◌, refuse_if}
use Rattle.jail_conf.specs.Words.{full_lines}

-- what comes first was there, and the rest came of it
pub bind_ok : {A B E : Type 0} (first : Result A E) (next : A → Result B E) (value : B) → (first >>= next) ≡ Ok value → (x : A) × (first ≡ Ok x) × (next x ≡ Ok value)
bind_ok (Ok x) next value is = (x, refl, is)
bind_ok (Err refusal) next value is = absurd (cc)

pub then_ok : {A B E : Type 0} (first : Result A E) (next : Result B E) (value : B) → (first >> next) ≡ Ok value → next ≡ Ok value
then_ok (Ok x) next value is = is
then_ok (Err refusal) next value is = absurd (cc)

-- what a result that is there has
abbrev pub OfOk : {A E : Type 0} → (A → Type 0) → Result A E → Type 0
OfOk P (Ok x) = P x
OfOk P (Err refusal) = Unit {0}

-- a value comes behind a refusal only where what is refused does not hold
pub was_not_refused : {A E : Type 0} (holds : Bool) (refusal : E) (next : Result A E) (value : A) →
    (refuse_if holds refusal >> next) ≡ Ok value → holds ≡ false
was_not_refused true refusal next value is = absurd (cc)
was_not_refused false refusal next value is = refl

-- ---- values of items

module _ {A : Type 0} (P : A → Type 0) (reading : Reader A) (good : (text : List ℕ) (x : A) → reading text ≡ Ok x → P x) where
  -- it holds of the value, where there is one
  abbrev pub OfAny : Option A → Type 0
  OfAny None = Unit {0}
  OfAny (Some x) = P x

  read_good : (text : Result (Option (List ℕ)) ConfKind) (o : Option A) → (text >>= read_if reading) ≡ Ok o → OfAny o
  read_good (Err kind) o is = absurd (cc)
  read_good (Ok None) None is = tt
  read_good (Ok None) (Some x) is = absurd (cc)
  read_good (Ok (Some text)) o is = by (reading text) refl is
    where
      by : (r : Result A ConfKind) → reading text ≡ r → (r >>= (λ value. Ok (Some value))) ≡ Ok o → OfAny o
      by (Ok x) read is = let same : Some x ≡ o = cc in subst OfAny same (good text x read)
      by (Err kind) read is = absurd (cc)

  told_good : (source : Source) (name : List ℕ) (text : Result (Option (List ℕ)) ConfKind) (o : Option A) → or_told source name (text >>= read_if reading) ≡ Ok o → OfAny o
  told_good source name text o is = read_good text o (by (text >>= read_if reading) is)
    where
      by : (r : Result (Option A) ConfKind) → or_told source name r ≡ Ok o → r ≡ Ok o
      by (Ok x) is = let same : x ≡ o = cc in cc
      by (Err kind) is = absurd (cc)

  default_good : (o : Option A) (default : A) → P default → OfAny o → P (unwrap_or o default)
  default_good None default given any = given
  default_good (Some x) default given any = any

  -- of what an item comes to
  pub own_good : (source : Source) (name : List ℕ) (default value : A) → P default → own source (item name reading default) ≡ Ok value → P value
  unfolding own
  own_good source name default value given is =
      let parts = bind_ok (or_told source name (found source source name reading)) (λ o. Ok (unwrap_or o default)) value is in
      let any : OfAny parts.0 = told_good source name (text_in source source name) parts.0 parts.1 in
      let same : unwrap_or parts.0 default ≡ value = cc parts.2 in
      subst P same (default_good parts.0 default given any)

  -- in a jail, or else in its filter
  pub own_or_good : (jail filter : Source) (name : List ℕ) (default value : A) → P default → own_or jail filter (item name reading default) ≡ Ok value → P value
  unfolding own_or
  own_or_good jail filter name default value given is =
      let parts = bind_ok (or_told jail name (found filter jail name reading)) (or_else (own filter (item name reading default))) value is in
      by parts.0 (told_good jail name (text_in filter jail name) parts.0 parts.1) parts.2
    where
      by : (o : Option A) → OfAny o → or_else (own filter (item name reading default)) o ≡ Ok value → P value
      by None any is = own_good filter name default value given is
      by (Some x) any is = let same : x ≡ value = cc in subst P same any

-- ---- patterns

-- a pattern is one of the first
pub pattern_is_few : (needs_host : Bool) (before : ℕ) (text one : List ℕ) → pattern needs_host before text ≡ Ok one → before < most_patterns
pattern_is_few needs_host before text one is =
    by (needs_host && (hosts_in text == 0)) (nat_lt 1 (hosts_in text)) (has_bad_tag text) (is_too_long text) (nat_le most_patterns before) refl is
  where
    by : (none two bad long many : Bool) → nat_le most_patterns before ≡ many →
        (refuse_if none NoHost >> (refuse_if two TwoHosts >> (refuse_if bad BadTag >> (refuse_if (long || many) TooMany >> Ok text)))) ≡ Ok one → before < most_patterns
    by true two bad long many few is = absurd (cc)
    by false true bad long many few is = absurd (cc)
    by false false true long many few is = absurd (cc)
    by false false false true many few is = absurd (cc)
    by false false false false true few is = absurd (cc)
    by false false false false false few is = grind (arith, nat_tests, few)

-- and so are all of them
in_order_few : (needs_host : Bool) (before : ℕ) (lines all : List (List ℕ)) → in_order needs_host before lines ≡ Ok all → before ≤ most_patterns → before + length all ≤ most_patterns
in_order_few needs_host before [] [] is few = omega arith
in_order_few needs_host before [] (one ∷ all) is few = absurd (cc)
in_order_few needs_host before (line ∷ lines) all is few =
    let first = bind_ok (pattern needs_host before line) (λ one. in_order needs_host (before + 1) lines >>= (λ others. Ok (one ∷ others))) all is in
    let rest = bind_ok (in_order needs_host (before + 1) lines) (λ others. Ok (first.0 ∷ others)) all first.2 in
    let below : before < most_patterns = pattern_is_few needs_host before line first.0 first.1 in
    let others : (before + 1) + length rest.0 ≤ most_patterns = in_order_few needs_host (before + 1) lines rest.0 rest.1 (omega (arith, below)) in
    let same : first.0 ∷ rest.0 ≡ all = cc rest.2 in
    subst (λ (all : List (List ℕ)). before + length all ≤ most_patterns) same (omega (arith, others))

pub patterns_are_few : (needs_host : Bool) (jail filter : Source) (name : List ℕ) (before : ℕ) (all : List (List ℕ)) →
    own_or jail filter (item name (patterns_in needs_host before) []) ≡ Ok all → before ≤ most_patterns → before + length all ≤ most_patterns
patterns_are_few needs_host jail filter name before all is few =
    own_or_good (λ all. before + length all ≤ most_patterns) (patterns_in needs_host before) (λ text all read. in_order_few needs_host before (full_lines text) all read few)
    jail filter name [] all (omega (arith, few)) is
