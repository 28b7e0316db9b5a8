-- What patterns are and how long, by how their texts are read.
use Rattle.std.proofs.Common.{◌≡◌, ℕ, ◌+◌, ◌≤◌, ◌==◌, Bool, true, false, cond, ◌&&◌, ◌||◌, not, nat_le, nat_lt, List, [], ◌∷◌, length, drop, Option, None, Some, Ok, refl, subst, arith}
use Rattle.std.specs.Prelude.{codes, nat_eq, IsTrue}
use Rattle.std.specs.List.{starts_with, list_all}
use Rattle.std.specs.Str.{bytes_eq}
use Rattle.std.proofs.lemmas.Bool.{leb-true}
use Rattle.std.proofs.lemmas.Bool.Decides.{nat_tests}
use Rattle.f2b_base.specs.declared.jail.DateSpec.{DateSpec}
use Rattle.f2b_base.specs.declared.jail.DateSpec.TheVariants.{Anchored, NoDate, Epoch, Iso, Pattern, AnchoredPattern}
use Rattle.f2b_model.specs.Lists.{AllOf}
use Rattle.f2b_model.specs.Storable.{IsJailName}
use Rattle.f2b_model.specs.Storable as model
use Rattle.date_words.specs.Directives.{is_date_pattern}
use Rattle.host_ident.specs.Expanded.{hosts_in}
use Rattle.jail_conf.specs.declared.conf_error.ConfKind.TheVariants.{BadDate, BadTag, NoHost, TwoHosts, TooMany}
use Rattle.jail_conf.specs.declared.lines.Lines.{Lines}
use Rattle.jail_conf.specs.Dates.{anchor, date, date_pattern, pattern_fits}
use Rattle.jail_conf.specs.Jails.{is_jail_name, is_name_byte}
use Rattle.jail_conf.specs.Patterns.{has_bad_prefix_tag, has_bad_tag, in_order, is_too_long, most_patterns, pattern, prefix}
use Rattle.jail_conf.specs.Then.{◌>>=◌, ◌>>◌, refuse_if}
use Rattle.jail_conf.proofs.BoundLemmas.{both_hold, first_ok}
use Rattle.jail_conf.proofs.GoodLemmas.{bind_ok, then_ok, was_not_refused}

-- a pattern that is not too long
abbrev pub IsShort : List ℕ → Type 0
IsShort text = length text ≤ 8_192

-- ---- patterns of lines

pattern_is_short : (needs_host : Bool) (before : ℕ) (text one : List ℕ) → pattern needs_host before text ≡ Ok one → IsShort one
pattern_is_short needs_host before text one is =
    by (needs_host && (hosts_in text == 0)) (nat_lt 1 (hosts_in text)) (has_bad_tag text) (is_too_long text) (nat_le most_patterns before) refl is
  where
    by : (none two bad long many : Bool) → is_too_long text ≡ long →
        (refuse_if none NoHost >> (refuse_if two TwoHosts >> (refuse_if bad BadTag >> (refuse_if (long || many) TooMany >> Ok text)))) ≡ Ok one → IsShort one
    by true two bad long many short is = absurd (cc)
    by false true bad long many short is = absurd (cc)
    by false false true long many short is = absurd (cc)
    by false false false true many short is = absurd (cc)
    by false false false false true short is = absurd (cc)
    by false false false false false short is =
        let same : text ≡ one = cc is in
        subst IsShort same (grind (arith, nat_tests, short))

pub patterns_are_short : (needs_host : Bool) (before : ℕ) (lines all : List (List ℕ)) → in_order needs_host before lines ≡ Ok all → AllOf IsShort all
patterns_are_short needs_host before [] [] is = tt
patterns_are_short needs_host before [] (one ∷ all) is = absurd (cc)
patterns_are_short needs_host before (line ∷ lines) all is =
    let first = bind_ok (pattern needs_host before line) (λ one. in_order needs_host (before + 1) lines >>= (λ others. Ok (one ∷ others))) all is in
    let rest = bind_ok (in_order needs_host (before + 1) lines) (λ others. Ok (first.0 ∷ others)) all first.2 in
    let same : first.0 ∷ rest.0 ≡ all = cc rest.2 in
    subst (AllOf IsShort) same (pattern_is_short needs_host before line first.0 first.1, patterns_are_short needs_host (before + 1) lines rest.0 rest.1)

abbrev pub IsShortPrefix : Option (List ℕ) → Type 0
IsShortPrefix None = Unit {0}
IsShortPrefix (Some text) = IsShort text

pub prefix_is : (text : List ℕ) (pref : Option (List ℕ)) → prefix text ≡ Ok pref → IsShortPrefix pref
prefix_is text pref is =
    let good = then_ok (refuse_if (has_bad_prefix_tag text) BadTag) _ pref is in
    let short : is_too_long text ≡ false = was_not_refused (is_too_long text) TooMany _ pref good in
    let kept = then_ok (refuse_if (is_too_long text) TooMany) _ pref good in
    let same : Some text ≡ pref = cc kept in
    subst IsShortPrefix same (grind (arith, nat_tests, short))

-- the patterns of a jail
pub record AreShortLines (lines : Lines) : Type 0 where
  pub pref : IsShortPrefix lines.pref
  pub fail : AllOf IsShort lines.fail
  pub ignore_lines : AllOf IsShort lines.ignore_lines

-- ---- patterns of dates

-- a date pattern, not too long
pub record IsShortDatePattern (text : List ℕ) : Type 0 where
  pub words : IsTrue (is_date_pattern text)
  pub short : IsShort text

abbrev pub IsShortDate : DateSpec → Type 0
IsShortDate (Pattern text) = IsShortDatePattern text
IsShortDate (AnchoredPattern text) = IsShortDatePattern text
IsShortDate _ = Unit {0}

fits_is : (text : List ℕ) → pattern_fits text ≡ Ok tt → IsShortDatePattern text
fits_is text is =
    let long = then_ok (refuse_if (not (is_date_pattern text)) BadDate) _ tt is in
    record {
      words = holds (is_date_pattern text) (was_not_refused (not (is_date_pattern text)) BadDate _ tt is);
      short = by (nat_lt 8_192 (length text)) refl long;
    }
  where
    holds : (words : Bool) → not words ≡ false → IsTrue words
    holds true is = refl
    holds false is = absurd (cc)

    by : (long : Bool) → nat_lt 8_192 (length text) ≡ long → refuse_if long TooMany ≡ Ok tt → IsShort text
    by true long is = absurd (cc)
    by false long is = grind (arith, nat_tests, long)

date_pattern_is : (spec : List ℕ → DateSpec) → ((text : List ℕ) → IsShortDatePattern text → IsShortDate (spec text)) → (text : List ℕ) (one : DateSpec) →
    date_pattern spec text ≡ Ok one → IsShortDate one
date_pattern_is spec short text one is =
    let fits = first_ok (pattern_fits text) (Ok (spec text)) one is in
    let kept = then_ok (pattern_fits text) (Ok (spec text)) one is in
    let same : spec text ≡ one = cc kept in
    subst IsShortDate same (short text (fits_is text fits.1))

pub date_is : (text : List ℕ) (one : DateSpec) → date text ≡ Ok one → IsShortDate one
date_is text one is =
    by (bytes_eq text anchor) (bytes_eq text (codes "{NONE}")) (bytes_eq text (codes "Epoch")) (bytes_eq text (codes "ISO8601")) (starts_with nat_eq text anchor) is
  where
    by : (anchored none epoch iso starts : Bool) →
        cond anchored (Ok Anchored) (cond none (Ok NoDate) (cond epoch (Ok Epoch) (cond iso (Ok Iso) (cond starts (date_pattern AnchoredPattern (drop (length anchor) text)) (date_pattern Pattern text))))) ≡ Ok one →
        IsShortDate one
    by true none epoch iso starts is = let same : Anchored ≡ one = cc is in subst IsShortDate same tt
    by false true epoch iso starts is = let same : NoDate ≡ one = cc is in subst IsShortDate same tt
    by false false true iso starts is = let same : Epoch ≡ one = cc is in subst IsShortDate same tt
    by false false false true starts is = let same : Iso ≡ one = cc is in subst IsShortDate same tt
    by false false false false true is = date_pattern_is AnchoredPattern (λ text short. short) (drop (length anchor) text) one is
    by false false false false false is = date_pattern_is Pattern (λ text short. short) text one is

-- ---- names of jails

same_byte : (byte : ℕ) → is_name_byte byte ≡ true → model.is_name_byte byte ≡ true
same_byte byte is = grind (arith, nat_tests, is)

same_bytes : (name : List ℕ) → list_all is_name_byte name ≡ true → list_all model.is_name_byte name ≡ true
same_bytes [] is = is
same_bytes (byte ∷ name) is =
    let parts = both_hold (is_name_byte byte) (list_all is_name_byte name) is in
    rw (same_byte byte parts.0) (same_bytes name parts.1)

pub name_is : (name : List ℕ) → is_jail_name name ≡ true → IsJailName name
name_is name is =
    let long = both_hold (nat_le 1 (length name)) (nat_le (length name) 64 && list_all is_name_byte name) is in
    let short = both_hold (nat_le (length name) 64) (list_all is_name_byte name) long.1 in
    record { long = (leb-true 1 (length name) long.0, leb-true (length name) 64 short.0); bytes = same_bytes name short.1 }
