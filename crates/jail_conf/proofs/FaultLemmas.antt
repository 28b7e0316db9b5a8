-- Faults of values, as what is told of an item.
use Rattle.std.proofs.Common.{◌≡◌, ◌≢◌, List, ℕ, Bool, cond, sym, ap, ◌∙◌, subst, Option, None, Some, Result, Ok, Err, true, false, refl}
use Rattle.ini_interp.specs.declared.value_error.InterpError.{InterpError}
use Rattle.ini_interp.specs.declared.value_error.InterpError.TheVariants as interp
use Rattle.tag_subst.specs.declared.tag_error.TagError.{TagError}
use Rattle.tag_subst.specs.declared.tag_error.TagError.TheVariants as tag
use Rattle.tag_subst.specs.Tags.{substituted}
use Rattle.jail_conf.specs.declared.conf_error.ConfError.{ConfError}
use Rattle.jail_conf.specs.declared.conf_error.ConfKind.{ConfKind}
use Rattle.jail_conf.specs.declared.fail.Fail.{Fail}
use Rattle.jail_conf.specs.declared.fail.Fail.TheVariants.{Refused, NoMemory}
use Rattle.jail_conf.specs.declared.source.Source.{Source}
use Rattle.jail_conf.specs.Fails.{interp_fail, tag_fail}
use Rattle.jail_conf.specs.Sources.{with_tags, or_tag_kind, or_told}
use Rattle.jail_conf.specs.Then.{◌>>=◌, ◌>>◌, Gives}
use Rattle.jail_conf.specs.Told.{IsRefusal, IsTold}

-- ---- the text of an item

-- it is not there
pub text_in-none : (tags : Source) (defined : Result (Option (List ℕ)) InterpError) → defined ≡ Ok None → with_tags tags defined ≡ Ok None
text_in-none tags defined is = rw is refl

-- it is there, and its tags stay
pub text_in-plain : (tags : Source) (defined : Result (Option (List ℕ)) InterpError) (text : List ℕ) → defined ≡ Ok (Some text) → tags.tags ≡ false →
    with_tags tags defined ≡ Ok (Some text)
text_in-plain tags defined text is off = rw (is, off) refl

-- it is there, and its tags are replaced
pub text_in-replaced : (tags : Source) (defined : Result (Option (List ℕ)) InterpError) (text done : List ℕ) → defined ≡ Ok (Some text) → tags.tags ≡ true →
    substituted tags.sections tags.scope text ≡ Ok done → with_tags tags defined ≡ Ok (Some done)
text_in-replaced tags defined text done is on replaced = rw (is, on, replaced) refl

-- its tags have a fault
pub text_in-fault : (tags : Source) (defined : Result (Option (List ℕ)) InterpError) (text : List ℕ) (fail : Fail ConfKind) → defined ≡ Ok (Some text) →
    tags.tags ≡ true → Gives (or_tag_kind (substituted tags.sections tags.scope text)) (Err fail) → Gives (with_tags tags defined) (Err fail)
text_in-fault tags defined text fail is on given =
    let replaced : Bool → Result (Option (List ℕ)) ConfKind = λ holds. cond holds (or_tag_kind (substituted tags.sections tags.scope text)) (Ok (Some text)) in
    subst (λ (value : Result (Option (List ℕ)) InterpError). Gives (with_tags tags value) (Err fail)) (sym is)
    (subst (λ (holds : Bool). Gives (replaced holds) (Err fail)) (sym on) given)

-- what is wrong with an item is told
pub told_gives : {A : Type 0} (source : Source) (name : List ℕ) (defined : Result A ConfKind) (fail : Fail ConfKind) (result : Fail ConfError) →
    Gives defined (Err fail) → IsTold source name fail result → Gives (or_told source name defined) (Err result)
told_gives source name defined (Refused kind) (Refused error) is same = rw (is, same) refl
told_gives source name defined (Refused kind) NoMemory is same = tt
told_gives source name defined NoMemory (Refused error) is none = absurd none
told_gives source name defined NoMemory NoMemory is same = tt

-- ---- faults

-- of a value
pub fault_of_value : (tags : Source) (defined : Result (Option (List ℕ)) InterpError) (fault : InterpError) →
    (fault ≢ interp.NoMemory → defined ≡ Err fault) → Gives (with_tags tags defined) (Err (interp_fail fault))
fault_of_value tags defined (interp.Missing name) is = rw (is (λ same. cc)) refl
fault_of_value tags defined (interp.TooDeep name) is = rw (is (λ same. cc)) refl
fault_of_value tags defined (interp.BadPercent at) is = rw (is (λ same. cc)) refl
fault_of_value tags defined interp.NoMemory is = tt

-- of a text with tags
pub fault_of_tags : (defined : Result (List ℕ) TagError) (fault : TagError) →
    (fault ≢ tag.NoMemory → defined ≡ Err fault) → Gives (or_tag_kind defined) (Err (tag_fail fault))
fault_of_tags defined (tag.TooDeep name) is = rw (is (λ same. cc)) refl
fault_of_tags defined (tag.Interp (interp.Missing name)) is = rw (is (λ same. cc)) refl
fault_of_tags defined (tag.Interp (interp.TooDeep name)) is = rw (is (λ same. cc)) refl
fault_of_tags defined (tag.Interp (interp.BadPercent at)) is = rw (is (λ same. cc)) refl
fault_of_tags defined (tag.Interp interp.NoMemory) is = tt
fault_of_tags defined tag.NoMemory is = tt

-- what fails first fails the whole
pub first_fails : {A B E : Type 0} (defined : Result A E) (next : A → Result B E) (fail : Fail E) → Gives defined (Err fail) → Gives (defined >>= next) (Err fail)
first_fails defined next (Refused refusal) is = rw is refl
first_fails defined next NoMemory is = tt

pub first_fails_alone : {A B E : Type 0} (defined : Result A E) (next : Result B E) (fail : Fail E) → Gives defined (Err fail) → Gives (defined >> next) (Err fail)
first_fails_alone defined next (Refused refusal) is = rw is refl
first_fails_alone defined next NoMemory is = tt

-- behind what is there the rest decides
pub first_is_there : {A B E : Type 0} (defined : Result A E) (next : A → Result B E) (value : A) (result : Result B (Fail E)) →
    defined ≡ Ok value → Gives (next value) result → Gives (defined >>= next) result
first_is_there {A = A} {E = E} defined next value result is given = subst (λ (first : Result A E). Gives (first >>= next) result) (sym is) given

pub first_is : {A B E : Type 0} (defined : Result A E) (next : A → Result B E) (value : A) (result : Result B E) →
    defined ≡ Ok value → next value ≡ result → (defined >>= next) ≡ result
first_is defined next value result is given = rw is given

-- a refusal that is told is the one that is defined
pub refusal_gives : {A : Type 0} (defined : Result A ConfError) (error : ConfError) (result : Fail ConfError) → IsRefusal error result → defined ≡ Err error → Gives defined (Err result)
refusal_gives defined error (Refused told) same is = is ∙ ap Err (sym same)
refusal_gives defined error NoMemory same is = tt

-- behind what is there the rest decides, also where it is looked at for its refusal alone
pub first_is_fine : {A B E : Type 0} (defined : Result A E) (next : Result B E) (value : A) (result : Result B (Fail E)) →
    defined ≡ Ok value → Gives next result → Gives (defined >> next) result
first_is_fine {A = A} {E = E} defined next value result is given = subst (λ (first : Result A E). Gives (first >> next) result) (sym is) given
