-- The input of a request whose values are within their bounds can be stored.
use Rattle.std.proofs.Common.{◌≡◌, ℕ, ◌≤◌, Bool, true, false, ◌==◌, ◌||◌, List, [], ◌∷◌, length, Option, Some, None, refl, sym, ◌∙◌, ap, arith}
use Rattle.std.specs.List.{list_any}
use Rattle.std.specs.Option.{IfSome, is_some, option_and_then}
use Rattle.std.proofs.lemmas.Bool.Decides.{nat_tests}
use Rattle.f2b_base.specs.Addresses.{IsAddr, same_addr}
use Rattle.f2b_base.specs.declared.addr.Addr.{Addr}
use Rattle.f2b_base.specs.declared.addr.Addr.TheVariants.{V4, V6}
use Rattle.f2b_base.specs.declared.ban.Ban.{Ban}
use Rattle.f2b_base.specs.declared.input.What.{What}
use Rattle.f2b_base.specs.declared.input.What.TheVariants as what
use Rattle.f2b_base.specs.declared.jail.JailDef.{JailDef}
use Rattle.f2b_model.specs.Lists.{AllOf, AreDistinct}
use Rattle.f2b_model.specs.Moves.{is_banned}
use Rattle.f2b_model.specs.Storable.{IsStorableWhat}
use Rattle.f2b_model.specs.Whole.{Now}
use Rattle.f2b_model.specs.declared.jail_now.JailNow.{JailNow}
use Rattle.f2b_model.proofs.ListLemmas.{by_test}
use Rattle.f2b_model.proofs.SoundLemmas.{same_addr_true}
use Rattle.client_words.specs.Bounds.{IsBoundedRequest}
use Rattle.client_words.specs.declared.request.Request.{Request}
use Rattle.client_words.specs.declared.request.Request.TheVariants as request
use Rattle.client_replies.specs.Banned.{is_among, new_addrs, new_after}
use Rattle.client_replies.specs.Changes.{change_in, change_of, change_of_definition, effect, if_any, unless}
use Rattle.client_replies.specs.Refusals.{jail_in, named, refusal}

-- ---- the addresses that are new

new_are : (P : Addr → Type 0) (seen : List Addr) (bans : List Ban) (addrs : List Addr) → AllOf P addrs → AllOf P (new_after seen bans addrs)
new_are P seen bans [] all = tt
new_are P seen bans (addr ∷ addrs) all =
    by_test (is_banned addr bans || is_among seen addr) _ (λ known. rw known (new_are P seen bans addrs all.1)) (λ new. rw new ((all.0, new_are P (addr ∷ seen) bans addrs all.1)))

new_few : (seen : List Addr) (bans : List Ban) (addrs : List Addr) → length (new_after seen bans addrs) ≤ length addrs
new_few seen bans [] = omega arith
new_few seen bans (addr ∷ addrs) =
    by_test (is_banned addr bans || is_among seen addr) _ (λ known. rw known (omega (arith, new_few seen bans addrs))) (λ new. rw new (omega (arith, new_few (addr ∷ seen) bans addrs)))

itself : (addr : Addr) → same_addr addr addr ≡ true
itself (V4 number) = grind (arith, nat_tests)
itself (V6 number) = grind (arith, nat_tests)

or_first : (a b : Bool) → a ≡ true → (a || b) ≡ true
or_first a b is = rw is refl

or_second : (a b : Bool) → b ≡ true → (a || b) ≡ true
or_second true b is = refl
or_second false b is = is

not_second : (a b : Bool) → (a || b) ≡ false → b ≡ false
not_second true b is = absurd (let e : true ≡ false = is in cc)
not_second false b is = is

-- none of them was seen before
new_unseen : (seen : List Addr) (bans : List Ban) (addrs : List Addr) (x : Addr) → is_among seen x ≡ true → list_any (same_addr x) (new_after seen bans addrs) ≡ false
new_unseen seen bans [] x was = refl
new_unseen seen bans (addr ∷ addrs) x was =
    by_test (is_banned addr bans || is_among seen addr) _
    (λ known. rw known (new_unseen seen bans addrs x was))
    (λ new. rw new (
    by_test (same_addr x addr) _
    (λ same.
    let there : is_among seen addr ≡ true = ap (is_among seen) (sym (same_addr_true x addr same)) ∙ was in
    let not_there : is_among seen addr ≡ false = not_second (is_banned addr bans) (is_among seen addr) new in
    absurd (let e : true ≡ false = sym there ∙ not_there in cc))
    (λ other. rw other (new_unseen (addr ∷ seen) bans addrs x (or_second (same_addr x addr) (is_among seen x) was)))))

new_distinct : (seen : List Addr) (bans : List Ban) (addrs : List Addr) → AreDistinct same_addr (new_after seen bans addrs)
new_distinct seen bans [] = tt
new_distinct seen bans (addr ∷ addrs) =
    by_test (is_banned addr bans || is_among seen addr) _
    (λ known. rw known (new_distinct seen bans addrs))
    (λ new. rw new ((new_unseen (addr ∷ seen) bans addrs addr (or_first (same_addr addr addr) (is_among seen addr) (itself addr)), new_distinct (addr ∷ seen) bans addrs)))

-- ---- inputs

some_if_any : (P : What → Type 0) (count : ℕ) (happens : What) → P happens → IfSome (if_any count happens) P
some_if_any P count happens is = by_test (count == 0) _ (λ none. rw none tt) (λ some. rw some is)

some_unless : (P : What → Type 0) (already : Bool) (happens : What) → P happens → IfSome (unless already happens) P
some_unless P true happens is = tt
some_unless P false happens is = is

definition_storable : (d : JailDef) (asked : Request) → IsBoundedRequest asked → IfSome (change_of_definition d asked) IsStorableWhat
definition_storable d (request.AddIgnore jail cidr) is = some_unless IsStorableWhat _ (what.Ignore jail cidr true) is
definition_storable d (request.DelIgnore jail cidr) is = some_unless IsStorableWhat _ (what.Ignore jail cidr false) is
definition_storable d (request.SetFindtime jail secs) is = some_unless IsStorableWhat _ (what.Findtime jail secs) is
definition_storable d (request.SetBantime jail secs) is = some_unless IsStorableWhat _ (what.Bantime jail secs) is
definition_storable d (request.SetMaxretry jail number) is = some_unless IsStorableWhat _ (what.Maxretry jail number) is
definition_storable d _ is = tt

jail_storable : (j : JailNow) (asked : Request) → IsBoundedRequest asked → IfSome (change_in j asked) IsStorableWhat
jail_storable j (request.SetBanip jail addrs) is =
    some_if_any IsStorableWhat _ (what.Ban jail (new_addrs j.bans addrs))
    (is.0, new_are IsAddr [] j.bans addrs is.1, new_distinct [] j.bans addrs, omega (arith, is.2, new_few [] j.bans addrs))
jail_storable j (request.SetUnbanip jail addrs) is = some_if_any IsStorableWhat _ (what.Unban (Some jail) (Some addrs)) is
jail_storable j (request.SetAttempt jail addr) is = some_unless IsStorableWhat _ (what.Attempt jail addr) is
jail_storable j (request.SetIdle jail idle) is = some_unless IsStorableWhat _ (what.Idle jail idle) is
jail_storable j asked is = definition_storable j.definition asked is

found_storable : (o : Option JailNow) (asked : Request) → IsBoundedRequest asked → IfSome (option_and_then (λ (j : JailNow). change_in j asked) o) IsStorableWhat
found_storable None asked is = tt
found_storable (Some j) asked is = jail_storable j asked is

pub change_storable : (now : Now) (asked : Request) → IsBoundedRequest asked → IfSome (change_of now asked) IsStorableWhat
change_storable now request.UnbanAll is = some_if_any IsStorableWhat _ (what.Unban None None) (tt, tt)
change_storable now (request.Unban addrs) is = some_if_any IsStorableWhat _ (what.Unban None (Some addrs)) (tt, is)
change_storable now request.Stop is = some_unless IsStorableWhat _ what.Stop tt
change_storable now asked is = found_storable (option_and_then (jail_in now) (named asked)) asked is

pub effect_storable : (now : Now) (asked : Request) → IsBoundedRequest asked → IfSome (effect now asked) IsStorableWhat
unfolding effect
effect_storable now asked is = by_test (is_some (refusal now asked)) _ (λ refused. rw refused tt) (λ free. rw free (change_storable now asked is))
