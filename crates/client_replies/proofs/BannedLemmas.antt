-- Bans that are counted and found in what a view shows.
use Rattle.std.proofs.Common.{◌≡◌, ℕ, suc, ◌+◌, List, [], ◌∷◌, length, map, Option, Some, None, refl, ap, ◌∙◌}
use Rattle.std.specs.List.{sum_by}
use Rattle.std.specs.Option.{option_map, option_and_then, option_map_or}
use Rattle.std.specs.Str.{bytes_eq}
use Rattle.std.proofs.lemmas.List.Folds.{fold-map}
use Rattle.f2b_base.specs.declared.addr.Addr.{Addr}
use Rattle.f2b_base.specs.declared.ban.Ban.{Ban}
use Rattle.f2b_base.specs.declared.view.JailView.{JailView}
use Rattle.f2b_base.specs.declared.view.View.{View}
use Rattle.f2b_model.specs.Steps.{find_jail, moves_now}
use Rattle.f2b_model.specs.Views.{jail_view, spread}
use Rattle.f2b_model.specs.Whole.{Now}
use Rattle.f2b_model.specs.declared.jail_now.JailNow.{JailNow}
use Rattle.f2b_model.proofs.ListLemmas.{by_test}
use Rattle.client_replies.specs.Banned.{count_meant, ended_in}
use Rattle.client_replies.specs.Meant.{IsWhom, bans_at, bans_named}
use Rattle.client_replies.specs.declared.known.Known.{Known}

pub named_shown : (name : List ℕ) (js : List JailNow) → bans_named name (map jail_view js) ≡ option_map (λ (j : JailNow). j.bans) (find_jail moves_now name js)
named_shown name [] = refl
named_shown name (j ∷ js) = by_test (bytes_eq j.definition.name name) _ (λ is. rw is refl) (λ other. rw other (named_shown name js))

-- the bans that a view shows of the jail of a name
pub bans_of_view : (now : Now) (view : View) (name : List ℕ) (shown : List JailView) (bans : Option (List Ban)) → view ≡ spread now → shown ≡ view.jails → bans ≡ bans_named name shown
    → bans ≡ bans_at now name
bans_of_view now view name shown bans is same found =
    found ∙ ap (bans_named name) same ∙ ap (λ (v : View). bans_named name v.jails) is ∙ named_shown name now.jails.jails

pub ended_shown : (addrs : Option (List Addr)) (js : List JailNow) → sum_by (λ (v : JailView). count_meant addrs v.bans) (map jail_view js) ≡ sum_by (ended_in addrs) js
ended_shown addrs js = fold-map (λ (n : ℕ) (v : JailView). n + count_meant addrs v.bans) jail_view 0 js

-- what comes of a value that was found by a part of it
pub through : {A B C : Type 0} (f : A → B) (h : B → Option C) (o : Option A) → option_and_then h (option_map f o) ≡ option_and_then (λ x. h (f x)) o
through f h None = refl
through f h (Some x) = refl

pub through_or : {A B C : Type 0} (f : A → B) (h : B → C) (o : Option A) (d : C) → option_map_or h (option_map f o) d ≡ option_map_or (λ x. h (f x)) o d
through_or f h None d = refl
through_or f h (Some x) d = refl

everyone : (bans : List Ban) → length bans ≡ count_meant None bans
everyone [] = refl
everyone (b ∷ bs) = ap suc (everyone bs)

-- where all are meant each ban counts
pub all_meant : (whom : Option Known) (addrs : Option (List Addr)) (bans : List Ban) → whom ≡ None → IsWhom whom addrs → length bans ≡ count_meant addrs bans
all_meant None None bans is means = everyone bans
all_meant None (Some addrs) bans is means = absurd means
all_meant (Some known) addrs bans is means = absurd (let e : Some known ≡ None = is in cc)
