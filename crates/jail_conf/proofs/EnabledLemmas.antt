-- Whether a jail is enabled.
use Rattle.std.proofs.Common.{◌≡◌, ℕ, ◌<◌, ◌≤◌, not, nat_lt, ◌&&◌, Bool, true, false, [], Result, Ok, Err, refl, sym, ap, ◌∙◌, subst, arith}
use Rattle.std.proofs.lemmas.Bool.Decides.{nat_tests}
use Rattle.jail_conf.specs.declared.conf_error.ConfError.{ConfError}
use Rattle.jail_conf.specs.declared.conf_error.ConfKind.TheVariants.{BadName, TooMany}
use Rattle.jail_conf.specs.declared.fail.Fail.{Fail}
use Rattle.jail_conf.specs.declared.source.Source.{Source}
use Rattle.jail_conf.specs.Conf.{is_enabled, most_jails}
use Rattle.jail_conf.specs.Jails.{is_jail_name}
use Rattle.jail_conf.specs.Sources.{own, told}
use Rattle.jail_conf.specs.Table as table
use Rattle.jail_conf.specs.Then.{◌>>◌, refuse_if, Gives}
use Rattle.jail_conf.specs.Told.{IsRefusal}
use Rattle.jail_conf.proofs.FaultLemmas.{first_fails, first_is, refusal_gives}

-- what is not refused leaves it to the rest
pub not_refused : {A : Type 0} (holds : Bool) (error : ConfError) (next : Result A ConfError) → holds ≡ false → (refuse_if holds error >> next) ≡ next
not_refused holds error next is = rw is refl

pub refused : {A : Type 0} (holds : Bool) (error : ConfError) (next : Result A ConfError) → holds ≡ true → (refuse_if holds error >> next) ≡ Err error
refused holds error next is = rw is refl

pub bad_name : (jail : Source) (before : ℕ) (fail : Fail ConfError) → is_jail_name jail.section ≡ false → IsRefusal (told jail [] BadName) fail →
    Gives (is_enabled jail before) (Err fail)
unfolding is_enabled
bad_name jail before fail bad is = refusal_gives _ (told jail [] BadName) fail is (refused (not (is_jail_name jail.section)) (told jail [] BadName) _ (ap not bad))

pub enabled_fails : (jail : Source) (before : ℕ) (fail : Fail ConfError) → is_jail_name jail.section ≡ true → Gives (own jail table.enabled) (Err fail) →
    Gives (is_enabled jail before) (Err fail)
unfolding is_enabled
enabled_fails jail before fail good given =
    subst (λ (enabled : Result Bool ConfError). Gives enabled (Err fail)) (sym (not_refused (not (is_jail_name jail.section)) (told jail [] BadName) _ (ap not good)))
    (first_fails (own jail table.enabled) _ fail given)

pub too_many : (jail : Source) (before : ℕ) (fail : Fail ConfError) → is_jail_name jail.section ≡ true → own jail table.enabled ≡ Ok true → most_jails ≤ before →
    IsRefusal (told jail table.enabled.name TooMany) fail → Gives (is_enabled jail before) (Err fail)
unfolding is_enabled
too_many jail before fail good enabled many is =
    let full : not (nat_lt before most_jails) ≡ true = grind (arith, nat_tests) in
    refusal_gives _ (told jail table.enabled.name TooMany) fail is
    (not_refused (not (is_jail_name jail.section)) (told jail [] BadName) _ (ap not good)
    ∙ first_is (own jail table.enabled) _ true (Err (told jail table.enabled.name TooMany)) enabled (refused (not (nat_lt before most_jails)) _ _ full))

pub is_enabled_is : (jail : Source) (before : ℕ) (enabled : Bool) → is_jail_name jail.section ≡ true → own jail table.enabled ≡ Ok enabled →
    (enabled && not (nat_lt before most_jails)) ≡ false → is_enabled jail before ≡ Ok enabled
unfolding is_enabled
is_enabled_is jail before enabled good is few =
    not_refused (not (is_jail_name jail.section)) (told jail [] BadName) _ (ap not good)
    ∙ first_is (own jail table.enabled) _ enabled (Ok enabled) is (not_refused (enabled && not (nat_lt before most_jails)) _ _ few)

-- where there is room, or no want of it, nothing is refused
pub has_room : (enabled : Bool) (before : ℕ) → before < most_jails → (enabled && not (nat_lt before most_jails)) ≡ false
has_room true before few = grind (arith, nat_tests)
has_room false before few = refl

pub needs_no_room : (enabled : Bool) (before : ℕ) → enabled ≡ false → (enabled && not (nat_lt before most_jails)) ≡ false
needs_no_room enabled before off = rw off refl
