-- What code asks of the jails of a configuration that was read.
use Rattle.std.proofs.Common.{◌+◌, ◌<◌, ℤ, pos, negsuc, List, [], ◌∷◌, arith}
use Rattle.std.specs.Prelude.{◌&&◌, IfSome, IsTrue, int_lt, neg_ℤ}
use Rattle.std.proofs.lemmas.Bool.Decides.{nat_tests}
use Rattle.date_detect.specs.Forms.{HasDatePattern}
use Rattle.date_words.specs.Directives.{is_date_pattern}
use Rattle.f2b_base.specs.declared.jail.DateSpec.{DateSpec}
use Rattle.f2b_base.specs.declared.jail.DateSpec.TheVariants.{Default, Anchored, NoDate, Epoch, Iso, Pattern, AnchoredPattern}
use Rattle.f2b_base.specs.declared.jail.JailDef.{JailDef}
use Rattle.f2b_model.specs.Bounds.{IsBounded}
use Rattle.f2b_model.specs.Lists.{AllOf}
use Rattle.f2b_model.specs.Sound.{AreFitDefs}
use Rattle.f2b_model.specs.Storable.{AreStorableDefs, IsStorableDef, IsZone}
use Rattle.f2b_model.proofs.StepLemmas.{all_of-more}
use Rattle.filter_regex.specs.Rules.{IsSupported}
use Rattle.jail_conf.specs.Laws.{own_date_pattern}
use Rattle.jail_conf.specs.declared.settings.Settings.{Settings}
use Rattle.jail_conf.proofs.AcceptedLemmas.{conf_is_fit}
use Rattle.jail_conf.proofs.DatedLemmas.{conf_is_dated}
use Rattle.jail_rooms.proofs.StorableLemmas.{definition_bounded}
use Rattle.run_trees.specs.Trees.{IsOfTree}

-- ---- a filter

date_supported : (date : DateSpec) → IfSome (own_date_pattern date) (λ text. IsTrue (is_date_pattern text)) → HasDatePattern date
date_supported Default is = tt
date_supported Anchored is = tt
date_supported NoDate is = tt
date_supported Epoch is = tt
date_supported Iso is = tt
date_supported (Pattern text) is = is
date_supported (AnchoredPattern text) is = is

zone_supported : (zone : ℤ) → IsZone zone → IsTrue (int_lt (neg_ℤ (pos 86_400)) zone && int_lt zone (pos 86_400))
zone_supported (pos secs) is = let less : secs < 86_400 = is.1 in grind (arith, nat_tests, less)
zone_supported (negsuc n) is = let less : n + 1 < 86_400 = is.1 in grind (arith, nat_tests, less)

jail_supported : (d : JailDef) → IfSome (own_date_pattern d.date) (λ text. IsTrue (is_date_pattern text)) → IsStorableDef d → IsSupported d
jail_supported d dated stored = record {
  date = date_supported d.date dated;
  zone = zone_supported d.zone stored.zone;
  fail = (let few = stored.fails in omega (arith, few));
  ignore_lines = (let few = stored.ignores in omega (arith, few));
}

-- two facts of each element as one
both : {A : Type 0} (P Q R : A → Type 0) → ((x : A) → P x → Q x → R x) → (xs : List A) → AllOf P xs → AllOf Q xs → AllOf R xs
both P Q R join [] first second = tt
both P Q R join (x ∷ xs) first second = (join x first.0 second.0, both P Q R join xs first.1 second.1)

pub jails_supported : (settings : Settings) → IsOfTree settings → AreStorableDefs settings.defs → AllOf IsSupported settings.defs.jails
jails_supported settings is stored =
    both (λ (d : JailDef). IfSome (own_date_pattern d.date) (λ text. IsTrue (is_date_pattern text))) IsStorableDef IsSupported jail_supported settings.defs.jails
    (conf_is_dated is.tree settings is.defined) stored.jails

-- ---- the core

pub jails_bounded : (settings : Settings) → AreStorableDefs settings.defs → AllOf IsBounded settings.defs.jails
jails_bounded settings is = all_of-more IsStorableDef IsBounded definition_bounded settings.defs.jails is.jails

pub settings_fit : (settings : Settings) → IsOfTree settings → AreFitDefs settings.defs
settings_fit settings is = conf_is_fit is.tree settings is.defined

pub ruleset supporting = (jails_supported, jails_bounded, settings_fit)
