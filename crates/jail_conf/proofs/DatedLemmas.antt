-- The date patterns of each configuration that is accepted.
use Rattle.std.proofs.Common.{◌≡◌, [], Ok}
use Rattle.std.specs.Prelude.{IsTrue, IfSome}
use Rattle.date_words.specs.Directives.{is_date_pattern}
use Rattle.f2b_base.specs.declared.jail.DateSpec.{DateSpec}
use Rattle.f2b_base.specs.declared.jail.DateSpec.TheVariants.{Pattern, AnchoredPattern}
use Rattle.f2b_base.specs.declared.jail.JailDef.{JailDef}
use Rattle.f2b_base.specs.declared.outside.Tree.{Tree}
use Rattle.jail_conf.specs.declared.settings.Settings.{Settings}
use Rattle.jail_conf.specs.Conf.{conf}
use Rattle.jail_conf.specs.Laws.{AreDated, own_date_pattern}
use Rattle.jail_conf.proofs.AcceptedLemmas.{AreAccepted, IsAccepted, settings_are}
use Rattle.jail_conf.proofs.DistinctLemmas.{all_weaker}
use Rattle.jail_conf.proofs.PatternBounds.{IsShortDate}

is_dated : (date : DateSpec) → IsShortDate date → IfSome (own_date_pattern date) (λ text. IsTrue (is_date_pattern text))
is_dated (Pattern text) short = short.words
is_dated (AnchoredPattern text) short = short.words
is_dated _ short = tt

pub conf_is_dated : (tree : Tree) (settings : Settings) → conf tree ≡ Ok settings → AreDated settings.defs
conf_is_dated tree settings is =
    let are : AreAccepted [] settings.defs.jails = settings_are tree settings is in
    all_weaker IsAccepted (λ (d : JailDef). IfSome (own_date_pattern d.date) (λ text. IsTrue (is_date_pattern text))) (λ d good. is_dated d.date good.date) settings.defs.jails are.good
