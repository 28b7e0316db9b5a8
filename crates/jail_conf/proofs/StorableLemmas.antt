-- Each configuration that is accepted can be stored, where its texts are UTF-8.
use Rattle.std.proofs.Common.{◌≡◌, ℕ, ◌+◌, ◌≤◌, List, [], ◌∷◌, map, fold, Option, None, Some, Ok, refl, sym, subst, arith}
use Rattle.std.specs.Prelude.{IsUtf8}
use Rattle.std.specs.Str.{bytes_eq}
use Rattle.std.proofs.lemmas.List.{append-nil}
use Rattle.f2b_base.specs.declared.jail.ActionDef.{ActionDef}
use Rattle.f2b_base.specs.declared.jail.DateSpec.{DateSpec}
use Rattle.f2b_base.specs.declared.jail.DateSpec.TheVariants.{Default, Anchored, NoDate, Epoch, Iso, Pattern, AnchoredPattern}
use Rattle.f2b_base.specs.declared.jail.JailDef.{JailDef}
use Rattle.f2b_base.specs.declared.outside.Tree.{Tree}
use Rattle.f2b_model.specs.Lists.{AllOf, AreDistinct}
use Rattle.f2b_model.specs.Storable.{patterns_of, AreStorableDefs, IsPattern, IsStorableAction, IsStorableDate, IsStorableDef, IsStorablePref}
use Rattle.jail_conf.specs.declared.settings.Settings.{Settings}
use Rattle.jail_conf.specs.Conf.{conf, patterns_in}
use Rattle.jail_conf.specs.Texts.{AreUtf8, IsUtf8Action, IsUtf8Date, IsUtf8Jail, IsUtf8OrNone}
use Rattle.jail_conf.proofs.AcceptedLemmas.{AreAccepted, IsAccepted, names_of, purge_is, settings_are}
use Rattle.jail_conf.proofs.LaneLemmas.{HasTimeout}
use Rattle.jail_conf.proofs.PatternBounds.{IsShort, IsShortDate, IsShortPrefix}

-- two facts of each element as one
both : {A : Type 0} (P Q R : A → Type 0) → ((x : A) → P x → Q x → R x) → (xs : List A) → AllOf P xs → AllOf Q xs → AllOf R xs
both P Q R join [] first second = tt
both P Q R join (x ∷ xs) first second = (join x first.0 second.0, both P Q R join xs first.1 second.1)

-- ---- parts of a jail

storable_date : (date : DateSpec) → IsShortDate date → IsUtf8Date date → IsStorableDate date
storable_date Default short text = tt
storable_date Anchored short text = tt
storable_date NoDate short text = tt
storable_date Epoch short text = tt
storable_date Iso short text = tt
storable_date (Pattern pattern) short text = (text, short.short)
storable_date (AnchoredPattern pattern) short text = (text, short.short)

storable_pref : (pref : Option (List ℕ)) → IsShortPrefix pref → IsUtf8OrNone pref → IsStorablePref pref
storable_pref None short text = tt
storable_pref (Some pattern) short text = (text, short)

storable_lane : (lane : ActionDef) → HasTimeout lane → IsUtf8Action lane → IsStorableAction lane
storable_lane lane timeout texts = record {
  name = texts.name;
  start = texts.start;
  stop = texts.stop;
  ban = texts.ban;
  unban = texts.unban;
  check = texts.check;
  timeout = timeout;
}

-- a jail whose patterns are among those of all jails
storable_jail : (d : JailDef) → patterns_in d ≤ 512 → IsAccepted d → IsUtf8Jail d → IsStorableDef d
storable_jail d few good texts = record {
  name = good.word;
  watches = texts.logs;
  logs = (let most = good.watches.few in omega (arith, most));
  paths = good.watches.apart;
  zone = good.zone;
  date = storable_date d.date good.date texts.date;
  pref = storable_pref d.pref good.lines.pref texts.pref;
  fail = both IsShort IsUtf8 IsPattern (λ text short utf8. (utf8, short)) d.fail good.lines.fail texts.fail;
  fails = omega (arith, few);
  ignore_lines = both IsShort IsUtf8 IsPattern (λ text short utf8. (utf8, short)) d.ignore_lines good.lines.ignore_lines texts.ignore_lines;
  ignores = omega (arith, few);
  ignore = good.ignore;
  findtime = good.counts.0;
  maxretry = good.counts.1;
  maxmatches = good.counts.2;
  rule = good.rule;
  actions = both HasTimeout IsUtf8Action IsStorableAction storable_lane d.actions good.actions.timeouts texts.actions;
  kinds = good.actions.apart;
  most = (let most = good.actions.few in omega (arith, most));
}

-- ---- all jails

-- a part of a sum is no more than the sum
each_in_sum : (before : ℕ) (jails : List JailDef) → fold (λ (n : ℕ) (d : JailDef). n + patterns_in d) before jails ≤ 512 → (before ≤ 512) × AllOf (λ d. patterns_in d ≤ 512) jails
each_in_sum before [] few = (few, tt)
each_in_sum before (d ∷ jails) few =
    let rest = each_in_sum (before + patterns_in d) jails few in
    let sum = rest.0 in
    (omega (arith, sum), (omega (arith, sum), rest.1))

sum_alike : (before : ℕ) (jails : List JailDef) →
    fold (λ (a x : ℕ). a + x) before (map patterns_of jails) ≡ fold (λ (n : ℕ) (d : JailDef). n + patterns_in d) before jails
sum_alike before [] = refl
sum_alike before (d ∷ jails) = sum_alike (before + patterns_in d) jails

-- each accepted configuration, whose texts are texts
pub conf_is_storable : (tree : Tree) (settings : Settings) → conf tree ≡ Ok settings → AreUtf8 settings.defs → AreStorableDefs settings.defs
conf_is_storable tree settings is texts =
    let are : AreAccepted [] settings.defs.jails = settings_are tree settings is in
    let few = (each_in_sum 0 settings.defs.jails are.patterns).1 in
    record {
      purge = purge_is tree settings is;
      jails =
          both (λ d. patterns_in d ≤ 512) (λ d. IsAccepted d × IsUtf8Jail d) IsStorableDef (λ d few good. storable_jail d few good.0 good.1) settings.defs.jails few
          (both IsAccepted IsUtf8Jail (λ d. IsAccepted d × IsUtf8Jail d) (λ d good texts. (good, texts)) settings.defs.jails are.good texts);
      names = subst (AreDistinct bytes_eq) (append-nil (names_of settings.defs.jails)) are.names;
      most = are.few;
      patterns = subst (λ n. n ≤ 512) (sym (sum_alike 0 settings.defs.jails)) are.patterns;
    }
