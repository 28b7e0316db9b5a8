-- What holds of each configuration that is accepted.
use Rattle.std.proofs.Common.{◌≡◌, ◌∙◌, ℕ, ◌+◌, ◌<◌, ◌≤◌, Bool, true, false, ◌&&◌, not, nat_lt, List, [], ◌∷◌, ◌++◌, map, filter, length, Option, None, Some, Ok, codes, pos, refl, sym, ap, subst, append_assoc, arith}
use Rattle.std.specs.Prelude.{sum_by}
use Rattle.std.specs.List.{IsDistinct}
use Rattle.std.specs.Map.{keys_of}
use Rattle.std.specs.Str.{bytes_eq}
use Rattle.std.proofs.lemmas.Bool.Decides.{nat_tests}
use Rattle.std.proofs.lemmas.List.{append-nil, length-append, map-append}
use Rattle.std.proofs.lemmas.List.Sums.{sum_by-append}
use Rattle.f2b_base.specs.Masks.{IsCidr}
use Rattle.f2b_base.specs.declared.jail.DateSpec.TheVariants.{Default}
use Rattle.f2b_base.specs.declared.jail.JailDef.{JailDef}
use Rattle.f2b_base.specs.declared.jail.WatchDef.{WatchDef}
use Rattle.f2b_base.specs.declared.outside.Tree.{Tree}
use Rattle.f2b_model.specs.Lists.{AllOf, AreDistinct}
use Rattle.f2b_model.specs.Sound.{same_kind, AreFitDefs}
use Rattle.f2b_model.specs.Storable.{longest_span, IsJailName, IsStorableRule, IsWithin, IsZone}
use Rattle.ini_interp.specs.Merges.{files_of}
use Rattle.ini_interp.specs.Sections.{Sections}
use Rattle.jail_conf.specs.declared.conf_error.ConfError.{ConfError}
use Rattle.jail_conf.specs.declared.conf_error.ConfKind.TheVariants.{BadName, TooMany}
use Rattle.jail_conf.specs.declared.settings.Settings.{Settings}
use Rattle.jail_conf.specs.declared.source.Source.{Source}
use Rattle.jail_conf.specs.Actions.{actions_of}
use Rattle.jail_conf.specs.Conf.{jail_names, most_jails, is_enabled, if_enabled, patterns_in, next_jail, with_next, jails_behind, settings_in, conf}
use Rattle.jail_conf.specs.Dates.{date as conf_date}
use Rattle.jail_conf.specs.Jails.{is_jail_name, filter_of, lines_of, ignored_of, counts_of, rule_of, unsupported_in, jail_with, jail_of}
use Rattle.jail_conf.specs.Laws.{AreWithinLimits}
use Rattle.jail_conf.specs.Sources.{Bases, bases_of, section_names, sections_of, of_server, of_jail, with_known, own, own_or, told}
use Rattle.jail_conf.specs.Table as table
use Rattle.jail_conf.specs.Then.{◌>>◌, refuse_if}
use Rattle.jail_conf.specs.Times.{seconds_from}
use Rattle.jail_conf.specs.Zones.{zone as conf_zone}
use Rattle.jail_conf.proofs.BaseLemmas.{sections_are}
use Rattle.jail_conf.proofs.AddressLemmas.{ignored_are}
use Rattle.jail_conf.proofs.BoundLemmas.{seconds_are, zone_is}
use Rattle.jail_conf.proofs.DistinctLemmas.{all_weaker, all_append, distinct_without, distinct_filter, distinct_from}
use Rattle.jail_conf.proofs.FewLemmas.{next_is_few}
use Rattle.jail_conf.proofs.GoodLemmas.{OfOk, bind_ok, then_ok, own_good, own_or_good, was_not_refused}
use Rattle.jail_conf.proofs.ItemLemmas.{AreGoodCounts, counts_are, rule_is, lines_are_short}
use Rattle.jail_conf.proofs.LaneLemmas.{AreLanesBehind, actions_are}
use Rattle.jail_conf.proofs.PatternBounds.{AreShortLines, IsShortDate, date_is, name_is}
use Rattle.jail_conf.proofs.WatchLemmas.{AreGoodWatches, watches_are}

-- ---- one jail

-- a jail of this name that is accepted
pub record IsAcceptedJail (name : List ℕ) (jail : JailDef) : Type 0 where
  pub named : jail.name ≡ name
  pub word : IsJailName jail.name
  pub watches : AreGoodWatches jail.watches
  pub zone : IsZone jail.zone
  pub date : IsShortDate jail.date
  pub lines : AreShortLines (record { pref = jail.pref; fail = jail.fail; ignore_lines = jail.ignore_lines })
  pub ignore : AllOf IsCidr jail.ignore
  pub counts : AreGoodCounts (record { findtime = jail.findtime; maxretry = jail.maxretry; maxmatches = jail.maxmatches })
  pub rule : IsStorableRule jail.rule
  pub actions : AreLanesBehind [] jail.actions

jail_is : (bases : Bases) (jail filter : Source) (patterns : ℕ) (definition : JailDef) → IsJailName jail.section → jail_with bases jail filter patterns ≡ Ok definition →
    IsAcceptedJail jail.section definition
unfolding jail_with
jail_is bases jail filter patterns definition word is =
    let watches = bind_ok (own jail table.logpath) _ definition is in
    let zone = bind_ok (own jail table.logtimezone) _ definition watches.2 in
    let date = bind_ok (own_or jail filter table.datepattern) _ definition zone.2 in
    let lines = bind_ok (lines_of jail filter patterns) _ definition date.2 in
    let ignore = bind_ok (ignored_of jail) _ definition lines.2 in
    let offered = then_ok (unsupported_in jail filter) _ definition ignore.2 in
    let counts = bind_ok (counts_of jail) _ definition offered in
    let rule = bind_ok (rule_of jail) _ definition counts.2 in
    let actions = bind_ok (actions_of bases jail) _ definition rule.2 in
    subst (OfOk (IsAcceptedJail jail.section)) actions.2 (record {
      named = refl;
      word = word;
      watches = watches_are jail watches.0 watches.1;
      zone = own_good IsZone conf_zone zone_is jail (codes "logtimezone") (pos 0) zone.0 (refl, omega arith) zone.1;
      date = own_or_good IsShortDate conf_date date_is jail filter (codes "datepattern") Default date.0 tt date.1;
      lines = lines_are_short jail filter patterns lines.0 lines.1;
      ignore = ignored_are jail ignore.0 ignore.1;
      counts = counts_are jail counts.0 counts.1;
      rule = rule_is jail rule.0 rule.1;
      actions = actions_are bases jail actions.0 actions.1;
    })

is_below : (on below : Bool) (before : ℕ) (refusal : ConfError) → nat_lt before most_jails ≡ below →
    (refuse_if (on && not below) refusal >> Ok on) ≡ Ok true → before < 256
is_below true true before refusal less is = grind (arith, nat_tests, less)
is_below true false before refusal less is = absurd (cc)
is_below false below before refusal less is = absurd (cc)

enabled_is_few : (jail : Source) (before : ℕ) → is_enabled jail before ≡ Ok true → before < 256
unfolding is_enabled
enabled_is_few jail before is =
    let named = then_ok (refuse_if (not (is_jail_name jail.section)) (told jail [] BadName)) _ true is in
    let enabled = bind_ok (own jail table.enabled) _ true named in
    is_below enabled.0 (nat_lt before most_jails) before (told jail table.enabled.name TooMany) refl enabled.2

enabled_is_named : (jail : Source) (before : ℕ) → is_enabled jail before ≡ Ok true → IsJailName jail.section
unfolding is_enabled
enabled_is_named jail before is =
    name_is jail.section (by (is_jail_name jail.section) (was_not_refused (not (is_jail_name jail.section)) (told jail [] BadName) _ true is))
  where
    by : (named : Bool) → not named ≡ false → named ≡ true
    by true is = refl
    by false is = absurd (cc)

-- the next one of this name, behind these
record IsNext (name : List ℕ) (before : List JailDef) (jail : JailDef) : Type 0 where
  few : length before < 256
  good : IsAcceptedJail name jail

next_is : (bases : Bases) (jail : Source) (before : List JailDef) (definition : JailDef) → next_jail bases jail before ≡ Ok (Some definition) →
    IsNext jail.section before definition
unfolding next_jail jail_of
next_is bases jail before definition is =
    let enabled = bind_ok (is_enabled jail (length before)) _ (Some definition) is in
    by enabled.0 enabled.1 enabled.2
  where
    by : (enabled : Bool) → is_enabled jail (length before) ≡ Ok enabled →
        if_enabled bases jail (sum_by patterns_in before) enabled ≡ Ok (Some definition) →
        IsNext jail.section before definition
    by false on is = absurd (cc)
    by true on is =
        let found = bind_ok (jail_of bases jail (sum_by patterns_in before)) (λ d. Ok (Some d)) (Some definition) is in
        let same : found.0 ≡ definition = cc found.2 in
        let filter = bind_ok (filter_of bases jail) _ found.0 found.1 in
        subst (IsNext jail.section before) same (record {
          few = enabled_is_few jail (length before) on;
          good = jail_is bases (with_known filter.0.known jail) filter.0.source (sum_by patterns_in before) found.0 (enabled_is_named jail (length before) on) filter.2;
        })

-- ---- all jails

-- a definition of a jail that is accepted
abbrev pub IsAccepted : JailDef → Type 0
IsAccepted jail = IsAcceptedJail jail.name jail

abbrev pub names_of : List JailDef → List (List ℕ)
names_of jails = map (λ (jail : JailDef). jail.name) jails

-- the jails so far, where jails of these names are to come
pub record AreAccepted (coming : List (List ℕ)) (jails : List JailDef) : Type 0 where
  pub few : length jails ≤ 256
  pub patterns : sum_by patterns_in jails ≤ 512
  pub good : AllOf IsAccepted jails
  pub names : AreDistinct bytes_eq (names_of jails ++ coming)

good_by_name : (name : List ℕ) (jail : JailDef) → IsAcceptedJail name jail → IsAccepted jail
good_by_name name jail good = record {
  named = refl;
  word = good.word;
  watches = good.watches;
  zone = good.zone;
  date = good.date;
  lines = good.lines;
  ignore = good.ignore;
  counts = good.counts;
  rule = good.rule;
  actions = good.actions;
}

accepted_with : (bases : Bases) (sections : Sections) (before : List JailDef) (name : List ℕ) (names : List (List ℕ)) (jail : JailDef) →
    AreAccepted (name ∷ names) before → next_jail bases (of_jail sections name) before ≡ Ok (Some jail) → AreAccepted names (before ++ jail ∷ [])
accepted_with bases sections before name names jail are is = record {
  few = (let all = length-append before (jail ∷ []) in let below = next.few in omega (arith, all, below));
  patterns =
      (let all = sum_by-append patterns_in before (jail ∷ []) in
      let below : sum_by patterns_in before + patterns_in jail ≤ 512 = next_is_few bases (of_jail sections name) before jail is are.patterns in
      omega (arith, all, below));
  good = all_append IsAccepted before (jail ∷ []) are.good (good_by_name name jail next.good, tt);
  names =
      subst (AreDistinct bytes_eq)
      (ap (λ (x : List ℕ). names_of before ++ (x ∷ names)) (sym next.good.named)
      ∙ (sym (append_assoc (names_of before) (jail.name ∷ []) names)
      ∙ sym (ap (λ (xs : List (List ℕ)). xs ++ names) (map-append (λ (jail : JailDef). jail.name) before (jail ∷ [])))))
      are.names;
}
  where
    next : IsNext name before jail
    next = next_is bases (of_jail sections name) before jail is

accepted_next : (bases : Bases) (sections : Sections) (before : List JailDef) (name : List ℕ) (names : List (List ℕ)) (next : Option JailDef) →
    AreAccepted (name ∷ names) before → next_jail bases (of_jail sections name) before ≡ Ok next → AreAccepted names (with_next before next)
accepted_next bases sections before name names None are is =
    record { few = are.few; patterns = are.patterns; good = are.good; names = distinct_without bytes_eq (names_of before) name names are.names }
accepted_next bases sections before name names (Some jail) are is = accepted_with bases sections before name names jail are is

all_accepted : (bases : Bases) (sections : Sections) (before : List JailDef) (names : List (List ℕ)) (jails : List JailDef) →
    AreAccepted names before →
    jails_behind bases sections before names ≡ Ok jails → AreAccepted [] jails
all_accepted bases sections before [] jails are is = subst (OfOk (AreAccepted [])) is are
all_accepted bases sections before (name ∷ names) jails are is =
    let next = bind_ok (next_jail bases (of_jail sections name) before) (λ next. jails_behind bases sections (with_next before next) names) jails is in
    all_accepted bases sections (with_next before next.0) names jails (accepted_next bases sections before name names next.0 are next.1) next.2

-- ---- a configuration

sections_apart : (sections : Sections) → IsDistinct bytes_eq (keys_of sections) → AreDistinct bytes_eq (jail_names sections)
sections_apart sections apart =
    distinct_filter bytes_eq (λ name. not (bytes_eq name (codes "DEFAULT"))) (section_names sections) (distinct_from bytes_eq (section_names sections) apart)

pub settings_are : (tree : Tree) (settings : Settings) → conf tree ≡ Ok settings → AreAccepted [] settings.defs.jails
unfolding settings_in
settings_are tree settings is =
    let server = bind_ok (sections_of (bases_of (files_of tree)) (codes "fail2ban")) _ settings is in
    let socket = bind_ok (own (of_server server.0) table.socket) _ settings server.2 in
    let purge = bind_ok (own (of_server server.0) table.dbpurgeage) _ settings socket.2 in
    let sections = bind_ok (sections_of (bases_of (files_of tree)) (codes "jail")) _ settings purge.2 in
    let jails = bind_ok (jails_behind (bases_of (files_of tree)) sections.0 [] (jail_names sections.0)) _ settings sections.2 in
    let names : AreDistinct bytes_eq (jail_names sections.0) = sections_apart sections.0 (sections_are (files_of tree) (codes "jail") sections.0 sections.1).apart in
    subst (OfOk (λ (settings : Settings). AreAccepted [] settings.defs.jails)) jails.2
    (all_accepted (bases_of (files_of tree)) sections.0 [] (jail_names sections.0) jails.0 (none_yet (jail_names sections.0) names) jails.1)
  where
    none_yet : (names : List (List ℕ)) → AreDistinct bytes_eq names → AreAccepted names []
    none_yet names apart = record { few = omega arith; patterns = omega arith; good = tt; names = apart }

-- how long a ban that is over counts
pub purge_is : (tree : Tree) (settings : Settings) → conf tree ≡ Ok settings → settings.defs.purge ≤ longest_span
unfolding settings_in
purge_is tree settings is =
    let server = bind_ok (sections_of (bases_of (files_of tree)) (codes "fail2ban")) _ settings is in
    let socket = bind_ok (own (of_server server.0) table.socket) _ settings server.2 in
    let purge = bind_ok (own (of_server server.0) table.dbpurgeage) _ settings socket.2 in
    let sections = bind_ok (sections_of (bases_of (files_of tree)) (codes "jail")) _ settings purge.2 in
    let jails = bind_ok (jails_behind (bases_of (files_of tree)) sections.0 [] (jail_names sections.0)) _ settings sections.2 in
    let short : IsWithin 0 longest_span purge.0 =
    own_good (IsWithin 0 longest_span) (seconds_from 0) (seconds_are 0) (of_server server.0) (codes "dbpurgeage") 86_400 purge.0 (omega arith, omega arith) purge.1 in
    subst (OfOk (λ (settings : Settings). settings.defs.purge ≤ longest_span)) jails.2 short.1

pub conf_is_within : (tree : Tree) (settings : Settings) → conf tree ≡ Ok settings → AreWithinLimits settings.defs
conf_is_within tree settings is =
    let are : AreAccepted [] settings.defs.jails = settings_are tree settings is in
    record {
      jails = are.few;
      patterns = are.patterns;
      watches = all_weaker IsAccepted (λ (d : JailDef). length d.watches ≤ 64) (λ d good. good.watches.few) settings.defs.jails are.good;
      lanes = all_weaker IsAccepted (λ (d : JailDef). length d.actions ≤ 32) (λ d good. (let few = good.actions.few in omega (arith, few))) settings.defs.jails are.good;
    }

pub conf_is_fit : (tree : Tree) (settings : Settings) → conf tree ≡ Ok settings → AreFitDefs settings.defs
conf_is_fit tree settings is =
    let are : AreAccepted [] settings.defs.jails = settings_are tree settings is in
    record {
      maxretry = all_weaker IsAccepted (λ (d : JailDef). 1 ≤ d.maxretry) (λ d good. good.counts.1.0) settings.defs.jails are.good;
      names = subst (AreDistinct bytes_eq) (append-nil (names_of settings.defs.jails)) are.names;
      paths =
          all_weaker IsAccepted (λ (d : JailDef). AreDistinct bytes_eq (map (λ (w : WatchDef). w.path) d.watches)) (λ d good. good.watches.apart) settings.defs.jails are.good;
      actions = all_weaker IsAccepted (λ (d : JailDef). AreDistinct same_kind d.actions) (λ d good. good.actions.apart) settings.defs.jails are.good;
    }
