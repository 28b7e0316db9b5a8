-- The items of a jail that is accepted: how long bans last, how many failures are one, and its patterns.
use Rattle.std.proofs.Common.{◌≡◌, ℕ, ◌+◌, ◌≤◌, min, true, false, [], length, None, Ok, codes, pos, subst, arith}
use Rattle.f2b_base.specs.declared.ban.BanRule.{BanRule}
use Rattle.f2b_model.specs.Lists.{AllOf}
use Rattle.f2b_model.specs.Storable.{IsBase, IsSpanOfTime, IsStorableRule, IsWithin}
use Rattle.jail_conf.specs.declared.counts.Counts.{Counts}
use Rattle.jail_conf.specs.declared.lines.Lines.{Lines}
use Rattle.jail_conf.specs.declared.source.Source.{Source}
use Rattle.jail_conf.specs.Jails.{lines_of, counts_of, rule_of}
use Rattle.jail_conf.specs.Numbers.{factor, multipliers, number_between}
use Rattle.jail_conf.specs.Patterns.{fail_patterns, ignore_patterns, prefix}
use Rattle.jail_conf.specs.Sources.{own, own_or}
use Rattle.jail_conf.specs.Table as table
use Rattle.jail_conf.specs.Times.{jitter, most_seconds, seconds_from, span}
use Rattle.jail_conf.specs.Words.{full_lines}
use Rattle.jail_conf.proofs.BoundLemmas.{AreGoodMultipliers, factor_is, jitter_is, multipliers_are, number_is_within, seconds_are, span_is}
use Rattle.jail_conf.proofs.GoodLemmas.{OfOk, bind_ok, then_ok, own_good, own_or_good}
use Rattle.jail_conf.proofs.PatternBounds.{AreShortLines, IsShort, IsShortPrefix, patterns_are_short, prefix_is}

-- how many failures in which time are a ban, and how many lines are kept
abbrev pub AreGoodCounts : Counts → Type 0
AreGoodCounts counts = IsSpanOfTime counts.findtime × IsWithin 1 100_000 counts.maxretry × (counts.maxmatches ≤ 1_000)

pub counts_are : (jail : Source) (counts : Counts) → counts_of jail ≡ Ok counts → AreGoodCounts counts
unfolding counts_of
counts_are jail counts is =
    let findtime = bind_ok (own jail table.findtime) _ counts is in
    let maxretry = bind_ok (own jail table.maxretry) _ counts findtime.2 in
    let maxmatches = bind_ok (own jail (table.maxmatches maxretry.0)) _ counts maxretry.2 in
    let time : IsSpanOfTime findtime.0 =
    own_good IsSpanOfTime (seconds_from 1) (seconds_are 1) jail (codes "findtime") 600 findtime.0 (omega arith, omega arith) findtime.1 in
    let some : IsWithin 1 100_000 maxretry.0 =
    own_good (IsWithin 1 100_000) (number_between 1 100_000) (number_is_within 1 100_000) jail (codes "maxretry") 5 maxretry.0 (omega arith, omega arith) maxretry.1 in
    let shown : maxmatches.0 ≤ 1_000 =
    own_good (λ n. n ≤ 1_000) (number_between 0 1_000) (λ text n read. (number_is_within 0 1_000 text n read).1) jail (codes "maxmatches") (min maxretry.0 1_000) maxmatches.0 (omega arith)
    maxmatches.1 in
    subst (OfOk AreGoodCounts) maxmatches.2 (time, some, shown)

-- how long bans last
pub rule_is : (jail : Source) (rule : BanRule) → rule_of jail ≡ Ok rule → IsStorableRule rule
unfolding rule_of
rule_is jail rule is =
    let base = bind_ok (own jail table.bantime) _ rule is in
    let increment = bind_ok (own jail table.bantime_increment) _ rule base.2 in
    let thousandths = bind_ok (own jail table.bantime_factor) _ rule increment.2 in
    let growth = bind_ok (own jail table.bantime_multipliers) _ rule thousandths.2 in
    let maxtime = bind_ok (own jail table.bantime_maxtime) _ rule growth.2 in
    let rndtime = bind_ok (own jail table.bantime_rndtime) _ rule maxtime.2 in
    let alone = then_ok (own jail table.bantime_overalljails) _ rule rndtime.2 in
    let listed : AreGoodMultipliers growth.0 =
    own_good AreGoodMultipliers multipliers multipliers_are jail (codes "bantime.multipliers") [] growth.0 (record { each = tt; few = omega arith }) growth.1 in
    subst (OfOk IsStorableRule) alone (record {
      base = own_good IsBase span span_is jail (codes "bantime") (pos 600) base.0 (omega arith, omega arith) base.1;
      factor = own_good (IsWithin 1 1_000_000) factor factor_is jail (codes "bantime.factor") 1_000 thousandths.0 (omega arith, omega arith) thousandths.1;
      multipliers = listed.each;
      most = listed.few;
      maxtime = own_good IsSpanOfTime (seconds_from 1) (seconds_are 1) jail (codes "bantime.maxtime") most_seconds maxtime.0 (omega arith, omega arith) maxtime.1;
      rndtime = own_good (λ n. n ≤ 1_000_000) jitter jitter_is jail (codes "bantime.rndtime") 0 rndtime.0 (omega arith) rndtime.1;
    })

-- which lines are failures
pub lines_are_short : (jail filter : Source) (patterns : ℕ) (lines : Lines) → lines_of jail filter patterns ≡ Ok lines → AreShortLines lines
unfolding lines_of
lines_are_short jail filter patterns lines is =
    let pref = bind_ok (own filter table.prefregex) _ lines is in
    let fail = bind_ok (own_or jail filter (table.failregex patterns)) _ lines pref.2 in
    let ignore = bind_ok (own_or jail filter (table.ignoreregex (patterns + length fail.0))) _ lines fail.2 in
    subst (OfOk AreShortLines) ignore.2 (record {
      pref = own_good IsShortPrefix prefix prefix_is filter (codes "prefregex") None pref.0 tt pref.1;
      fail =
          own_or_good (AllOf IsShort) (fail_patterns patterns) (λ text all read. patterns_are_short true patterns (full_lines text) all read) jail filter (codes "failregex") [] fail.0 tt fail.1;
      ignore_lines =
          own_or_good (AllOf IsShort) (ignore_patterns (patterns + length fail.0))
          (λ text all read. patterns_are_short false (patterns + length fail.0) (full_lines text) all read) jail filter (codes "ignoreregex") [] ignore.0 tt ignore.1;
    })
