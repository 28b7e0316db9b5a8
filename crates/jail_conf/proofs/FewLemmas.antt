-- How many patterns the jails have together.
use Rattle.std.proofs.Common.{◌≡◌, ◌∙◌, ℕ, ◌+◌, ◌≤◌, Bool, true, false, List, [], ◌∷◌, ◌++◌, length, Option, None, Some, Result, Ok, Err, codes, sym, ap, subst, arith}
use Rattle.std.specs.Prelude.{sum_by, IfSome}
use Rattle.std.proofs.lemmas.List.Sums.{sum_by-append}
use Rattle.f2b_base.specs.declared.jail.JailDef.{JailDef}
use Rattle.jail_conf.specs.declared.conf_error.ConfError.{ConfError}
use Rattle.jail_conf.specs.declared.lines.Lines.{Lines}
use Rattle.jail_conf.specs.declared.source.Source.{Source}
use Rattle.jail_conf.specs.Actions.{actions_of}
use Rattle.jail_conf.specs.Conf.{is_enabled, if_enabled, patterns_in, next_jail}
use Rattle.jail_conf.specs.Jails.{filter_of, lines_of, ignored_of, counts_of, rule_of, unsupported_in, jail_with, jail_of}
use Rattle.jail_conf.specs.Patterns.{most_patterns}
use Rattle.jail_conf.specs.Sources.{Bases, with_known, own, own_or}
use Rattle.jail_conf.specs.Table as table
use Rattle.jail_conf.proofs.GoodLemmas.{bind_ok, then_ok, patterns_are_few}

-- those of a jail are among them
pub lines_are_few : (jail filter : Source) (patterns : ℕ) (lines : Lines) → lines_of jail filter patterns ≡ Ok lines → patterns ≤ most_patterns →
    patterns + (length lines.fail + length lines.ignore_lines) ≤ most_patterns
unfolding lines_of
lines_are_few jail filter patterns lines is few =
    let pref = bind_ok (own filter table.prefregex) _ lines is in
    let fail = bind_ok (own_or jail filter (table.failregex patterns)) _ lines pref.2 in
    let ignore = bind_ok (own_or jail filter (table.ignoreregex (patterns + length fail.0))) _ lines fail.2 in
    let first : patterns + length fail.0 ≤ most_patterns = patterns_are_few true jail filter (codes "failregex") patterns fail.0 fail.1 few in
    let both : (patterns + length fail.0) + length ignore.0 ≤ most_patterns = patterns_are_few false jail filter (codes "ignoreregex") (patterns + length fail.0) ignore.0 ignore.1 first in
    let same : record { pref = pref.0; fail = fail.0; ignore_lines = ignore.0 } ≡ lines = cc ignore.2 in
    subst (λ (lines : Lines). patterns + (length lines.fail + length lines.ignore_lines) ≤ most_patterns) same (omega (arith, both))

-- how many a definition has, where there is one
abbrev count_in : Result JailDef ConfError → ℕ
count_in (Ok jail) = patterns_in jail
count_in (Err refusal) = 0

pub jail_is_few : (bases : Bases) (jail filter : Source) (patterns : ℕ) (definition : JailDef) → jail_with bases jail filter patterns ≡ Ok definition → patterns ≤ most_patterns →
    patterns + patterns_in definition ≤ most_patterns
unfolding jail_with
jail_is_few bases jail filter patterns definition is few =
    let watches = bind_ok (own jail table.logpath) _ definition is in
    let zone = bind_ok (own jail table.logtimezone) _ definition watches.2 in
    let date = bind_ok (own_or jail filter table.datepattern) _ definition zone.2 in
    let lines = bind_ok (lines_of jail filter patterns) _ definition date.2 in
    let ignore = bind_ok (ignored_of jail) _ definition lines.2 in
    let offered = then_ok (unsupported_in jail filter) _ definition ignore.2 in
    let counts = bind_ok (counts_of jail) _ definition offered in
    let rule = bind_ok (rule_of jail) _ definition counts.2 in
    let actions = bind_ok (actions_of bases jail) _ definition rule.2 in
    let count : length lines.0.fail + length lines.0.ignore_lines ≡ patterns_in definition = ap count_in actions.2 in
    let below : patterns + (length lines.0.fail + length lines.0.ignore_lines) ≤ most_patterns = lines_are_few jail filter patterns lines.0 lines.1 few in
    omega (arith, count, below)

pub next_is_few : (bases : Bases) (jail : Source) (before : List JailDef) (definition : JailDef) → next_jail bases jail before ≡ Ok (Some definition) →
    sum_by patterns_in before ≤ most_patterns → sum_by patterns_in before + patterns_in definition ≤ most_patterns
unfolding next_jail jail_of
next_is_few bases jail before definition is few =
    let enabled = bind_ok (is_enabled jail (length before)) _ (Some definition) is in
    by enabled.0 enabled.2
  where
    by : (enabled : Bool) → if_enabled bases jail (sum_by patterns_in before) enabled ≡ Ok (Some definition) → sum_by patterns_in before + patterns_in definition ≤ most_patterns
    by false is = absurd (cc)
    by true is =
        let found = bind_ok (jail_of bases jail (sum_by patterns_in before)) (λ d. Ok (Some d)) (Some definition) is in
        let same : found.0 ≡ definition = cc found.2 in
        let filter = bind_ok (filter_of bases jail) _ found.0 found.1 in
        subst (λ (d : JailDef). sum_by patterns_in before + patterns_in d ≤ most_patterns) same
        (jail_is_few bases (with_known filter.0.known jail) filter.0.source (sum_by patterns_in before) found.0 filter.2 few)

-- the next jail's are among them, where there is one
pub next_fits : (bases : Bases) (jail : Source) (before : List JailDef) (next : Option JailDef) (patterns : ℕ) → next_jail bases jail before ≡ Ok next →
    sum_by patterns_in before ≡ patterns → patterns ≤ most_patterns → IfSome next (λ d. patterns + patterns_in d ≤ most_patterns)
next_fits bases jail before None patterns is counted few = tt
next_fits bases jail before (Some definition) patterns is counted few =
    subst (λ n. n + patterns_in definition ≤ most_patterns) counted (next_is_few bases jail before definition is (subst (λ n. n ≤ most_patterns) (sym counted) few))

-- and with it
pub counted_with : (before : List JailDef) (definition : JailDef) (patterns : ℕ) → sum_by patterns_in before ≡ patterns →
    sum_by patterns_in (before ++ definition ∷ []) ≡ patterns + (length definition.fail + length definition.ignore_lines)
counted_with before definition patterns counted = sum_by-append patterns_in before (definition ∷ []) ∙ grind (arith, counted)
