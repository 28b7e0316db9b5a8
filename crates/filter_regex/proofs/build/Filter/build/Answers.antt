use Rattle.std.proofs.Common.{◌≡◌, Err, rules}
use Rattle.filter_regex.proofs.BuildLemmas.{dates_failed, pref_failed, fail_failed, ignore_failed, all_made}
use Rattle.filter_regex.proofs.build.Filter.build.Goals as goal

pub returns-in_err-dates-clause-calls : goal.returns-in_err-dates-clause-calls
returns-in_err-dates-clause-calls g c =
    let outcome : c.from_residual.result ≡ Err c.in_err-dates.field-0.0 = search rules in
    rw outcome (dates_failed c.args.jail.now _ _ _ _ c.in_err-dates.ensures.calls)

pub returns-in_err-pref-clause-calls : goal.returns-in_err-pref-clause-calls
returns-in_err-pref-clause-calls g c =
    let outcome : c.from_residual-in_err-pref.result ≡ Err c.in_err-pref.field-0.0 = search rules in
    rw outcome (pref_failed c.args.jail.now _ _ _ c.in_ok-dates.ensures.calls _ _ _ c.in_err-pref.ensures.calls)

pub returns-in_err-fail-clause-calls : goal.returns-in_err-fail-clause-calls
returns-in_err-fail-clause-calls g c =
    let outcome : c.from_residual-in_err-fail.result ≡ Err c.in_err-fail.field-0.0 = search rules in
    rw outcome
    (fail_failed c.args.jail.now _ _ _ c.in_ok-dates.ensures.calls _ _ c.in_ok-pref.ensures.calls _ _ _
    (rw c.as_slice.ensures at c.in_err-fail.ensures.calls))

pub returns-in_err-ignore_lines-clause-calls : goal.returns-in_err-ignore_lines-clause-calls
returns-in_err-ignore_lines-clause-calls g c =
    let outcome : c.from_residual-in_err-ignore_lines.result ≡ Err c.in_err-ignore_lines.field-0.0 = search rules in
    rw outcome
    (ignore_failed c.args.jail.now _ _ _ c.in_ok-dates.ensures.calls _ _ c.in_ok-pref.ensures.calls _ _
    (rw c.as_slice.ensures at c.in_ok-fail.ensures.calls) _ _ _
    (rw c.as_slice-2.ensures at c.in_err-ignore_lines.ensures.calls))

pub returns-clause-calls : goal.returns-clause-calls
returns-clause-calls g c =
    all_made c.args.jail.now _ _ _ c.in_ok-dates.ensures.calls _ _ c.in_ok-pref.ensures.calls _ _
    (rw c.as_slice.ensures at c.in_ok-fail.ensures.calls) _ _
    (rw c.as_slice-2.ensures at c.in_ok-ignore_lines.ensures.calls) _
