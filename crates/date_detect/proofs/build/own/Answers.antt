use Rattle.std.proofs.Common.{◌≡◌, Err, refl, ap, ◌∙◌, rules}
use Rattle.date_words.specs.Directives.{expanded}
use Rattle.date_detect.specs.Forms.{framed}
use Rattle.date_detect.specs.declared.error.BuildError.TheVariants.{NoMemory}
use Rattle.date_detect.proofs.BuildLemmas.{have_none, have_more, fails_as, lacks, ends}
use Rattle.date_detect.proofs.build.own.Goals as goal

pub returns-in_err-expanded-clause-calls : goal.returns-in_err-expanded-clause-calls
returns-in_err-expanded-clause-calls g c =
    let outcome : c.from_residual.result ≡ Err NoMemory = search rules in
    rw outcome (lacks _ 0 _ _ (have_none _))

pub returns-in_err-text-clause-calls : goal.returns-in_err-text-clause-calls
returns-in_err-text-clause-calls g c =
    let outcome : c.from_residual-in_err-text.result ≡ Err NoMemory = search rules in
    rw outcome (lacks _ 0 _ _ (have_none _))

pub returns-in_err-pattern-clause-calls : goal.returns-in_err-pattern-clause-calls
returns-in_err-pattern-clause-calls g c =
    let outcome : c.from_residual-in_err-pattern.result ≡ Err c.in_err-pattern.field-0.0 = search rules in
    let text : c.as_str-2.result.now ≡ framed c.args.anchored (expanded c.args.text.now) =
    c.as_str-2.ensures.value ∙ c.in_ok-text.ensures ∙ ap (framed c.args.anchored) (c.as_str.ensures.value ∙ c.in_ok-expanded.ensures) in
    rw outcome (fails_as _ _ _ _ (have_none _) _ _ _ _ c.in_err-pattern.field-0.0 text refl c.in_err-pattern.ensures)

pub returns-in_err-groups-clause-calls : goal.returns-in_err-groups-clause-calls
returns-in_err-groups-clause-calls g c =
    let outcome : c.from_residual-in_err-groups.result ≡ Err NoMemory = search rules in
    let text : c.as_str-2.result.now ≡ framed c.args.anchored (expanded c.args.text.now) =
    c.as_str-2.ensures.value ∙ c.in_ok-text.ensures ∙ ap (framed c.args.anchored) (c.as_str.ensures.value ∙ c.in_ok-expanded.ensures) in
    rw outcome (lacks _ 1 _ _ (have_more _ _ _ _ (have_none _) _ c.in_ok-pattern.pattern (rw text at c.in_ok-pattern.ensures)))

pub returns-in_err-push-clause-calls : goal.returns-in_err-push-clause-calls
returns-in_err-push-clause-calls g c =
    let outcome : c.from_residual-in_err-push.result ≡ Err NoMemory = search rules in
    let text : c.as_str-2.result.now ≡ framed c.args.anchored (expanded c.args.text.now) =
    c.as_str-2.ensures.value ∙ c.in_ok-text.ensures ∙ ap (framed c.args.anchored) (c.as_str.ensures.value ∙ c.in_ok-expanded.ensures) in
    rw outcome (lacks _ 1 _ _ (have_more _ _ _ _ (have_none _) _ c.in_ok-pattern.pattern (rw text at c.in_ok-pattern.ensures)))

pub returns-clause-calls : goal.returns-clause-calls
returns-clause-calls g c =
    let text : c.as_str-2.result.now ≡ framed c.args.anchored (expanded c.args.text.now) =
    c.as_str-2.ensures.value ∙ c.in_ok-text.ensures ∙ ap (framed c.args.anchored) (c.as_str.ensures.value ∙ c.in_ok-expanded.ensures) in
    ends _ _ _ _ (have_more _ _ _ _ (have_none _) _ c.in_ok-pattern.pattern (rw text at c.in_ok-pattern.ensures))
