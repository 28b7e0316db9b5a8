use Rattle.std.proofs.Common.{◌≡◌, ◌≤◌, ◌+◌, Err, length, get_or, refl, ap, ◌∙◌, rules, arith}
use Rattle.std.proofs.lemmas.List.{take_all}
use Rattle.date_detect.specs.Forms.{framed, usual_rule}
use Rattle.date_detect.specs.Usual.{usual_text}
use Rattle.date_detect.specs.declared.usual.UsualForm.TheVariants.{Iso}
use Rattle.date_detect.specs.declared.error.BuildError.TheVariants.{NoMemory}
use Rattle.date_detect.proofs.BuildLemmas.{have_none, have_more, fails_as, lacks, ends, text_more, text_order, form_more, text_take}
use Rattle.date_detect.proofs.build.usual.Goals as goal

pub loop-form-init : goal.loop-form-init
loop-form-init g c = (c.new-forms.ensures.items, have_none _)

pub returns-in_err-text-clause-calls : goal.returns-in_err-text-clause-calls
returns-in_err-text-clause-calls g c =
    let outcome : c.from_residual.result ≡ Err NoMemory = search rules in
    rw outcome (lacks _ c.loop-form.form-index _ _ (rw (text_take c.args.anchored c.args.usual.now c.loop-form.form-index) c.loop-form.invariant.1))

pub returns-in_err-pattern-clause-calls : goal.returns-in_err-pattern-clause-calls
returns-in_err-pattern-clause-calls g c =
    let outcome : c.from_residual-in_err-pattern.result ≡ Err c.in_err-pattern.field-0.0 = search rules in
    let text : c.as_str.result.now ≡ framed c.args.anchored (usual_text (get_or c.args.usual.now c.loop-form.form-index Iso)) =
    c.as_str.ensures.value ∙ c.in_ok-text.ensures ∙ ap (framed c.args.anchored) c.text.ensures in
    rw outcome
    (fails_as _ _ _ _ c.loop-form.invariant.1 _ _ _ _ c.in_err-pattern.field-0.0 text
    (text_order c.args.anchored c.args.usual.now c.loop-form.form-index Iso c.loop-form-test.true) c.in_err-pattern.ensures)

pub returns-in_err-push-clause-calls : goal.returns-in_err-push-clause-calls
returns-in_err-push-clause-calls g c =
    let outcome : c.from_residual-in_err-push.result ≡ Err NoMemory = search rules in
    let text : c.as_str.result.now ≡ framed c.args.anchored (usual_text (get_or c.args.usual.now c.loop-form.form-index Iso)) =
    c.as_str.ensures.value ∙ c.in_ok-text.ensures ∙ ap (framed c.args.anchored) c.text.ensures in
    let makes = rw text at c.in_ok-pattern.ensures in
    let have = have_more _ _ _ _ c.loop-form.invariant.1 _ c.in_ok-pattern.pattern makes in
    rw outcome (lacks _ (c.loop-form.form-index + 1) _ _
    (rw (
      text_take c.args.anchored c.args.usual.now (c.loop-form.form-index + 1),
      text_more c.args.anchored c.args.usual.now c.loop-form.form-index Iso c.loop-form-test.true,
    ) have))

pub loop-form-preserved : goal.loop-form-preserved
loop-form-preserved g c =
    let text : c.as_str.result.now ≡ framed c.args.anchored (usual_text (get_or c.args.usual.now c.loop-form.form-index Iso)) =
    c.as_str.ensures.value ∙ c.in_ok-text.ensures ∙ ap (framed c.args.anchored) c.text.ensures in
    let makes = rw text at c.in_ok-pattern.ensures in (
      rw (
        c.in_ok-push.ensures.items,
        makes.0,
        c.groups.ensures,
        c.loop-form.invariant.0,
        form_more c.args.anchored c.args.usual.now c.loop-form.form-index Iso c.loop-form-test.true,
      ) refl,
      rw (text_more c.args.anchored c.args.usual.now c.loop-form.form-index Iso c.loop-form-test.true)
          (have_more _ _ _ _ c.loop-form.invariant.1 _ c.in_ok-pattern.pattern makes),
    )

pub returns-clause-value : goal.returns-clause-value
returns-clause-value g c =
    let all : length c.args.usual.now ≤ c.loop-form.form-index = omega arith in
    rw c.loop-form.invariant.0 (ap (usual_rule c.args.anchored) (take_all c.loop-form.form-index c.args.usual.now all))

pub returns-clause-calls : goal.returns-clause-calls
returns-clause-calls g c =
    let all : length c.args.usual.now ≤ c.loop-form.form-index = omega arith in
    ends _ _ _ _ (rw (take_all c.loop-form.form-index c.args.usual.now all) at c.loop-form.invariant.1)
