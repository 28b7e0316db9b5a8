use Rattle.std.proofs.Common.{◌≡◌, Err, ap, ◌+◌, ◌∙◌, rules, arith}
use Rattle.filter_regex.specs.Roles.{place_of}
use Rattle.filter_regex.specs.declared.error.PatternError.TheVariants.{NoMemory}
use Rattle.filter_regex.proofs.ListLemmas.{one_text_more, more_made, more_failed, more_lost}
use Rattle.filter_regex.proofs.make.made_list.Goals as goal

pub returns-in_err-pattern-clause-calls : goal.returns-in_err-pattern-clause-calls
returns-in_err-pattern-clause-calls g c =
    let placed : c.place.result ≡ place_of c.args.role (c.loop-text.text-index + 1) = c.place.ensures ∙ ap (λ n. place_of c.args.role (n + 1)) c.loop-text.invariant.number in
    let outcome : c.from_residual.result ≡ Err c.in_err-pattern.field-0.0 = search rules in
    rw outcome
    (more_failed (place_of c.args.role) c.args.texts.now c.loop-text.text-index c.text-item.result c.loop-text-test.true c.text-item.is _ _ _
    c.loop-text.invariant.calls _ placed _ _ c.in_err-pattern.ensures)

pub returns-in_err-push-clause-calls : goal.returns-in_err-push-clause-calls
returns-in_err-push-clause-calls g c =
    let placed : c.place.result ≡ place_of c.args.role (c.loop-text.text-index + 1) = c.place.ensures ∙ ap (λ n. place_of c.args.role (n + 1)) c.loop-text.invariant.number in
    let outcome : c.from_residual-in_err-push.result ≡ Err NoMemory = search rules in
    rw outcome
    (more_lost (place_of c.args.role) c.args.texts.now c.loop-text.text-index c.text-item.result c.loop-text-test.true c.text-item.is _ _ _
    c.loop-text.invariant.calls _ placed _ _ c.in_ok-pattern.ensures)

pub loop-text-preserved : goal.loop-text-preserved
loop-text-preserved g c =
    let placed : c.place.result ≡ place_of c.args.role (c.loop-text.text-index + 1) = c.place.ensures ∙ ap (λ n. place_of c.args.role (n + 1)) c.loop-text.invariant.number in
    let more = one_text_more (place_of c.args.role) c.args.texts.now c.loop-text.text-index c.text-item.result c.loop-text-test.true c.text-item.is in
    record {
      number = omega arith;
      value = cc (c.in_ok-push.ensures.items, c.in_ok-pattern.ensures.0, more);
      calls = more_made (place_of c.args.role) c.args.texts.now c.loop-text.text-index c.text-item.result c.loop-text-test.true c.text-item.is _ _ _
          c.loop-text.invariant.calls _ placed _ c.in_ok-pattern.ensures;
    }
