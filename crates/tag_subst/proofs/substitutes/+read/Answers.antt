use Rattle.std.proofs.Common.{◌≡◌, ◌∙◌, ◌-◌, Option, None, Some, Ok, lit<, sym, ap, rules, arith}
use Rattle.std.proofs.lemmas.Result.{err_from_is_err_and}
use Rattle.std.proofs.lemmas.Str.Pattern.{split_parts}
use Rattle.tag_subst.specs.declared.substitutes.Replacement.{Replacement}
use Rattle.tag_subst.specs.Marked.{cut}
use Rattle.tag_subst.specs.Tags.{closed, read}
use Rattle.tag_subst.specs.Values.{tag_value}
use Rattle.tag_subst.proofs.ReadLemmas.{closed-tag, read-plain, read-kept, read-fault, read-replaced, read-value_fault, read-same}
use Rattle.tag_subst.proofs.substitutes.+read.Goals as goal

pub returns-in_err-closed-clause-fault : goal.returns-in_err-closed-clause-fault
returns-in_err-closed-clause-fault t c =
    let value = tag_value c.args.sections.now c.args.scope.now in
    let split = split_parts 62 c.loop-plain.rest.now (Some (c.in-Some.plain, c.in-Some.behind)) c.in-Some.ensures.cases (lit< tt) in
    let p = err_from_is_err_and c.from_residual-in_err-closed.result c.from_residual-in_err-closed.ensures.1 in
    rw (p.1, p.2)
    (λ known. c.loop-plain.invariant.1
    ∙ read-fault value (10 - c.args.depth) c.args.depth c.loop-plain.rest.now c.in-Some.plain.now c.in-Some.behind.now c.loop-plain.kept c.add.new.self split.0 split.1
    c.in_ok-add.ensures c.in_err-closed.field-0.0 (c.in_err-closed.ensures.fault known))

pub cut-requires : goal.cut-requires
cut-requires t c =
    let value = tag_value c.args.sections.now c.args.scope.now in
    let found : closed value c.args.depth c.add.new.self ≡ Ok (Some c.in-Some-2.value) =
    c.in_ok-closed.ensures.ok ∙ ap (λ (found : Option Replacement). Ok found) c.in-Some-2.is in
    let tag = closed-tag value c.args.depth c.add.new.self c.in-Some-2.value found in
    tag.begins

pub read-requires : goal.read-requires
read-requires t c =
    let value = tag_value c.args.sections.now c.args.scope.now in
    let found : closed value c.args.depth c.add.new.self ≡ Ok (Some c.in-Some-2.value) =
    c.in_ok-closed.ensures.ok ∙ ap (λ (found : Option Replacement). Ok found) c.in-Some-2.is in
    let tag = closed-tag value c.args.depth c.add.new.self c.in-Some-2.value found in
    (omega (arith, tag.deeper, tag.within), tag.within)

pub returns-in_err-read-in-Some-2-clause-fault : goal.returns-in_err-read-in-Some-2-clause-fault
returns-in_err-read-in-Some-2-clause-fault t c =
    let value = tag_value c.args.sections.now c.args.scope.now in
    let split = split_parts 62 c.loop-plain.rest.now (Some (c.in-Some.plain, c.in-Some.behind)) c.in-Some.ensures.cases (lit< tt) in
    let found : closed value c.args.depth c.add.new.self ≡ Ok (Some c.in-Some-2.value) =
    c.in_ok-closed.ensures.ok ∙ ap (λ (found : Option Replacement). Ok found) c.in-Some-2.is in
    let same = read-same value (10 - c.in-Some-2.value.depth) c.in-Some-2.value.depth c.as_str-inner.result.now c.in-Some-2.value.text c.cut.new.self
    (cut c.in-Some-2.value.place c.add.new.self) c.as_str-inner.ensures.value c.cut.ensures in
    let p = err_from_is_err_and c.from_residual-in_err-read-in-Some-2.result c.from_residual-in_err-read-in-Some-2.ensures.1 in
    rw (p.1, p.2)
    (λ known. c.loop-plain.invariant.1
    ∙ read-value_fault value (10 - c.args.depth) c.args.depth c.loop-plain.rest.now c.in-Some.plain.now c.in-Some.behind.now c.loop-plain.kept c.add.new.self split.0
    split.1 c.in_ok-add.ensures c.in-Some-2.value c.in_err-read-in-Some-2.field-0.0 (omega arith) found (sym same ∙ c.in_err-read-in-Some-2.ensures.fault known))

pub loop-plain-preserved-in_ok-add-in-None : goal.loop-plain-preserved-in_ok-add-in-None
loop-plain-preserved-in_ok-add-in-None t c =
    let value = tag_value c.args.sections.now c.args.scope.now in
    let split = split_parts 62 c.loop-plain.rest.now (Some (c.in-Some.plain, c.in-Some.behind)) c.in-Some.ensures.cases (lit< tt) in
    let found : closed value c.args.depth c.add.new.self ≡ Ok None =
    c.in_ok-closed.ensures.ok ∙ ap (λ (found : Option Replacement). Ok found) c.in-None.is in (
      search rules,
      c.loop-plain.invariant.1
          ∙ read-kept value (10 - c.args.depth) c.args.depth c.loop-plain.rest.now c.in-Some.plain.now c.in-Some.behind.now c.loop-plain.kept c.add.new.self split.0
          split.1 c.in_ok-add.ensures found
          ∙ ap (read value (10 - c.args.depth) c.args.depth c.in-Some.behind.now) (sym c.in_ok-add-in-None.ensures),
    )

pub loop-plain-preserved : goal.loop-plain-preserved
loop-plain-preserved t c =
    let value = tag_value c.args.sections.now c.args.scope.now in
    let split = split_parts 62 c.loop-plain.rest.now (Some (c.in-Some.plain, c.in-Some.behind)) c.in-Some.ensures.cases (lit< tt) in
    let found : closed value c.args.depth c.add.new.self ≡ Ok (Some c.in-Some-2.value) =
    c.in_ok-closed.ensures.ok ∙ ap (λ (found : Option Replacement). Ok found) c.in-Some-2.is in
    let same = read-same value (10 - c.in-Some-2.value.depth) c.in-Some-2.value.depth c.as_str-inner.result.now c.in-Some-2.value.text c.cut.new.self
    (cut c.in-Some-2.value.place c.add.new.self) c.as_str-inner.ensures.value c.cut.ensures in (
      search rules,
      c.loop-plain.invariant.1
          ∙ read-replaced value (10 - c.args.depth) c.args.depth c.loop-plain.rest.now c.in-Some.plain.now c.in-Some.behind.now c.loop-plain.kept c.add.new.self split.0
          split.1 c.in_ok-add.ensures c.in-Some-2.value c.read.new.kept (omega arith) found (sym same ∙ c.in_ok-read-in-Some-2.ensures.ok),
    )

pub returns-clause-ok : goal.returns-clause-ok
returns-clause-ok t c =
    let none = split_parts 62 c.loop-plain.rest.now None c.in_default.ensures.cases (lit< tt) in
    c.loop-plain.invariant.1
    ∙ read-plain (tag_value c.args.sections.now c.args.scope.now) (10 - c.args.depth) c.args.depth c.loop-plain.rest.now c.loop-plain.kept none
    ∙ ap (λ kept. Ok kept) (sym c.in_ok-add-2.ensures)
