use Rattle.std.proofs.Common.{◌≡◌, ℕ, List, Option, Ok, true, false, ap, ◌∙◌, rules}
use Rattle.std.proofs.lemmas.Result.{err_from_is_err_and}
use Rattle.ini_interp.specs.Values.{value_in}
use Rattle.tag_subst.specs.Tags.{substituted}
use Rattle.jail_conf.specs.Fails.{tag_fail}
use Rattle.jail_conf.specs.Sources.{text_in}
use Rattle.jail_conf.proofs.FaultLemmas.{text_in-none, text_in-plain, text_in-replaced, text_in-fault, fault_of_value, fault_of_tags}
use Rattle.jail_conf.proofs.source.Source.text.Goals as goal

pub returns-in_err-text : goal.returns-in_err-text
unfolding text_in
returns-in_err-text c =
    let p = err_from_is_err_and c.from_residual.result c.from_residual.ensures.1 in
    rw (p.1, p.2)
    (fault_of_value c.args.tags.now (value_in c.args.self.now.sections c.args.self.now.scope c.args.name.now) c.in_err-text.field-0.0 c.in_err-text.ensures.fault)

pub returns-in_default : goal.returns-in_default
unfolding text_in
returns-in_default c =
    text_in-none c.args.tags.now (value_in c.args.self.now.sections c.args.self.now.scope c.args.name.now)
    (c.in_ok-text.ensures.ok ∙ ap (λ (found : Option (List ℕ)). Ok found) c.in_default.is)

pub returns-then-not-tags : goal.returns-then-not-tags
unfolding text_in
returns-then-not-tags c =
    let off : c.args.tags.now.tags ≡ false = search rules in
    text_in-plain c.args.tags.now (value_in c.args.self.now.sections c.args.self.now.scope c.args.name.now) c.in-Some.text
    (c.in_ok-text.ensures.ok ∙ ap (λ (found : Option (List ℕ)). Ok found) c.in-Some.is) off

pub returns-in_err-text-2 : goal.returns-in_err-text-2
unfolding text_in
returns-in_err-text-2 c =
    let on : c.args.tags.now.tags ≡ true = search rules in
    let p = err_from_is_err_and c.from_residual-in_err-text-2.result c.from_residual-in_err-text-2.ensures.1 in
    let of_tags = fault_of_tags (substituted c.args.tags.now.sections c.args.tags.now.scope c.as_str.result.now) c.in_err-text-2.field-0.0 c.in_err-text-2.ensures.fault in
    rw (p.1, p.2)
    (text_in-fault c.args.tags.now (value_in c.args.self.now.sections c.args.self.now.scope c.args.name.now) c.as_str.result.now (tag_fail c.in_err-text-2.field-0.0)
    (rw c.as_str.ensures.value (c.in_ok-text.ensures.ok ∙ ap (λ (found : Option (List ℕ)). Ok found) c.in-Some.is)) on of_tags)

pub returns : goal.returns
unfolding text_in
returns c =
    let on : c.args.tags.now.tags ≡ true = search rules in
    text_in-replaced c.args.tags.now (value_in c.args.self.now.sections c.args.self.now.scope c.args.name.now) c.as_str.result.now c.in_ok-text-2.text
    (rw c.as_str.ensures.value (c.in_ok-text.ensures.ok ∙ ap (λ (found : Option (List ℕ)). Ok found) c.in-Some.is)) on c.in_ok-text-2.ensures.ok
