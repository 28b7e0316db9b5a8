use Rattle.std.proofs.Common.{◌≡◌, ◌∙◌, ◌<◌, List, ℕ, Err, sym, ap, option_copied, arith}
use Rattle.ini_interp.specs.declared.value_error.InterpError.TheVariants.{Missing, TooDeep}
use Rattle.ini_interp.proofs.ValuesLemmas.{replaced-deepest, replaced-found, replaced-missing}
use Rattle.ini_interp.proofs.values.text_to_read.Goals as goal

pub returns-then-depth-eq0-clause-fault : goal.returns-then-depth-eq0-clause-fault
returns-then-depth-eq0-clause-fault c = λ _.
    replaced-deepest c.args.sections.now c.args.scope.now c.args.reference.now c.args.depth (omega arith)
    ∙ ap (λ (name : List ℕ). Err (TooDeep name)) (sym (c.in_ok-from_str.ensures ∙ c.name_of-name.ensures))

pub returns-in-Some-clause-ok : goal.returns-in-Some-clause-ok
returns-in-Some-clause-ok c =
    replaced-found c.args.sections.now c.args.scope.now c.args.reference.now c.args.depth c.in-Some.text.now (omega arith)
    (sym (ap option_copied c.in-Some.is) ∙ c.in_ok-text.ensures)

pub returns-in_ok-from_str-in-None-clause-fault : goal.returns-in_ok-from_str-in-None-clause-fault
returns-in_ok-from_str-in-None-clause-fault c = λ _.
    replaced-missing c.args.sections.now c.args.scope.now c.args.reference.now c.args.depth (omega arith) (sym (ap option_copied c.in-None.is) ∙ c.in_ok-text.ensures)
    ∙ ap (λ (name : List ℕ). Err (Missing name)) (sym (c.in_ok-from_str-in-None.ensures ∙ c.name_of-name.ensures))
