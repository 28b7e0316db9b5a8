use Rattle.std.proofs.Common.{◌≤◌, ◌++◌, ◌∙◌, [], ap, ap₂, sym, subst, length, List, arith, rules}
use Rattle.std.specs.List.{cons_option}
use Rattle.f2b_base.specs.declared.ban.Failure.{Failure}
use Rattle.f2b_model.specs.Lists.{AllOf}
use Rattle.f2b_model.specs.Storable.{IsStorableFailure, most_at_once}
use Rattle.log_set.proofs.FailureLemmas.{all_more, few_taken}
use Rattle.log_set.proofs.FindLemmas.{one_more}
use Rattle.log_set.specs.Searches.{failure_by}
use Rattle.log_set.specs.declared.jail_search.JailSearch.{JailSearch}
use Rattle.log_set.proofs.jail_search.JailSearch.failures.Goals as goal

pub returns-clause-few : goal.returns-clause-few
returns-clause-few c =
    let held : length c.args.lines.now ≤ most_at_once = search rules in
    let few = few_taken (failure_by c.args.self.now c.args.now) c.loop-line.line-index c.args.lines.now in
    let found = ap length c.loop-line.invariant.found in
    omega arith

pub loop-line-preserved : goal.loop-line-preserved
loop-line-preserved c =
    let line = c.line-item.result in
    let now = c.args.now in
    record {
      same = c.in_ok-failure.ensures.same ∙ c.loop-line.invariant.same;
      found = c.in_ok-add.ensures
          ∙ ap₂ (λ (a b : List Failure). a ++ b) c.loop-line.invariant.found
          (ap (λ f. cons_option f []) c.in_ok-failure.ensures.found ∙ ap (λ (j : JailSearch). cons_option (failure_by j now line) []) c.loop-line.invariant.same)
          ∙ sym (one_more c.args.self.now now c.args.lines.now c.loop-line.line-index line c.loop-line-test.true c.line-item.is);
      storable = subst (AllOf IsStorableFailure) (sym c.in_ok-add.ensures) (all_more IsStorableFailure _ _ c.loop-line.invariant.storable c.in_ok-failure.ensures.storable);
    }
