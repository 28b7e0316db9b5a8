use Rattle.std.proofs.Common.{◌≡◌, ◌∙◌, ◌-◌, List, None, Some, length, take, drop, refl, ap}
use Rattle.std.specs.Prelude.{position}
use Rattle.log_set.proofs.CallLemmas.{all_behind, comes_next}
use Rattle.log_set.specs.Logs.{Logs}
use Rattle.log_set.specs.Searches.{is_log_awake}
use Rattle.log_set.specs.declared.jail_search.JailSearch.{JailSearch}
use Rattle.log_set.proofs.set.LogSet.next.Goals as goal

pub returns-in_err-place-clause-next : goal.returns-in_err-place-clause-next
returns-in_err-place-clause-next c =
    let set : Logs = record { jails = c.self.inside.jails.items; logs = c.self.inside.logs.items } in
    let logs = c.as_slice-2.result.now in
    let none : None ≡ position (is_log_awake set.jails) (drop c.args.from set.logs) =
    c.in_err-place.ensures.place
    ∙ ap (λ (js : List JailSearch). position (is_log_awake js) (take (length logs - c.args.from) (drop c.args.from logs))) c.as_slice.ensures.value
    ∙ ap (position (is_log_awake set.jails)) (all_behind logs c.args.from ∙ ap (drop c.args.from) c.as_slice-2.ensures.value) in
    rw (← c.self.view_is) (comes_next set c.args.from None _ none c.from_residual.ensures)

pub returns-clause-next : goal.returns-clause-next
returns-clause-next c =
    let set : Logs = record { jails = c.self.inside.jails.items; logs = c.self.inside.logs.items } in
    let logs = c.as_slice-2.result.now in
    let some : Some c.in_ok-place.place ≡ position (is_log_awake set.jails) (drop c.args.from set.logs) =
    c.in_ok-place.ensures.place
    ∙ ap (λ (js : List JailSearch). position (is_log_awake js) (take (length logs - c.args.from) (drop c.args.from logs))) c.as_slice.ensures.value
    ∙ ap (position (is_log_awake set.jails)) (all_behind logs c.args.from ∙ ap (drop c.args.from) c.as_slice-2.ensures.value) in
    rw (← c.self.view_is) (comes_next set c.args.from (Some c.in_ok-place.place) _ some refl)
