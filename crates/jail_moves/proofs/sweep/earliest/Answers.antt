-- One window after the other.
use Rattle.std.proofs.Common.{◌≤◌, List, sym, ◌∙◌, subst, arith}
use Rattle.f2b_model.specs.Lists.{AllOf}
use Rattle.jail_moves.specs.declared.addresses.AddrWindow.{AddrWindow}
use Rattle.jail_moves.proofs.SweepLemmas.{not_before_values}
use Rattle.jail_moves.proofs.sweep.earliest.Goals as goal

pub loop-window-init : goal.loop-window-init
loop-window-init c = λ time le a.
    not_before_values time c.args.windows.now.entries
    (subst (λ (ws : List AddrWindow). AllOf (λ (w : AddrWindow). time ≤ w.latest) ws) (c.into_iter-window-iterator.ensures.into_iter_gives ∙ c.values-window-items.ensures.rest) a)

pub loop-window-preserved : goal.loop-window-preserved
loop-window-preserved c = λ time le a.
    c.loop-window.invariant time (omega arith)
    (subst (λ (ws : List AddrWindow). AllOf (λ (w : AddrWindow). time ≤ w.latest) ws) (sym c.in-Some.ensures.steps) (omega arith, a))

pub returns : goal.returns
returns c =
    c.loop-window.invariant c.loop-window.earliest (omega arith)
    (subst (λ (ws : List AddrWindow). AllOf (λ (w : AddrWindow). c.loop-window.earliest ≤ w.latest) ws) (sym c.in-None.ensures.steps.0) tt)
