use Rattle.std.proofs.Common.{◌≡◌, map, take}
use Rattle.std.specs.Prelude.{max}
use Rattle.f2b_base.specs.declared.view.JailView.{JailView}
use Rattle.client_replies.specs.Replies.{status_named}
use Rattle.client_replies.proofs.status.statuses.Given as goal

-- a status for each jail so far
abbrev pub invariant-loop-jail : goal.invariant-loop-jail
invariant-loop-jail l =
    l.texts ≡ map (λ (v : JailView). status_named (max l.core.jails.at l.now) l.core v.name) (take l.jail-index l.view.jails)
