use Rattle.std.proofs.Common.{◌≡◌, max, List, map, ◌∙◌, ap, arith, rules}
use Rattle.f2b_model.specs.Nows.{JailsNow}
use Rattle.f2b_model.specs.Steps.{at_reading, ended_by_time, moves_now}
use Rattle.f2b_model.specs.declared.jail_now.JailNow.{JailNow}
use Rattle.jail_rooms.specs.Kept.{now_of}
use Rattle.jail_rooms.specs.Memory.{JailsKept}
use Rattle.jail_rooms.proofs.MovedLemmas.{kept_whole, moved_whole}
use Rattle.jail_rooms.proofs.jails.Jails.raised.Goals as goal

pub returns-clause-jails : goal.returns-clause-jails
returns-clause-jails c =
    let i = c.self.inside in
    let at = c.max-at.result in
    let at_is : at ≡ max i.at c.args.secs = search rules in
    ap (λ (js : List JailNow). let w : JailsNow = record { at = at; purge = i.purge; jails = js; next_ban = i.next_ban } in w)
    (moved_whole (ended_by_time moves_now at) at i.jails.items c.as_mut_slice.result.now c.end_due_bans.new.jails _ (search rules) (search rules) c.in_ok-end_due_bans.ensures.jails)
    ∙ ap (λ t. let w : JailsNow = record { at = t; purge = i.purge; jails = map (ended_by_time moves_now t) (map now_of i.jails.items); next_ban = i.next_ban } in w) at_is
    ∙ ap (λ (k : JailsKept). at_reading moves_now c.args.secs k.state) c.self.view_is

pub invariant_of-result : goal.invariant_of-result
invariant_of-result c =
    let i = c.self.inside in
    let at = c.max-at.result in
    let at_is : at ≡ max i.at c.args.secs = search rules in
    let before = c.self.invariant.0 in
    let most = c.requires in (
      omega arith,
      kept_whole (ended_by_time moves_now at) i.at at i.next_ban i.jails.items c.as_mut_slice.result.now c.end_due_bans.new.jails _ (omega arith) (search rules) (search rules)
          c.in_ok-end_due_bans.ensures.jails c.self.invariant.1,
    )
