use Rattle.std.proofs.Common.{List, ◌∙◌, ap, arith, rules}
use Rattle.f2b_model.specs.NowMoves.{dropped_now}
use Rattle.f2b_model.specs.Nows.{JailsNow}
use Rattle.f2b_model.specs.Steps.{each_jail, moves_now}
use Rattle.f2b_model.specs.declared.jail_now.JailNow.{JailNow}
use Rattle.jail_rooms.specs.Memory.{JailsKept}
use Rattle.jail_rooms.proofs.MovedLemmas.{kept_whole, moved_whole}
use Rattle.jail_rooms.proofs.jails.Jails.dropped.Goals as goal

pub returns-clause-jails : goal.returns-clause-jails
returns-clause-jails c =
    let i = c.self.inside in
    ap (λ (js : List JailNow). let w : JailsNow = record { at = i.at; purge = i.purge; jails = js; next_ban = i.next_ban } in w)
    (moved_whole (dropped_now i.at i.purge) i.at i.jails.items c.as_mut_slice.result.now c.drop_old_bans.new.jails _ (search rules) (search rules) c.drop_old_bans.ensures)
    ∙ ap (λ (k : JailsKept). each_jail moves_now (dropped_now k.state.at k.state.purge) k.state) c.self.view_is

pub invariant_of-result : goal.invariant_of-result
invariant_of-result c =
    let i = c.self.inside in (
      c.self.invariant.0,
      kept_whole (dropped_now i.at i.purge) i.at i.at i.next_ban i.jails.items c.as_mut_slice.result.now c.drop_old_bans.new.jails _
          (omega arith) (search rules) (search rules) c.drop_old_bans.ensures c.self.invariant.1,
    )
