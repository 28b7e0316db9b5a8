use Rattle.std.proofs.Common.{ℕ, cond, List, ◌∙◌, ap, arith, rules}
use Rattle.f2b_model.specs.Nows.{JailsNow}
use Rattle.f2b_model.specs.Steps.{each_jail, is_meant_jail, moves_now, unbanned}
use Rattle.f2b_model.specs.declared.jail_now.JailNow.{JailNow}
use Rattle.jail_rooms.specs.Memory.{JailsKept}
use Rattle.jail_rooms.proofs.MovedLemmas.{kept_whole, moved_whole}
use Rattle.jail_rooms.proofs.jails.Jails.unbanned.Goals as goal

pub returns-clause-jails : goal.returns-clause-jails
returns-clause-jails c =
    let i = c.self.inside in
    let move : ℕ → JailNow → JailNow = λ at j. cond (is_meant_jail c.args.name.now j.definition) (unbanned moves_now at c.args.addrs.now j) j in
    ap (λ (js : List JailNow). let w : JailsNow = record { at = i.at; purge = i.purge; jails = js; next_ban = i.next_ban } in w)
    (moved_whole (move i.at) i.at i.jails.items c.as_mut_slice.result.now c.unban_jails.new.jails _ (search rules) (search rules) c.in_ok-unban_jails.ensures.jails)
    ∙ ap (λ (k : JailsKept). each_jail moves_now (move k.state.at) k.state) c.self.view_is

pub invariant_of-result : goal.invariant_of-result
invariant_of-result c =
    let i = c.self.inside in (
      c.self.invariant.0,
      kept_whole (λ (j : JailNow). cond (is_meant_jail c.args.name.now j.definition) (unbanned moves_now i.at c.args.addrs.now j) j) i.at i.at i.next_ban i.jails.items c.as_mut_slice.result.now c.unban_jails.new.jails _
          (omega arith) (search rules) (search rules) c.in_ok-unban_jails.ensures.jails c.self.invariant.1,
    )
