use Rattle.std.proofs.Common.{◌≡◌, List, ◌++◌, [], ◌∷◌, sym, ◌∙◌, ap, ap₂}
use Rattle.f2b_model.specs.Active.{held_in_jail, held_of}
use Rattle.f2b_model.specs.Orders.{Held}
use Rattle.f2b_model.specs.declared.jail_bans.JailBans.{JailBans}
use Rattle.jail_rooms.specs.declared.jail.Jail.{Jail}
use Rattle.jail_rooms.proofs.TakeLemmas.{held_item, held_push}
use Rattle.jail_rooms.proofs.stored.active_bans.Goals as goal

pub loop-jail-preserved : goal.loop-jail-preserved
loop-jail-preserved c =
    let j : Jail = c.jail-item.result in
    let entry : JailBans = record { jail = j.definition.name; bans = j.room.bans.active } in
    let pushed : c.push.new.self.items ≡ c.loop-jail.held.items ++ entry ∷ [] =
    c.in_ok-push.ensures.items
    ∙ ap₂ (λ n bs. c.loop-jail.held.items ++ (let e : JailBans = record { jail = n; bans = bs } in e) ∷ []) c.in_ok-copy.ensures c.in_ok-bans.ensures in
    ap held_of pushed
    ∙ held_push c.loop-jail.held.items entry
    ∙ ap (λ (r : List Held). r ++ held_in_jail entry) c.loop-jail.invariant
    ∙ sym (held_item c.args.jails.now c.loop-jail.jail-index j c.loop-jail-test.true c.jail-item.is)
