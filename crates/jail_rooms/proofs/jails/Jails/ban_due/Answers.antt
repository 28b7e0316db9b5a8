use Rattle.std.proofs.Common.{List, ◌∙◌, ap}
use Rattle.std.specs.List.{list_any}
use Rattle.f2b_model.specs.Steps.{is_ban_due, is_due, moves_now}
use Rattle.f2b_model.specs.declared.jail_now.JailNow.{JailNow}
use Rattle.jail_rooms.specs.Kept.{now_of}
use Rattle.jail_rooms.specs.Memory.{JailsKept}
use Rattle.jail_rooms.specs.declared.jail.Jail.{Jail}
use Rattle.jail_rooms.proofs.TakeLemmas.{any_now}
use Rattle.jail_rooms.proofs.jails.Jails.ban_due.Goals as goal

pub returns : goal.returns
returns c =
    c.is_ban_due.ensures
    ∙ ap (λ (js : List Jail). list_any (λ (j : Jail). list_any (is_due c.args.now) (now_of j).bans) js) c.as_slice.ensures.value
    ∙ any_now (λ (j : JailNow). list_any (is_due c.args.now) j.bans) c.self.inside.jails.items
    ∙ ap (λ (k : JailsKept). is_ban_due moves_now c.args.now k.state) c.self.view_is
