use Rattle.std.proofs.Common.{List, ◌∙◌, ap}
use Rattle.std.specs.List.{list_any}
use Rattle.f2b_model.specs.declared.jail_now.JailNow.{JailNow}
use Rattle.jail_rooms.specs.Kept.{now_of}
use Rattle.jail_rooms.specs.Memory.{JailsKept}
use Rattle.jail_rooms.specs.declared.jail.Jail.{Jail}
use Rattle.jail_rooms.proofs.TakeLemmas.{any_now}
use Rattle.jail_rooms.proofs.jails.Jails.is_any_idle.Goals as goal

pub returns : goal.returns
returns c =
    c.is_any_idle.ensures
    ∙ ap (λ (js : List Jail). list_any (λ (j : Jail). (now_of j).idle) js) c.as_slice.ensures.value
    ∙ any_now (λ (j : JailNow). j.idle) c.self.inside.jails.items
    ∙ ap (λ (k : JailsKept). list_any (λ (j : JailNow). j.idle) k.state.jails) c.self.view_is
