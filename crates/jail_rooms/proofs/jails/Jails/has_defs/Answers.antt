use Rattle.std.proofs.Common.{ℕ, List, map, sym, ◌∙◌, ap, ap₂}
use Rattle.f2b_base.specs.declared.jail.Defs.{Defs}
use Rattle.f2b_base.specs.declared.jail.JailDef.{JailDef}
use Rattle.f2b_model.specs.declared.jail_now.JailNow.{JailNow}
use Rattle.jail_rooms.specs.Kept.{now_of}
use Rattle.jail_rooms.specs.Memory.{JailsKept}
use Rattle.jail_rooms.specs.Shown.{defs_of}
use Rattle.jail_rooms.specs.declared.jail.Jail.{Jail}
use Rattle.jail_rooms.proofs.jails.Jails.has_defs.Goals as goal

pub returns-then-self-defs : goal.returns-then-self-defs
returns-then-self-defs c =
    let i = c.self.inside in
    let definitions : List Jail → List JailDef = λ js. map (λ (j : JailNow). j.definition) (map now_of js) in
    let listed = c.as_slice-then-self-defs.ensures in
    let held = ap definitions c.as_slice.ensures.value in
    let own = ap (λ (k : JailsKept). defs_of k.state) c.self.view_is in (
      λ t. ap₂ (λ (p : ℕ) (ds : List JailDef). let d : Defs = record { purge = p; jails = ds } in d) (sym c.if-self-defs.true) (sym listed ∙ c.are_definitions.ensures.0 t ∙ held) ∙ own,
      λ e. c.are_definitions.ensures.1 (listed ∙ ap (λ (d : Defs). d.jails) (e ∙ sym own) ∙ sym held),
    )
