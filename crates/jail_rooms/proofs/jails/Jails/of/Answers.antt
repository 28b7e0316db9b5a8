use Rattle.std.proofs.Common.{◌≡◌, List, map, sym, ◌∙◌, ap, ap₂, subst}
use Rattle.f2b_base.specs.declared.jail.JailDef.{JailDef}
use Rattle.f2b_base.specs.declared.view.JailView.{JailView}
use Rattle.f2b_base.specs.declared.view.View.{View}
use Rattle.f2b_model.specs.declared.jail_now.JailNow.{JailNow}
use Rattle.f2b_model.specs.Nows.{JailsNow}
use Rattle.f2b_model.specs.StorableViews.{jails_taken_up}
use Rattle.jail_rooms.specs.Kept.{now_of}
use Rattle.jail_rooms.specs.Stored.{AreStored}
use Rattle.jail_rooms.proofs.StorableLemmas.{storable_is_stored}
use Rattle.jail_rooms.proofs.jails.Jails.of.Goals as goal

-- what is stored of the jails, where it was read
are_stored : (v : View) (ds : List JailDef) (vs : List JailView) → ds ≡ v.defs.jails → vs ≡ v.jails → AreStored v.at v.next_ban v.defs.jails v.jails → AreStored v.at v.next_ban ds vs
are_stored v ds vs definitions views stored =
    subst (λ (r : List JailDef). AreStored v.at v.next_ban r vs) (sym definitions) (subst (λ (r : List JailView). AreStored v.at v.next_ban v.defs.jails r) (sym views) stored)

pub jails_of-requires : goal.jails_of-requires
jails_of-requires c =
    let v = c.args.view.now in
    (v.next_ban, are_stored v c.as_slice.result.now c.as_slice-2.result.now c.as_slice.ensures c.as_slice-2.ensures (storable_is_stored v c.requires))

pub returns-clause-jails : goal.returns-clause-jails
returns-clause-jails c =
    let v = c.args.view.now in
    let jails : map now_of c.in_ok-jails.jails.items ≡ jails_taken_up v.at v.defs.jails v.jails =
    c.in_ok-jails.ensures.jails ∙ ap₂ (jails_taken_up v.at) c.as_slice.ensures c.as_slice-2.ensures in
    ap (λ (js : List JailNow). let w : JailsNow = record { at = v.at; purge = v.defs.purge; jails = js; next_ban = v.next_ban } in w) jails

pub invariant_of-result : goal.invariant_of-result
invariant_of-result c =
    let v = c.args.view.now in
    (c.requires.now.at, c.in_ok-jails.ensures.kept v.next_ban (are_stored v c.as_slice.result.now c.as_slice-2.result.now c.as_slice.ensures c.as_slice-2.ensures (storable_is_stored v c.requires)))
