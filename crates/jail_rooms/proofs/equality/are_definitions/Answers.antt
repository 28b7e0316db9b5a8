use Rattle.std.proofs.Common.{◌≡◌, ◌<◌, ℕ, zero, suc, true, false, List, [], ◌∷◌, length, get_or, map, refl, sym, ◌∙◌, ap, arith}
use Rattle.f2b_base.specs.declared.jail.JailDef.{JailDef}
use Rattle.f2b_model.specs.declared.jail_now.JailNow.{JailNow}
use Rattle.jail_rooms.specs.Kept.{now_of}
use Rattle.jail_rooms.specs.declared.jail.Jail.{Jail}
use Rattle.jail_rooms.proofs.equality.are_definitions.Goals as goal

-- the definition of a jail stands at its place
own_definition : (i : ℕ) (js : List Jail) (ds : List JailDef) (j : Jail) (d : JailDef) → i < length js → j ≡ get_or js i j → d ≡ get_or ds i d
    → ds ≡ map (λ (k : JailNow). k.definition) (map now_of js) → d ≡ j.definition
own_definition i [] ds j d lt j_is d_is e = absurd (omega arith)
own_definition zero (k ∷ js) ds j d lt j_is d_is e = d_is ∙ ap (λ (r : List JailDef). get_or r 0 d) e ∙ sym (ap (λ (r : Jail). r.definition) j_is)
own_definition (suc i) (k ∷ js) ds j d lt j_is d_is e =
    own_definition i js (map (λ (m : JailNow). m.definition) (map now_of js)) j d (omega arith) j_is (d_is ∙ ap (λ (r : List JailDef). get_or r (suc i) d) e) refl

pub returns-then-not-same : goal.returns-then-not-same
returns-then-not-same c = (
  λ t. absurd (let k : false ≡ true = t in cc),
  λ e.
      let same = own_definition c.loop-index.index c.args.jails.now c.args.definitions.now c.index-jails-index.result c.index-definitions-index.result c.loop-index-test.true c.index-jails-index.is c.index-definitions-index.is e in
      c.if-not-same.ensures.1 same,
)
