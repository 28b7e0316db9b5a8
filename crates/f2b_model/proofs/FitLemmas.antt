-- The lanes of a configuration whose jails have distinct names, and whose jails have no action twice, are apart.
use Rattle.std.proofs.Common.{◌≡◌, ℕ, true, false, ◌&&◌, List, [], ◌∷◌, map, refl, sym, ◌∙◌, ap}
use Rattle.std.specs.Prelude.{bytes_eq}
use Rattle.std.specs.List.{list_any, flat_map}
use Rattle.std.specs.Cmp.Lexicographic.{bytes_decides}
use Rattle.std.proofs.lemmas.Bool.{and_parts, and_from}
use Rattle.std.proofs.lemmas.List.Folds.{list_any-append}
use Rattle.f2b_base.specs.declared.input.What.{What}
use Rattle.f2b_base.specs.declared.input.What.TheVariants.{Config}
use Rattle.f2b_base.specs.declared.jail.ActionDef.{ActionDef}
use Rattle.f2b_base.specs.declared.jail.Defs.{Defs}
use Rattle.f2b_base.specs.declared.jail.JailDef.{JailDef}
use Rattle.f2b_base.specs.declared.job.LaneId.{LaneId}
use Rattle.f2b_base.specs.declared.job.UpLane.{UpLane}
use Rattle.f2b_base.specs.Families.{same_family}
use Rattle.f2b_model.specs.LaneSound.{AreApart, AtMostOne, IsFitForLanes}
use Rattle.f2b_model.specs.Lanes.{lanes_of, lanes_of_jail}
use Rattle.f2b_model.specs.Lists.{AllOf, AreDistinct}
use Rattle.f2b_model.specs.Orders.{is_lane}
use Rattle.f2b_model.specs.Sound.{AreFitDefs, IsFitWhat, same_kind}
use Rattle.f2b_model.proofs.FullLemmas.{not_true_both}
use Rattle.f2b_model.proofs.HeldLemmas.{at_most_append, bytes_swap}
use Rattle.f2b_model.proofs.ListLemmas.{by_test}
use Rattle.f2b_model.proofs.SameLemmas.{bytes_eq-true, same_family-true, same_family-same}

-- a lane of a jail
abbrev lane : List ℕ → ActionDef → UpLane
lane jail action = record { jail = jail; action = action }

-- where one action makes the lane of an id, no other one of the jail does
no_other : (id : LaneId) (jail : List ℕ) (a : ActionDef) (bs : List ActionDef) → is_lane id (lane jail a) ≡ true → list_any (same_kind a) bs ≡ false
    → list_any (is_lane id) (map (lane jail) bs) ≡ false
no_other id jail a [] is h = refl
no_other id jail a (b ∷ bs) is h =
    by_test (same_kind a b) _
    (λ t. absurd (let k : true ≡ false = rw t at h in cc))
    (λ t.
    let h2 : list_any (same_kind a) bs ≡ false = rw t at h in
    by_test (is_lane id (lane jail b)) _
    (λ u.
    let mine = and_parts (bytes_eq jail id.jail) (bytes_eq a.name id.action && same_family a.family id.family) is in
    let own = and_parts (bytes_eq a.name id.action) (same_family a.family id.family) mine.1 in
    let its = and_parts (bytes_eq jail id.jail) (bytes_eq b.name id.action && same_family b.family id.family) u in
    let other = and_parts (bytes_eq b.name id.action) (same_family b.family id.family) its.1 in
    let name : a.name ≡ b.name = bytes_eq-true a.name id.action own.0 ∙ sym (bytes_eq-true b.name id.action other.0) in
    let family = same_family-true a.family id.family own.1 ∙ sym (same_family-true b.family id.family other.1) in
    absurd (not_true_both (same_kind a b)
    (and_from (bytes_eq a.name b.name) (same_family a.family b.family) ((bytes_decides a.name b.name).1 name) (ap (same_family a.family) (sym family) ∙ same_family-same a.family)) t))
    (λ u. rw u (no_other id jail a bs is h2)))

one_in_jail : (id : LaneId) (jail : List ℕ) (others : List ActionDef) → AreDistinct same_kind others → AtMostOne (is_lane id) (map (lane jail) others)
one_in_jail id jail [] d = tt
one_in_jail id jail (a ∷ others) d = ((λ is. no_other id jail a others is d.0), one_in_jail id jail others d.1)

-- the lanes of a jail have its name
of_jail : (id : LaneId) (jail : List ℕ) (others : List ActionDef) → list_any (is_lane id) (map (lane jail) others) ≡ true → bytes_eq jail id.jail ≡ true
of_jail id jail [] h = absurd (let k : false ≡ true = h in cc)
of_jail id jail (a ∷ others) h =
    by_test (is_lane id (lane jail a)) _
    (λ t. (and_parts (bytes_eq jail id.jail) _ t).0)
    (λ t. let h2 : list_any (is_lane id) (map (lane jail) others) ≡ true = rw t at h in of_jail id jail others h2)

none_elsewhere : (id : LaneId) (ds : List JailDef) → list_any (bytes_eq id.jail) (map (λ (d : JailDef). d.name) ds) ≡ false → list_any (is_lane id) (flat_map lanes_of_jail ds) ≡ false
none_elsewhere id [] h = refl
none_elsewhere id (d ∷ ds) h =
    by_test (bytes_eq id.jail d.name) _
    (λ t. absurd (let k : true ≡ false = rw t at h in cc))
    (λ t.
    let h2 : list_any (bytes_eq id.jail) (map (λ (e : JailDef). e.name) ds) ≡ false = rw t at h in
    let here : list_any (is_lane id) (lanes_of_jail d) ≡ false =
    by_test (list_any (is_lane id) (lanes_of_jail d)) _
    (λ u. absurd (not_true_both (bytes_eq id.jail d.name) (bytes_swap id.jail d.name ∙ of_jail id d.name d.actions u) t)) (λ u. u) in
    list_any-append (is_lane id) (lanes_of_jail d) (flat_map lanes_of_jail ds) ∙ (rw here (none_elsewhere id ds h2)))

lanes_once : (id : LaneId) (ds : List JailDef) → AreDistinct bytes_eq (map (λ (d : JailDef). d.name) ds) → AllOf (λ (d : JailDef). AreDistinct same_kind d.actions) ds
    → AtMostOne (is_lane id) (flat_map lanes_of_jail ds)
lanes_once id [] names actions = tt
lanes_once id (d ∷ ds) names actions =
    at_most_append (is_lane id) (lanes_of_jail d) (flat_map lanes_of_jail ds) (one_in_jail id d.name d.actions actions.0) (lanes_once id ds names.1 actions.1)
    (λ some.
    let same = bytes_eq-true d.name id.jail (of_jail id d.name d.actions some) in
    none_elsewhere id ds (ap (λ n. list_any (bytes_eq n) (map (λ (e : JailDef). e.name) ds)) (sym same) ∙ names.0))

pub lanes_apart : (defs : Defs) → AreFitDefs defs → AreApart (lanes_of defs)
lanes_apart defs fit = record { one = λ id. lanes_once id defs.jails fit.names fit.actions }

-- what is fit for the model is fit for the lanes
pub fit_for_lanes : (what : What) → IsFitWhat what → IsFitForLanes what
fit_for_lanes (Config defs) fit = lanes_apart defs fit
fit_for_lanes what fit = tt
