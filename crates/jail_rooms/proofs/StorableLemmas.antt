-- What can be stored is within the bounds that code asks for.
use Rattle.std.proofs.Common.{◌≡◌, ℕ, ◌≤◌, List, [], ◌∷◌, map, arith}
use Rattle.std.specs.Prelude.{All, ℤ, pos, negsuc, ◌≤ℤ◌}
use Rattle.std.proofs.lemmas.Int.{ints}
use Rattle.std.proofs.lemmas.List.Elements.{All-cons, All-nil}
use Rattle.f2b_base.specs.Span.{IsRule}
use Rattle.f2b_base.specs.declared.ban.Failure.{Failure}
use Rattle.f2b_base.specs.declared.ban.BanRule.{BanRule}
use Rattle.f2b_base.specs.declared.jail.JailDef.{JailDef}
use Rattle.f2b_base.specs.declared.view.JailView.{JailView}
use Rattle.f2b_base.specs.declared.view.View.{View}
use Rattle.f2b_model.specs.declared.jail_now.JailNow.{JailNow}
use Rattle.f2b_model.specs.Lists.{AllOf}
use Rattle.f2b_model.specs.Sound.{IsNumbered}
use Rattle.f2b_model.specs.Storable.{IsBase, IsStorableDef, IsStorableJail, IsStorableRule, IsWithin}
use Rattle.f2b_model.specs.StorableViews.{IsStorableView}
use Rattle.f2b_model.specs.Views.{jail_of, jails_of}
use Rattle.jail_moves.specs.Rooms.{IsStored}
use Rattle.f2b_model.specs.Bounds.{IsBounded}
use Rattle.jail_rooms.specs.Stored.{AreStored}

-- ---- definitions

-- how long a ban lasts by its rule
base_bounded : (base : ℤ) → IsBase base → base ≤ℤ pos 3153600000
base_bounded (pos secs) span = let most = span.1 in omega (arith, ints)
base_bounded (negsuc n) span = omega (arith, ints)

-- multipliers
multipliers_bounded : (ms : List ℕ) → AllOf (IsWithin 1 1000000) ms → All (λ m. m ≤ 1000000) ms
multipliers_bounded [] all = All-nil (λ m. m ≤ 1000000)
multipliers_bounded (m ∷ ms) all = All-cons (λ m. m ≤ 1000000) m ms all.0.1 (multipliers_bounded ms all.1)

-- a rule that can be stored is within its bounds
rule_bounded : (rule : BanRule) → IsStorableRule rule → IsRule rule
rule_bounded rule storable = record {
  base = base_bounded rule.base storable.base;
  factor = storable.factor.1;
  multipliers = multipliers_bounded rule.multipliers storable.multipliers;
  maxtime = storable.maxtime.1;
  rndtime = storable.rndtime;
}

-- a definition that can be stored is within its bounds
pub definition_bounded : (d : JailDef) → IsStorableDef d → IsBounded d
definition_bounded d storable = record {
  rule = rule_bounded d.rule storable.rule;
  findtime = storable.findtime.0;
  maxretry = storable.maxretry.0;
  most = (let most = storable.maxretry.1 in omega arith);
}

-- ---- views

-- what is stored of a jail that can be stored is within its bounds, where its bans are numbered and no failure is to come
jail_is_stored : (at next : ℕ) (d : JailDef) (v : JailView) → IsStorableJail (jail_of d v) → IsNumbered next v.bans → AllOf (λ (f : Failure). f.time ≤ at) v.failures
    → IsStored at next v
jail_is_stored at next d v storable numbered times = record {
  in_order = storable.ordered;
  times = times;
  rising = numbered.rising;
  once = storable.once;
  serials = numbered.below;
}

-- and so of all jails, where one is stored for each definition, of its name
all_are_stored : (at next : ℕ) (ds : List JailDef) (vs : List JailView) → map (λ (v : JailView). v.name) vs ≡ map (λ (d : JailDef). d.name) ds
    → AllOf IsStorableJail (jails_of ds vs) → AllOf (λ (j : JailNow). IsNumbered next j.bans) (jails_of ds vs)
    → AllOf (λ (v : JailView). AllOf (λ (f : Failure). f.time ≤ at) v.failures) vs → AreStored at next ds vs
all_are_stored at next [] [] named storable numbered times = tt
all_are_stored at next [] (v ∷ vs) named storable numbered times = absurd (let h : v.name ∷ map (λ (w : JailView). w.name) vs ≡ [] = named in cc)
all_are_stored at next (d ∷ ds) [] named storable numbered times = absurd (let h : [] ≡ d.name ∷ map (λ (e : JailDef). e.name) ds = named in cc)
all_are_stored at next (d ∷ ds) (v ∷ vs) named storable numbered times =
    let names : map (λ (w : JailView). w.name) vs ≡ map (λ (e : JailDef). e.name) ds =
    let h : v.name ∷ map (λ (w : JailView). w.name) vs ≡ d.name ∷ map (λ (e : JailDef). e.name) ds = named in cc in
    (definition_bounded d storable.0.definition, (jail_is_stored at next d v storable.0 numbered.0 times.0, all_are_stored at next ds vs names storable.1 numbered.1 times.1))

-- what a view that can be stored shows of the jails is within its bounds
pub storable_is_stored : (v : View) → IsStorableView v → AreStored v.at v.next_ban v.defs.jails v.jails
storable_is_stored v view = all_are_stored v.at v.next_ban v.defs.jails v.jails view.named view.now.jails view.now.numbered view.times
