-- What can be stored can be taken.
use Rattle.std.proofs.Common.{ℕ, ◌<◌, ◌≤◌, List, [], ◌∷◌, length, map, get_or, zero, suc, ℤ, arith}
use Rattle.std.specs.Prelude.{◌≤ℤ◌, All, pos, negsuc, bytes_eq}
use Rattle.std.proofs.lemmas.Int.{ints}
use Rattle.f2b_base.specs.Span.{IsRule}
use Rattle.f2b_base.specs.declared.ban.BanRule.{BanRule}
use Rattle.f2b_base.specs.declared.input.Input.{Input}
use Rattle.f2b_base.specs.declared.input.What.{What}
use Rattle.f2b_base.specs.declared.input.What.TheVariants.{Config, Findtime, Bantime, Maxretry}
use Rattle.f2b_base.specs.declared.jail.Defs.{Defs}
use Rattle.f2b_base.specs.declared.jail.JailDef.{JailDef}
use Rattle.f2b_base.specs.declared.jail.WatchDef.{WatchDef}
use Rattle.f2b_model.specs.Lists.{AllOf, AreDistinct}
use Rattle.f2b_model.specs.Sound.{AreFitDefs, IsFitWhat, same_kind}
use Rattle.f2b_model.specs.Storable.{IsBase, IsWithin, AreStorableDefs, IsStorableDef, IsStorableInput, IsStorableRule, IsStorableWhat}
use Rattle.f2b_model.proofs.StepLemmas.{all_of-more}
use Rattle.f2b_model.specs.Bounds.{IsBounded, IsBoundedWhat, IsTakenInput}

-- one more element
all_more : (P : ℕ → Type 0) (x : ℕ) (xs : List ℕ) → P x → All P xs → (k : ℕ) (d : ℕ) → k < length (x ∷ xs) → P (get_or (x ∷ xs) k d)
all_more P x xs one all zero d h = one
all_more P x xs one all (suc k) d h = all k d (omega arith)

-- each number within bounds is at most the upper one
each_below : (least most : ℕ) (xs : List ℕ) → AllOf (IsWithin least most) xs → All (λ m. m ≤ most) xs
each_below least most [] a = λ k d h. absurd (omega arith)
each_below least most (x ∷ xs) a = all_more (λ m. m ≤ most) x xs a.0.1 (each_below least most xs a.1)

-- the first span of a rule is at most a hundred years
base_bounded : (base : ℤ) → IsBase base → base ≤ℤ pos 3153600000
base_bounded (pos secs) h = omega (arith, ints)
base_bounded (negsuc n) h = omega (arith, ints)

rule_bounded : (r : BanRule) → IsStorableRule r → IsRule r
rule_bounded r s = record {
  base = base_bounded r.base s.base;
  factor = s.factor.1;
  multipliers = each_below 1 1000000 r.multipliers s.multipliers;
  maxtime = s.maxtime.1;
  rndtime = s.rndtime;
}

def_bounded : (d : JailDef) → IsStorableDef d → IsBounded d
def_bounded d s = record { rule = rule_bounded d.rule s.rule; findtime = s.findtime.0; maxretry = s.maxretry.0; most = omega (arith, s.maxretry.1) }

defs_fit : (defs : Defs) → AreStorableDefs defs → AreFitDefs defs
defs_fit defs s = record {
  maxretry = all_of-more IsStorableDef (λ (d : JailDef). 1 ≤ d.maxretry) (λ d one. one.maxretry.0) defs.jails s.jails;
  names = s.names;
  paths = all_of-more IsStorableDef (λ (d : JailDef). AreDistinct bytes_eq (map (λ (w : WatchDef). w.path) d.watches)) (λ d one. one.paths) defs.jails s.jails;
  actions = all_of-more IsStorableDef (λ (d : JailDef). AreDistinct same_kind d.actions) (λ d one. one.kinds) defs.jails s.jails;
}

what_fit : (what : What) → IsStorableWhat what → IsFitWhat what
what_fit (Maxretry jail number) s = s.1.0
what_fit (Config defs) s = defs_fit defs s
what_fit _ s = tt

what_bounded : (what : What) → IsStorableWhat what → IsBoundedWhat what
what_bounded (Config defs) s = all_of-more IsStorableDef IsBounded def_bounded defs.jails s.jails
what_bounded (Findtime jail secs) s = s.1.0
what_bounded (Bantime jail secs) s = base_bounded secs s.1
what_bounded (Maxretry jail number) s = (s.1.0, omega (arith, s.1.1))
what_bounded _ s = tt

-- an input that can be stored can be taken
pub storable_taken : (input : Input) → IsStorableInput input → IsTakenInput input
storable_taken input s = record { fit = record { secs = s.secs; what = what_fit input.what s.what }; bounded = what_bounded input.what s.what }
