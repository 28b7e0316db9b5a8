-- Jails that are not there, and what comes late.
use Rattle.std.proofs.Common.{◌≡◌, ℕ, Bool, true, false, List, Option, Some, None, refl}
use Rattle.std.specs.Option.{is_some, option_map}
use Rattle.f2b_model.specs.declared.jail_now.JailNow.{JailNow}
use Rattle.client_replies.specs.Refusals.{refusal_by, unless_there}

pub is_there : {A : Type 0} (f : JailNow → A) (o : Option JailNow) (x : A) (name : List ℕ) → option_map f o ≡ Some x → unless_there o name ≡ None
is_there f None x name is = absurd (let e : None ≡ Some x = is in cc)
is_there f (Some j) x name is = refl

pub is_gone : {A : Type 0} (f : JailNow → A) (o : Option JailNow) (name : List ℕ) → option_map f o ≡ None → unless_there o name ≡ Some name
is_gone f None name is = refl
is_gone f (Some j) name is = absurd (let e : Some (f j) ≡ None = is in cc)

pub late_is : (late : Bool) → is_some (refusal_by None late) ≡ late
late_is true = refl
late_is false = refl
