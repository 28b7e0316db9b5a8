-- A server that goes on from its view.
use Rattle.std.proofs.Common.{◌≡◌, ℕ, ◌+◌, ◌<◌, ◌≤◌, List, [], ◌∷◌, suc, length, get_or, drop, add-one, refl, sym, ◌∙◌, ap, subst, drop-cons}
use Rattle.std.proofs.lemmas.List.{drop_all}
use Rattle.f2b_base.specs.declared.input.Input.{Input}
use Rattle.f2b_base.specs.declared.view.View.{View}
use Rattle.f2b_model.specs.Lists.{AllOf}
use Rattle.f2b_model.specs.Sound.{IsSound, IsSoundView}
use Rattle.f2b_model.specs.Storable.{IsStorable, IsStorableInput}
use Rattle.f2b_model.specs.Views.{gathered, spread, view_of}
use Rattle.f2b_model.specs.Whole.{State, Now, step_now, steps, steps_now}
use Rattle.f2b_model.proofs.WholeLemmas.{view_kept, view_sound, view_taken, whole_keeps}
use Rattle.f2b_model.specs.Bounds.{IsTakenInput}

-- ---- the model's steps

-- what shows a sound state's view still does after inputs
steps_shown : (inputs : List Input) (s : State) (n : Now) → AllOf IsTakenInput inputs → IsSound s → view_of s ≡ spread n → view_of (steps s inputs) ≡ spread (steps_now n inputs)
steps_shown [] s n taken sound is = is
steps_shown (input ∷ inputs) s n taken sound is =
    steps_shown inputs _ _ taken.1 (whole_keeps s input taken.0.fit sound) (view_taken s n input taken.0.fit sound is)

-- the view after inputs, from that of a sound state
pub again_shown : (s : State) (v : View) (core : Now) (inputs : List Input) → AllOf IsTakenInput inputs → IsSound s → view_of s ≡ v → (IsSoundView v → core ≡ gathered v)
    → spread (steps_now core inputs) ≡ view_of (steps s inputs)
again_shown s v core inputs taken sound is back =
    let shown : IsSoundView v = subst IsSoundView is (view_sound s sound) in
    sym (steps_shown inputs s core taken sound (is ∙ sym (view_kept v shown) ∙ ap spread (sym (back shown))))

-- ---- inputs one after the other

-- a core after the first inputs: those that are left lead where all of them do, and what can be stored still can
pub record IsOnTheWay (core : Now) (inputs : List Input) (after : Now) (i : ℕ) : Type 0 where
  pub state : steps_now after (drop i inputs) ≡ steps_now core inputs
  pub taken : AllOf IsTakenInput (drop i inputs)
  pub storable : IsStorable core → AllOf IsStorableInput inputs → IsStorable after × AllOf IsStorableInput (drop i inputs)

-- of what is left the next input stands first
next_first : (inputs : List Input) (i : ℕ) (x : Input) → i < length inputs → x ≡ get_or inputs i x → drop i inputs ≡ x ∷ drop (i + 1) inputs
next_first inputs i x within x_is = rw add-one (drop-cons inputs i x within ∙ ap (λ (y : Input). y ∷ drop (suc i) inputs) (sym x_is))

pub first_on_the_way : (core : Now) (inputs : List Input) → AllOf IsTakenInput inputs → IsOnTheWay core inputs core 0
first_on_the_way core inputs taken = record { state = refl; taken = taken; storable = λ s all. (s, all) }

-- the next input is taken
pub input_taken : (core : Now) (inputs : List Input) (after : Now) (i : ℕ) (x : Input) → i < length inputs → x ≡ get_or inputs i x → IsOnTheWay core inputs after i → IsTakenInput x
input_taken core inputs after i x within x_is on = (subst (AllOf IsTakenInput) (next_first inputs i x within x_is) on.taken).0

pub next_on_the_way : (core : Now) (inputs : List Input) (after next : Now) (i : ℕ) (x : Input) → i < length inputs → x ≡ get_or inputs i x → IsOnTheWay core inputs after i
    → next ≡ step_now after x → (IsStorable after → IsStorableInput x → IsStorable next) → IsOnTheWay core inputs next (i + 1)
next_on_the_way core inputs after next i x within x_is on is keeps =
    let cut = next_first inputs i x within x_is in
    record {
      state = ap (λ (n : Now). steps_now n (drop (i + 1) inputs)) is ∙ sym (ap (steps_now after) cut) ∙ on.state;
      taken = (subst (AllOf IsTakenInput) cut on.taken).1;
      storable = λ s all.
          let before = on.storable s all in
          let left = subst (AllOf IsStorableInput) cut before.1 in
          (keeps before.0 left.0, left.1);
    }

-- no input is left
pub all_on_the_way : (core : Now) (inputs : List Input) (after : Now) (i : ℕ) → length inputs ≤ i → IsOnTheWay core inputs after i → after ≡ steps_now core inputs
all_on_the_way core inputs after i past on = ap (steps_now after) (sym (drop_all i inputs past)) ∙ on.state
