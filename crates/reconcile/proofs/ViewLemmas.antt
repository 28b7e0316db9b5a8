-- What is stored, and what it comes to with an input more, or by its own view alone.
use Rattle.std.proofs.Common.{◌≡◌, ◌≤◌, List, [], ◌∷◌, ◌++◌, refl, sym, ap, subst, ◌∙◌}
use Rattle.f2b_base.specs.declared.ban.Failure.{Failure}
use Rattle.f2b_base.specs.declared.input.Input.{Input}
use Rattle.f2b_base.specs.declared.view.JailView.{JailView}
use Rattle.f2b_base.specs.declared.view.View.{View}
use Rattle.f2b_model.specs.Lanes.{books_now}
use Rattle.f2b_model.specs.Laws.{AreWatched}
use Rattle.f2b_model.specs.Lists.{AllOf}
use Rattle.f2b_model.specs.Sound.{IsRisingEnds, IsSound, IsSoundView}
use Rattle.f2b_model.specs.Stands.{IsShown}
use Rattle.f2b_model.specs.Steps.{moves_now}
use Rattle.f2b_model.specs.Storable.{IsStorable, IsStorableInput}
use Rattle.f2b_model.specs.Views.{jail_view, spread, gathered, view_of, back}
use Rattle.f2b_model.specs.Whole.{State, Now, is_whole_spent, now_of, step, steps, step_now}
use Rattle.f2b_model.proofs.ApartLemmas.{stored_fits}
use Rattle.f2b_model.proofs.ListLemmas.{by_test}
use Rattle.f2b_model.proofs.StandLemmas.{all_shown}
use Rattle.f2b_model.proofs.StepLemmas.{all_of-map}
use Rattle.f2b_model.proofs.WatchLemmas.{step_watched}
use Rattle.f2b_model.proofs.WholeLemmas.{gathered_spread, view_sound, view_taken, whole_keeps, whole_shows}
use Rattle.jail_core.proofs.StoredLemmas.{view_storable}
use Rattle.journal_slots.specs.Tops.{Stored}
use Rattle.record_codec.specs.Views.{IsRecordedView}
use Rattle.slot_writes.specs.Rests.{and_input, just_view}
use Rattle.reconcile.specs.Opens.{ComesTo}

-- ---- steps

-- the last of some steps
steps-append : (s : State) (inputs : List Input) (i : Input) → steps s (inputs ++ i ∷ []) ≡ step (steps s inputs) i
steps-append s [] i = refl
steps-append s (x ∷ inputs) i = steps-append (step s x) inputs i

-- one more element
pub all_of-append : {A : Type 0} (P : A → Type 0) (xs : List A) (x : A) → AllOf P xs → P x → AllOf P (xs ++ x ∷ [])
all_of-append P [] x all one = (one, tt)
all_of-append P (y ∷ xs) x all one = (all.0, all_of-append P xs x all.1 one)

pub steps_sound : (s : State) (inputs : List Input) → AllOf IsStorableInput inputs → IsSound s → IsSound (steps s inputs)
steps_sound s [] all sound = sound
steps_sound s (x ∷ inputs) all sound = steps_sound (step s x) inputs all.1 (whole_keeps s x (stored_fits x all.0) sound)

-- the jails of a state watch what is defined
abbrev StateWatches : State → Type 0
StateWatches s = AreWatched (now_of s).jails

now_watches : (n : Now) (i : Input) → AreWatched n.jails → AreWatched (step_now n i).jails
now_watches n i a = by_test (is_whole_spent moves_now books_now n) (AreWatched (step_now n i).jails) (λ t. rw t a) (λ t. rw t (step_watched n.jails i a))

step_watches : (s : State) (i : Input) → IsStorableInput i → IsSound s → StateWatches s → StateWatches (step s i)
step_watches s i storable sound a = subst (λ (n : Now). AreWatched n.jails) (sym (whole_shows s i (stored_fits i storable) sound)) (now_watches (now_of s) i a)

steps_watch : (s : State) (inputs : List Input) → AllOf IsStorableInput inputs → IsSound s → StateWatches s → StateWatches (steps s inputs)
steps_watch s [] all sound a = a
steps_watch s (x ∷ inputs) all sound a =
    steps_watch (step s x) inputs all.1 (whole_keeps s x (stored_fits x all.0) sound) (step_watches s x all.0 sound a)

-- ---- a state and its view

-- a state that has the view of a middle state has that middle state
now_is : (s : State) (n : Now) → view_of s ≡ spread n → now_of s ≡ n
now_is s n same = sym (gathered_spread (now_of s)) ∙ ap gathered same ∙ gathered_spread n

pub back_now : (v : View) → IsSoundView v → now_of (back v) ≡ gathered v
back_now v is = sym (gathered_spread (now_of (back v))) ∙ ap gathered is.same

-- what always holds of the jails of a sound state
shown_of : (s : State) → IsSound s → AllOf (IsShown s.jails.at) (now_of s).jails.jails
shown_of s sound = all_shown s.jails.at s.jails.jails sound.from.jails.jails

-- The view of a sound state that can be stored, and watches just what is defined, can be written.
view_recorded : (s : State) → IsSound s → IsStorable (now_of s) → StateWatches s → IsRecordedView (view_of s)
view_recorded s sound storable watched =
    let n = now_of s in
    let shown = shown_of s sound in
    let times = all_of-map (IsShown n.jails.at) (λ (v : JailView). AllOf (λ (f : Failure). f.time ≤ n.jails.at) v.failures) jail_view (λ j is. is.none_later) n.jails.jails shown in
    record {
      storable = view_storable n storable watched times;
      ends = all_of-map (IsShown n.jails.at) (λ (v : JailView). IsRisingEnds v.past) jail_view (λ j is. is.rising) n.jails.jails shown;
    }

-- ---- what was stored

module _ (stored : Stored) (core : Now) (comes : ComesTo stored (spread core)) where
  abbrev reached : State
  reached = steps (back stored.view) stored.inputs

  reached_sound : IsSound reached
  reached_sound = steps_sound (back stored.view) stored.inputs comes.inputs comes.sound.sound

  reached_watches : StateWatches reached
  reached_watches = steps_watch (back stored.view) stored.inputs comes.inputs comes.sound.sound
      (subst (λ (n : Now). AreWatched n.jails) (sym (back_now stored.view comes.sound)) comes.view.watched)

  -- its view can be written
  pub comes_recorded : IsStorable core → IsRecordedView (spread core)
  comes_recorded storable =
      subst IsRecordedView (sym comes.after) (view_recorded reached reached_sound (subst IsStorable (sym (now_is reached core (sym comes.after))) storable) reached_watches)

  -- with an input more it comes to the view after that
  pub comes_on : (i : Input) → IsStorableInput i → ComesTo (and_input stored i) (spread (step_now core i))
  comes_on i storable = record {
    sound = comes.sound;
    view = comes.view;
    inputs = all_of-append IsStorableInput stored.inputs i comes.inputs storable;
    after = sym (ap view_of (steps-append (back stored.view) stored.inputs i) ∙ view_taken reached core i (stored_fits i storable) reached_sound (sym comes.after));
  }

  -- its view alone comes to the same
  pub comes_alone : IsStorable core → ComesTo (just_view (spread core)) (spread core)
  comes_alone storable =
      let sound : IsSoundView (spread core) = subst IsSoundView (sym comes.after) (view_sound reached reached_sound) in
      record { sound = sound; view = (comes_recorded storable).storable; inputs = tt; after = sym sound.same }
