-- States that a journal can keep: sound ones, whose views can be stored as long as serials and ids are not used up.
use Rattle.std.proofs.Common.{ℕ, ◌≡◌, ◌≤◌, ◌^◌, ◌||◌, nat_lt, Bool, true, false, List, [], ◌∷◌, ◌++◌, map, refl, sym, ap, ◌∙◌, subst, arith}
use Rattle.std.proofs.lemmas.Bool.{ltb-false}
use Rattle.f2b_base.specs.declared.ban.Failure.{Failure}
use Rattle.f2b_base.specs.declared.input.Input.{Input}
use Rattle.f2b_base.specs.declared.jail.JailDef.{JailDef}
use Rattle.f2b_base.specs.declared.view.JailView.{JailView}
use Rattle.f2b_base.specs.declared.view.View.{View}
use Rattle.f2b_model.specs.declared.jail_now.JailNow.{JailNow}
use Rattle.f2b_model.specs.Lanes.{books, books_now}
use Rattle.f2b_model.specs.Laws.{AreWatched}
use Rattle.f2b_model.specs.Lists.{AllOf}
use Rattle.f2b_model.specs.Sound.{IsFit, IsRisingEnds, IsSound, IsSoundView}
use Rattle.f2b_model.specs.Stands.{IsShown}
use Rattle.f2b_model.specs.Steps.{is_spent, moves, moves_now}
use Rattle.f2b_model.specs.Storable.{IsStorable, IsStorableInput}
use Rattle.f2b_model.specs.Views.{back, empty_view, gathered, jail_view, spread, view_of}
use Rattle.f2b_model.specs.Whole.{Now, State, is_whole_spent, now_of, step, step_now, steps}
use Rattle.f2b_model.proofs.ApartLemmas.{stored_fits}
use Rattle.f2b_model.proofs.ListLemmas.{by_test}
use Rattle.f2b_model.proofs.StandLemmas.{all_shown}
use Rattle.f2b_model.proofs.StorableWholeLemmas.{first_stored, whole_stored}
use Rattle.f2b_model.proofs.WatchLemmas.{step_watched}
use Rattle.f2b_model.proofs.WholeLemmas.{back_sound, gathered_spread, view_again, whole_keeps, whole_shows}
use Rattle.record_codec.specs.Views.{IsRecordedView}

-- serials and ids are not used up
abbrev pub IsLive : State → Type 0
IsLive s = is_whole_spent moves books s ≡ false

pub record IsFine (s : State) : Type 0 where
  pub sound : IsSound s
  pub watched : AreWatched (now_of s).jails
  pub storable : IsLive s → IsStorable (now_of s)

-- ---- a step

-- once they are used up a step changes nothing
live_before : (s : State) (i : Input) → IsLive (step s i) → IsLive s
live_before s i live = by_test (is_whole_spent moves books s) _
    (λ t. let same : step s i ≡ s = rw t refl in subst IsLive same live)
    (λ t. t)

second_is : (a b : Bool) → (a || b) ≡ false → b ≡ false
second_is true b is = absurd (let e : true ≡ false = is in cc)
second_is false b is = is

live_ids : (s : State) → IsLive s → s.lanes.next_job ≤ 2 ^ 62
live_ids s live = ltb-false (2 ^ 62) s.lanes.next_job (second_is (is_spent s.jails) (nat_lt (2 ^ 62) s.lanes.next_job) live)

watched_on : (n : Now) (i : Input) → AreWatched n.jails → AreWatched (step_now n i).jails
watched_on n i watched = by_test (is_whole_spent moves_now books_now n) _
    (λ t. rw t watched)
    (λ t. rw t (step_watched n.jails i watched))

pub fine_step : (s : State) (i : Input) → IsStorableInput i → IsFine s → IsFine (step s i)
fine_step s i stored fine =
    let fit : IsFit i = stored_fits i stored in
    let now_is = whole_shows s i fit fine.sound in
    record {
      sound = whole_keeps s i fit fine.sound;
      watched = subst (λ (n : Now). AreWatched n.jails) (sym now_is) (watched_on (now_of s) i fine.watched);
      storable = λ live.
          let ids : (now_of (step s i)).lanes.next_job ≤ 2 ^ 62 = live_ids (step s i) live in
          let few : (step_now (now_of s) i).lanes.next_job ≤ 2 ^ 62 = subst (λ (n : Now). n.lanes.next_job ≤ 2 ^ 62) now_is ids in
          subst IsStorable (sym now_is) (whole_stored (now_of s) i stored (omega (arith, few)) (fine.storable (live_before s i live)));
    }

pub fine_steps : (s : State) (inputs : List Input) → AllOf IsStorableInput inputs → IsFine s → IsFine (steps s inputs)
fine_steps s [] stored fine = fine
fine_steps s (i ∷ inputs) stored fine = fine_steps (step s i) inputs stored.1 (fine_step s i stored.0 fine)

pub steps_more : (s : State) (inputs : List Input) (i : Input) → steps s (inputs ++ i ∷ []) ≡ step (steps s inputs) i
steps_more s [] i = refl
steps_more s (j ∷ inputs) i = steps_more (step s j) inputs i

-- ---- views

now_same : (s t : State) → view_of s ≡ view_of t → now_of s ≡ now_of t
now_same s t same = sym (gathered_spread (now_of s)) ∙ ap gathered same ∙ gathered_spread (now_of t)

-- two states with one view have one view behind an input
pub alike_step : (s t : State) (i : Input) → IsStorableInput i → IsFine s → IsFine t → view_of s ≡ view_of t → view_of (step s i) ≡ view_of (step t i)
alike_step s t i stored fine other same =
    let fit : IsFit i = stored_fits i stored in
    ap spread (whole_shows s i fit fine.sound ∙ ap (λ (n : Now). step_now n i) (now_same s t same) ∙ sym (whole_shows t i fit other.sound))

-- the state that a view gives back
pub fine_back : (s : State) → IsFine s → IsFine (back (view_of s))
fine_back s fine =
    let now_is : now_of (back (view_of s)) ≡ now_of s = now_same (back (view_of s)) s (view_again s fine.sound) in
    record {
      sound = back_sound s fine.sound;
      watched = subst (λ (n : Now). AreWatched n.jails) (sym now_is) fine.watched;
      storable = λ live. subst IsStorable (sym now_is) (fine.storable live);
    }

same_names : (js : List JailNow) → map (λ (v : JailView). v.name) (map jail_view js) ≡ map (λ (d : JailDef). d.name) (map (λ (j : JailNow). j.definition) js)
same_names [] = refl
same_names (j ∷ js) = ap (λ (names : List (List ℕ)). j.definition.name ∷ names) (same_names js)

shown_times : (at : ℕ) (js : List JailNow) → AllOf (IsShown at) js → AllOf (λ (v : JailView). AllOf (λ (f : Failure). f.time ≤ at) v.failures) (map jail_view js)
shown_times at [] all = tt
shown_times at (j ∷ js) all = (all.0.none_later, shown_times at js all.1)

shown_ends : (at : ℕ) (js : List JailNow) → AllOf (IsShown at) js → AllOf (λ (v : JailView). IsRisingEnds v.past) (map jail_view js)
shown_ends at [] all = tt
shown_ends at (j ∷ js) all = (all.0.rising, shown_ends at js all.1)

-- the view of such a state can be stored
pub fine_recorded : (s : State) → IsFine s → IsLive s → IsRecordedView (view_of s)
fine_recorded s fine live =
    let n = now_of s in
    let shown = all_shown s.jails.at s.jails.jails fine.sound.from.jails.jails in
    record {
      storable = record {
        now = subst IsStorable (sym (gathered_spread n)) (fine.storable live);
        named = same_names n.jails.jails;
        watched = subst (λ (m : Now). AreWatched m.jails) (sym (gathered_spread n)) fine.watched;
        times = shown_times s.jails.at n.jails.jails shown;
      };
      ends = shown_ends s.jails.at n.jails.jails shown;
    }

-- a sound view that was stored gives back such a state
pub fine_stored : (v : View) → IsSoundView v → IsRecordedView v → IsFine (back v)
fine_stored v sound recorded =
    let now_is : now_of (back v) ≡ gathered v = sym (gathered_spread (now_of (back v))) ∙ ap gathered sound.same in
    record {
      sound = sound.sound;
      watched = subst (λ (n : Now). AreWatched n.jails) (sym now_is) recorded.storable.watched;
      storable = λ live. subst IsStorable (sym now_is) recorded.storable.now;
    }

-- so does the view before the first configuration
pub empty_recorded : IsRecordedView empty_view
empty_recorded = record { storable = record { now = first_stored; named = refl; watched = tt; times = tt }; ends = tt }
