-- What is read of a log that the jail does not watch changes nothing.
use Rattle.std.proofs.Common.{◌≡◌, ℕ, Bool, true, false, List, [], ◌∷◌, refl, sym, ◌∙◌, ap}
use Rattle.std.specs.Prelude.{bytes_eq}
use Rattle.f2b_base.specs.declared.ban.Failure.{Failure}
use Rattle.f2b_base.specs.declared.jail.Place.{Place}
use Rattle.f2b_base.specs.declared.view.WatchView.{WatchView}
use Rattle.f2b_model.specs.declared.jail_now.JailNow.{JailNow}
use Rattle.f2b_model.specs.NowMoves.{followed_now}
use Rattle.f2b_model.specs.Steps.{moves_now, read_in_jail}
use Rattle.f2b_model.specs.Watches.{is_watched, with_place}
use Rattle.f2b_model.proofs.ListLemmas.{by_test}

-- a path that is not watched has no place to set
unwatched_same : (path : List ℕ) (place : Place) (ws : List WatchView) → is_watched path ws ≡ false → with_place path place ws ≡ ws
unwatched_same path place [] h = refl
unwatched_same path place (w ∷ ws) h =
    by_test (bytes_eq w.path path) _
    (λ t. absurd (let k : true ≡ false = rw t at h in cc))
    (λ t. let h2 : is_watched path ws ≡ false = rw t at h in rw t (ap (λ r. w ∷ r) (unwatched_same path place ws h2)))

pub read_unwatched : (at word n : ℕ) (path : List ℕ) (place : Place) (fs : List Failure) (j k : JailNow) (watched : Bool) → watched ≡ is_watched path j.watches → watched ≡ false
    → k ≡ followed_now path place j → read_in_jail moves_now at word path place fs n j ≡ record { jail = k; next = n }
read_unwatched at word n path place fs j k watched is none k_is =
    let h : is_watched path j.watches ≡ false = sym is ∙ none in
    let same : k ≡ j = k_is ∙ ap (λ (ws : List WatchView). record j { watches = ws }) (unwatched_same path place j.watches h) in
    rw h (ap (λ (r : JailNow). record { jail = r; next = n }) (sym same))
