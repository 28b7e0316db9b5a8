-- Watches in a list: the first one of a path, and another place of it.
use Rattle.std.proofs.Common.{◌≡◌, ℕ, suc, ◌<◌, ◌≤◌, true, false, List, [], ◌∷◌, length, get_or, remove, insert, refl, sym, ◌∙◌, ap, ap₂, arith}
use Rattle.std.specs.Prelude.{bytes_eq}
use Rattle.f2b_base.specs.declared.jail.Place.{Place}
use Rattle.f2b_base.specs.declared.view.WatchView.{WatchView}
use Rattle.f2b_model.specs.Watches.{is_watched, with_place}
use Rattle.f2b_model.proofs.ListLemmas.{by_test}
use Rattle.jail_moves.specs.Watching.{watch_place}

-- the watch of a path, in its place
pub place_is_set : (path : List ℕ) (place : Place) (ws : List WatchView) (d : WatchView) → watch_place path ws < length ws
    → (is_watched path ws ≡ true)
    × (insert (remove ws (watch_place path ws)) (watch_place path ws) (record { path = (get_or ws (watch_place path ws) d).path; place = place }) ≡ with_place path place ws)
place_is_set path place [] d lt = absurd (omega arith)
place_is_set path place (w ∷ ws) d lt =
    by_test (bytes_eq w.path path) _
    (λ t. rw t (refl, refl))
    (λ t. let lt2 : suc (watch_place path ws) < suc (length ws) = rw t at lt in
    let rest = place_is_set path place ws d (omega arith) in
    rw t (rest.0, ap (λ r. w ∷ r) rest.1))

pub set_at : (path : List ℕ) (place copied : Place) (ws seen removed new : List WatchView) (i : ℕ) (w : WatchView) → seen ≡ ws → i ≡ watch_place path seen → i < length ws
    → w ≡ get_or ws i w → removed ≡ remove ws i → copied ≡ place → new ≡ insert removed i (record { path = w.path; place = copied })
    → (true ≡ is_watched path ws) × (new ≡ with_place path place ws)
set_at path place copied ws seen removed new i w seen_is i_is lt w_is removed_is copied_is new_is =
    let at : i ≡ watch_place path ws = i_is ∙ ap (watch_place path) seen_is in
    let lt2 : watch_place path ws < length ws = omega arith in
    let set = place_is_set path place ws w lt2 in
    let own : w ≡ get_or ws (watch_place path ws) w = w_is ∙ ap (λ k. get_or ws k w) at in (
      sym (set.0),
      new_is
          ∙ ap₂ (λ (r : List WatchView) (p : Place). insert r i (record { path = w.path; place = p })) removed_is copied_is
          ∙ ap (λ k. insert (remove ws k) k (record { path = w.path; place = place })) at
          ∙ ap (λ (v : WatchView). insert (remove ws (watch_place path ws)) (watch_place path ws) (record { path = v.path; place = place })) own
          ∙ set.1,
    )

-- where no watch is of the path, nothing changes
pub place_is_nowhere : (path : List ℕ) (place : Place) (ws : List WatchView) → length ws ≤ watch_place path ws
    → (is_watched path ws ≡ false) × (with_place path place ws ≡ ws)
place_is_nowhere path place [] le = (refl, refl)
place_is_nowhere path place (w ∷ ws) le =
    by_test (bytes_eq w.path path) _
    (λ t. let le2 : suc (length ws) ≤ 0 = rw t at le in absurd (omega arith))
    (λ t. let le2 : suc (length ws) ≤ suc (watch_place path ws) = rw t at le in
    let rest = place_is_nowhere path place ws (omega arith) in
    rw t (rest.0, ap (λ r. w ∷ r) rest.1))
