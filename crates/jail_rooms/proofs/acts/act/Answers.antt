use Rattle.std.proofs.Common.{◌≡◌, ◌++◌, ℕ, [], List, refl, sym, ◌∙◌, ap, arith}
use Rattle.std.proofs.lemmas.List.{append-nil}
use Rattle.f2b_base.specs.declared.addr.Addr.{Addr}
use Rattle.f2b_base.specs.declared.ban.Failure.{Failure}
use Rattle.f2b_base.specs.declared.input.What.{What}
use Rattle.f2b_base.specs.declared.input.What.TheVariants.{Read, Ban, Attempt}
use Rattle.f2b_base.specs.declared.jail.Place.{Place}
use Rattle.f2b_model.specs.Moves.{JailAndSerial}
use Rattle.f2b_model.specs.Steps.{alone, moves_now}
use Rattle.f2b_model.specs.declared.happening.Happening.{Happening}
use Rattle.f2b_model.specs.declared.jail_now.JailNow.{JailNow}
use Rattle.jail_rooms.specs.Acted.{acted, changed, told_acted}
use Rattle.jail_rooms.specs.Kept.{now_of}
use Rattle.jail_rooms.proofs.acts.act.Goals as goal

-- what neither finds nor bans changes how the jail goes on, and tells nothing
changes_alone : (at word : ℕ) (what : What) → ((jail path : List ℕ) (place : Place) (found : List Failure) → what ≡ Read jail path place found → ⊥)
    → ((jail : List ℕ) (addrs : List Addr) → what ≡ Ban jail addrs → ⊥) → ((jail : List ℕ) (addr : Addr) → what ≡ Attempt jail addr → ⊥)
    → (acted at word what ≡ alone moves_now (changed what)) × ((n : ℕ) (j : JailNow) → told_acted at word what n j ≡ [])
changes_alone at word (Read jail path place found) read ban attempt = absurd (read jail path place found refl)
changes_alone at word (Ban jail addrs) read ban attempt = absurd (ban jail addrs refl)
changes_alone at word (Attempt jail addr) read ban attempt = absurd (attempt jail addr refl)
changes_alone at word what read ban attempt = (refl, λ n j. refl)

pub returns-in_ok-change-in_default : goal.returns-in_ok-change-in_default
returns-in_ok-change-in_default c =
    let n = c.args.stamp.serial in
    let j : JailNow = now_of c.args.jail.now in
    let alone_is = changes_alone c.args.stamp.at c.args.stamp.word c.args.what.now c.in_default.not-Read c.in_default.not-Ban c.in_default.not-Attempt in
    record {
      jail = ap (λ (f : ℕ → JailNow → JailAndSerial JailNow). f n j) alone_is.0 ∙ ap (λ (k : JailNow). let o : JailAndSerial JailNow = record { jail = k; next = n } in o) (sym c.in_ok-change-in_default.ensures.jail);
      told = sym (ap (λ (r : List Happening). c.args.told.now ++ r) (alone_is.1 n j) ∙ append-nil c.args.told.now);
      kept = c.in_ok-change-in_default.ensures.kept c.args.stamp.at n c.requires.kept;
      next = omega arith;
    }
