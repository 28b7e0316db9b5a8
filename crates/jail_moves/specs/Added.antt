-- What one more failure does to the windows of a jail.
use Rattle.std.specs.Prelude.{◌≡◌, ℕ, ◌≤◌, true, not, Option, None, is_some, IfSome, List, filter}
use Rattle.f2b_base.specs.declared.ban.Failure.{Failure}
use Rattle.f2b_model.specs.Full.{is_full, is_recent, is_of}
use Rattle.f2b_model.specs.Lists.{AllOf, placed}
use Rattle.f2b_model.specs.Moves.{is_near}
use Rattle.f2b_model.specs.Nows.{comes_before}
use Rattle.fail_window.specs.Opened.{Opened}

-- the failures that matter after one more was counted at `now`, if those mattered before that were recent at `last`
abbrev pub with_failure : ℕ → ℕ → ℕ → Failure → List Failure → List Failure
with_failure last now findtime f fs = filter (is_recent now findtime) (placed comes_before f (filter (is_recent last findtime) fs))

-- One more failure is counted at `now`. It is told whether its address is full by the failures that matter then, and which of them
-- are near it; the address's failures are forgotten where it is. All this whatever the moment was before.
pub record IsAdded (now : ℕ) (f : Failure) (old new : Opened) (full : Option (List Failure)) : Type 0 where
  pub tells : (last : ℕ) → last ≤ now → is_some full ≡ is_full old.findtime old.maxretry f.addr (with_failure last now old.findtime f old.failures)
  pub near : (last : ℕ) → last ≤ now → IfSome full (λ fs. fs ≡ filter (is_near old.findtime f) (with_failure last now old.findtime f old.failures))
  pub stays : (last : ℕ) → last ≤ now → full ≡ None
      → filter (is_recent now old.findtime) new.failures ≡ with_failure last now old.findtime f old.failures
  pub goes : (last : ℕ) → last ≤ now → is_some full ≡ true
      → filter (is_recent now old.findtime) new.failures ≡ filter (λ (g : Failure). not (is_of f.addr g)) (with_failure last now old.findtime f old.failures)
  pub times : AllOf (λ (g : Failure). g.time ≤ now) new.failures
