-- How logs are searched behind what a client made happen, case by case.
use Rattle.std.proofs.Common.{ℕ, ◌≡◌, Bool, List, Option, Some, None, sym, subst}
use Rattle.f2b_base.specs.declared.jail.JailDef.{JailDef}
use Rattle.f2b_model.specs.Whole.{Now}
use Rattle.log_set.specs.Logs.{ChangesJail, Logs, counting, ignoring, resting}
use Rattle.turn_clients.specs.Searching.{HasMasks, IsChanged, IsChangedBy, definition_in}
use Rattle.turn_clients.specs.declared.search.Change.{Change}
use Rattle.turn_clients.specs.declared.search.Change.TheVariants as change

module _ (name : List ℕ) (old new : Logs) where
  pub masks_some : (o : Option JailDef) (d : JailDef) → o ≡ Some d → ChangesJail old new name (ignoring d.ignore) → HasMasks o name old new
  masks_some o d is changes = let P : Option JailDef → Type 0 = λ x. HasMasks x name old new in subst P (sym is) changes

  pub masks_none : (o : Option JailDef) → o ≡ None → new ≡ old → HasMasks o name old new
  masks_none o is same = let P : Option JailDef → Type 0 = λ x. HasMasks x name old new in subst P (sym is) same

pub ruleset masking = (masks_some, masks_none)

module _ (core : Now) (c : Change) (old new : Logs) where
  abbrev ChangedBy : Change → Type 0
  ChangedBy x = IsChangedBy core x old new

  pub changed_masks : (jail : List ℕ) → c ≡ change.Masks jail → HasMasks (definition_in core jail) jail old new → IsChangedBy core c old new
  changed_masks jail is has = subst ChangedBy (sym is) has

  pub changed_findtime : (jail : List ℕ) (secs : ℕ) → c ≡ change.Findtime jail secs → ChangesJail old new jail (counting secs) → IsChangedBy core c old new
  changed_findtime jail secs is changes = subst ChangedBy (sym is) changes

  pub changed_idle : (jail : List ℕ) (idle : Bool) → c ≡ change.Idle jail idle → ChangesJail old new jail (resting idle) → IsChangedBy core c old new
  changed_idle jail idle is changes = subst ChangedBy (sym is) changes

pub ruleset changing = (changed_masks, changed_findtime, changed_idle)

module _ (core : Now) (o : Option Change) (old new : Logs) where
  abbrev Changed : Option Change → Type 0
  Changed x = IsChanged core x old new

  pub changed_none : o ≡ None → new ≡ old → IsChanged core o old new
  changed_none is same = subst Changed (sym is) same

  pub changed_some : (c : Change) → o ≡ Some c → IsChangedBy core c old new → IsChanged core o old new
  changed_some c is changed = subst Changed (sym is) changed

pub ruleset searching = (changed_none, changed_some)
