-- How the logs of a jail are searched behind what a client made happen.
use Rattle.std.specs.Prelude.{ℕ, ◌≡◌, List, Option, Some, None, option_map}
use Rattle.f2b_base.specs.declared.input.What.{What}
use Rattle.f2b_base.specs.declared.input.What.TheVariants.{Ignore, Findtime, Idle}
use Rattle.f2b_base.specs.declared.jail.JailDef.{JailDef}
use Rattle.f2b_model.specs.Steps.{find_jail, moves_now}
use Rattle.f2b_model.specs.Whole.{Now}
use Rattle.f2b_model.specs.declared.jail_now.JailNow.{JailNow}
use Rattle.log_set.specs.Logs.{ChangesJail, Logs, counting, ignoring, resting}
use Rattle.turn_clients.specs.declared.search.Change.{Change}
use Rattle.turn_clients.specs.declared.search.Change.TheVariants as change

-- what changes of a search
abbrev pub change_of : What → Option Change
change_of (Ignore jail cidr add) = Some (change.Masks jail)
change_of (Findtime jail secs) = Some (change.Findtime jail secs)
change_of (Idle jail idle) = Some (change.Idle jail idle)
change_of _ = None

-- the definition of the jail of a name
abbrev pub definition_in : Now → List ℕ → Option JailDef
definition_in core name = option_map (λ (j : JailNow). j.definition) (find_jail moves_now name core.jails.jails)

-- the masks that are never banned in the jail of a name are those of its definition, if there is such a jail
abbrev pub HasMasks : Option JailDef → List ℕ → Logs → Logs → Type 0
HasMasks None name old new = new ≡ old
HasMasks (Some d) name old new = ChangesJail old new name (ignoring d.ignore)

-- the logs are searched otherwise by that change alone, where a state tells which masks there are
abbrev pub IsChangedBy : Now → Change → Logs → Logs → Type 0
IsChangedBy core (change.Masks jail) old new = HasMasks (definition_in core jail) jail old new
IsChangedBy core (change.Findtime jail secs) old new = ChangesJail old new jail (counting secs)
IsChangedBy core (change.Idle jail idle) old new = ChangesJail old new jail (resting idle)

-- where there is no change they are searched as before
abbrev pub IsChanged : Now → Option Change → Logs → Logs → Type 0
IsChanged core None old new = new ≡ old
IsChanged core (Some change) old new = IsChangedBy core change old new
