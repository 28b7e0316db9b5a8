-- What an input of one jail does there.
use Rattle.std.specs.Prelude.{ℕ, List, [], ◌∷◌, Option, Some, None}
use Rattle.f2b_base.specs.declared.input.What.{What}
use Rattle.f2b_base.specs.declared.input.What.TheVariants.{Read, Ban, Attempt, Ignore, Findtime, Bantime, Maxretry, Idle}
use Rattle.f2b_model.specs.declared.happening.Happening.{Happening}
use Rattle.f2b_model.specs.declared.jail_now.JailNow.{JailNow}
use Rattle.f2b_model.specs.Moves.{JailAndSerial}
use Rattle.f2b_model.specs.Steps.{alone, banned_in_turn, found_in_turn, moves_now, read_in_jail}
use Rattle.f2b_model.specs.Told.{told_banned_in_turn, told_found_in_turn, told_read}

-- the name of the jail of an input that is of one
abbrev pub jail_named : What → Option (List ℕ)
jail_named (Read jail path place found) = Some jail
jail_named (Ban jail addrs) = Some jail
jail_named (Attempt jail addr) = Some jail
jail_named (Ignore jail cidr add) = Some jail
jail_named (Findtime jail secs) = Some jail
jail_named (Bantime jail secs) = Some jail
jail_named (Maxretry jail number) = Some jail
jail_named (Idle jail idle) = Some jail
jail_named _ = None

-- a command that changes how a jail goes on
abbrev pub changed : What → JailNow → JailNow
changed (Ignore jail cidr add) j = moves_now.ignored cidr add j
changed (Findtime jail secs) j = moves_now.limited secs j.definition.maxretry j
changed (Bantime jail secs) j = moves_now.spanned secs j
changed (Maxretry jail number) j = moves_now.limited j.definition.findtime number j
changed (Idle jail idle) j = moves_now.idle idle j
changed _ j = j

-- what is done in the jail: what was read of its log, bans by command, one failure now, or such a change
abbrev pub acted : ℕ → ℕ → What → ℕ → JailNow → JailAndSerial JailNow
acted at word (Read jail path place found) = read_in_jail moves_now at word path place found
acted at word (Ban jail addrs) = banned_in_turn moves_now at word addrs
acted at word (Attempt jail addr) = found_in_turn moves_now at word (record { addr = addr; time = at; line = [] } ∷ [])
acted at word what = alone moves_now (changed what)

-- and what it tells
abbrev pub told_acted : ℕ → ℕ → What → ℕ → JailNow → List Happening
told_acted at word (Read jail path place found) n j = told_read moves_now at word path place found n j
told_acted at word (Ban jail addrs) n j = told_banned_in_turn moves_now at word addrs n j
told_acted at word (Attempt jail addr) n j = told_found_in_turn moves_now at word (record { addr = addr; time = at; line = [] } ∷ []) n j
told_acted at word _ n j = []
