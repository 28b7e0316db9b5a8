-- The values that words spell, each with what is told of a word that spells none.
use Rattle.std.specs.Prelude.{◌≡◌, ◌≢◌, ℕ, ◌+◌, List, [], ◌∷◌, Result, Ok, Err, ℤ, if◌then◌else◌}
use Rattle.f2b_base.specs.Addresses.{read_addr}
use Rattle.f2b_base.specs.Masks.{read_cidr}
use Rattle.f2b_base.specs.declared.addr.Addr.{Addr}
use Rattle.f2b_base.specs.declared.addr.Cidr.{Cidr}
use Rattle.jail_conf.specs.declared.conf_error.ConfKind.{ConfKind}
use Rattle.jail_conf.specs.Jails.{is_jail_name}
use Rattle.jail_conf.specs.Table as table
use Rattle.jail_conf.specs.Then.{◌>>=◌, or_refuse}
use Rattle.client_words.specs.declared.error.CommandError.{CommandError}
use Rattle.client_words.specs.declared.error.CommandError.TheVariants.{BadJailName, BadAddress, BadNumber, NoMemory}

-- What a call gave is what is defined, unless memory ran out.
abbrev pub Gives : {A : Type 0} → Result A CommandError → Result A CommandError → Type 0
Gives defined (Ok value) = Ok value ≡ defined
Gives defined (Err error) = error ≢ NoMemory → Err error ≡ defined

-- a name that a jail can have
abbrev pub jail_name : List ℕ → Result (List ℕ) CommandError
jail_name word = if is_jail_name word then Ok word else Err BadJailName

-- ---- addresses

-- the address that the word at a place spells
abbrev pub address : ℕ → List ℕ → Result Addr CommandError
address place word = or_refuse (BadAddress place) (read_addr word)

-- the mask that the word at a place spells: some first bits of an address, or all of them
abbrev pub mask : ℕ → List ℕ → Result Cidr CommandError
mask place word = or_refuse (BadAddress place) (read_cidr word)

-- the addresses that words spell, the first of which stands at that place
abbrev pub addresses : ℕ → List (List ℕ) → Result (List Addr) CommandError
addresses place [] = Ok []
addresses place (word ∷ words) = do
  first ← address place word
  others ← addresses (place + 1) words
  Ok (first ∷ others)

-- ---- times and numbers

abbrev pub or_bad_number : {A : Type 0} → Result A ConfKind → Result A CommandError
or_bad_number (Ok value) = Ok value
or_bad_number (Err kind) = Err BadNumber

-- a word is read as the text of that item in a configuration
abbrev pub findtime : List ℕ → Result ℕ CommandError
findtime word = or_bad_number (table.findtime.reading word)

abbrev pub bantime : List ℕ → Result ℤ CommandError
bantime word = or_bad_number (table.bantime.reading word)

abbrev pub maxretry : List ℕ → Result ℕ CommandError
maxretry word = or_bad_number (table.maxretry.reading word)
