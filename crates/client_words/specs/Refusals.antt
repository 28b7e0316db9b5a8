-- What a client is told of words that are no request.
use Rattle.std.specs.Prelude.{ℕ, List, ◌++◌, Option, Some, None, codes}
use Rattle.std.specs.Fmt.{decimal}
use Rattle.client_words.specs.declared.error.CommandError.{CommandError}
use Rattle.client_words.specs.declared.error.CommandError.TheVariants.{Unknown, WrongCount, BadJailName, BadAddress, BadNumber, NoMemory}

-- the text of a refusal; want of memory is none
abbrev pub refusal_of : CommandError → Option (List ℕ)
refusal_of Unknown = Some (codes "Invalid command")
refusal_of WrongCount = Some (codes "Wrong number of words")
refusal_of BadJailName = Some (codes "Bad jail name")
refusal_of (BadAddress place) = Some (codes "Bad address: word " ++ decimal place)
refusal_of BadNumber = Some (codes "Bad number")
refusal_of NoMemory = None
