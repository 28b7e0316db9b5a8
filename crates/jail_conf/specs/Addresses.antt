-- Lists of addresses and masks, divided by blanks, lines and commas.
use Rattle.std.specs.Prelude.{ℕ, List, codes}
use Rattle.f2b_base.specs.declared.addr.Cidr.{Cidr}
use Rattle.f2b_base.specs.Masks.{read_cidr}
use Rattle.jail_conf.specs.declared.conf_error.ConfKind.TheVariants.{BadAddress}
use Rattle.jail_conf.specs.Readers.{Reader}
use Rattle.jail_conf.specs.Then.{or_refuse, each}
use Rattle.jail_conf.specs.Words.{words_by}

abbrev pub address_dividers : List ℕ
address_dividers = codes " \t\n,"

abbrev pub address : Reader Cidr
address word = or_refuse BadAddress (read_cidr word)

abbrev pub addresses : Reader (List Cidr)
addresses text = each address (words_by address_dividers text)
