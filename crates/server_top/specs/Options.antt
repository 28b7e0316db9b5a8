-- What the options of the command line asked for so far, as the law has it.
use Rattle.run_law.specs.Words.{Asked}
use Rattle.server_top.specs.declared.words.Options.{Options}

abbrev pub asked_of : Options → Asked
asked_of o = record { turns = o.turns; limit = o.limit }
