use Rattle.ini_interp.proofs.JoinedLemmas.{files_are}
use Rattle.ini_interp.proofs.LaidLemmas.{later_wins, includes_stay}
use Rattle.ini_interp.proofs.laws.merge_law.Goals as goal

pub returns : goal.returns
returns c = record { read = files_are; later_wins = later_wins; includes = includes_stay }
