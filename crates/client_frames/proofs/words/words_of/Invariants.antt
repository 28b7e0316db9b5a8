use Rattle.std.proofs.Common.{length}
use Rattle.client_frames.proofs.WordLemmas.{Came}
use Rattle.client_frames.proofs.words.words_of.Given as goal

abbrev pub invariant-loop-rest : goal.invariant-loop-rest
invariant-loop-rest l = Came l.body l.words l.rest

abbrev pub decreases-loop-rest : goal.decreases-loop-rest
decreases-loop-rest l = length l.rest
