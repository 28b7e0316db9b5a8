use Rattle.std.proofs.Common.{◌≡◌, take}
use Rattle.client_frames.specs.Frames.{spelling}
use Rattle.client_frames.proofs.request.spelling_of.Given as goal

abbrev pub invariant-loop-word : goal.invariant-loop-word
invariant-loop-word l = l.body ≡ spelling (take l.word-index l.words)
