use Rattle.std.proofs.Common.{◌≡◌, ◌+◌, length, take}
use Rattle.client_frames.specs.Frames.{most_request, spelling}
use Rattle.client_frames.proofs.request.are_few.Given as goal

abbrev pub invariant-loop-word : goal.invariant-loop-word
invariant-loop-word l = l.left + length (spelling (take l.word-index l.words)) ≡ most_request
