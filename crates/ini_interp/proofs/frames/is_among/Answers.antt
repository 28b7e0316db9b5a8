use Rattle.std.proofs.Common.{◌≡◌, ◌∙◌}
use Rattle.ini_interp.proofs.FramesLemmas.{among_frames}
use Rattle.ini_interp.proofs.frames.is_among.Goals as goal

pub returns : goal.returns
returns c = c.has_frame.ensures ∙ among_frames c.args.path.now c.args.frames.now
