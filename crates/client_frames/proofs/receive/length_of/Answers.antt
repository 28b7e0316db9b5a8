use Rattle.std.proofs.Common.{◌∙◌, sym, arith}
use Rattle.client_frames.proofs.FrameLemmas.{none_said}
use Rattle.client_frames.proofs.receive.length_of.Goals as goal

pub returns-in_default : goal.returns-in_default
returns-in_default c = absurd (omega (arith, none_said c.args.came.now (sym c.said_length.ensures ∙ c.in_default.is)))
