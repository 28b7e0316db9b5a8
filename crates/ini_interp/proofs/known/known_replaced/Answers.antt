use Rattle.std.proofs.Common.{refl}
use Rattle.ini_interp.specs.Known.{known_text, known_replaced}
use Rattle.ini_interp.proofs.KnownLemmas.{respelled-ends}
use Rattle.ini_interp.proofs.known.known_replaced.Goals as goal

pub returns : goal.returns
unfolding known_replaced
returns c =
    respelled-ends (known_text c.args.before.now c.args.section.now) c.args.raw.now c.loop-cut.rest.now c.loop-cut.text c.loop-cut.invariant.1
    (c.in_default.ensures.none.0 refl)
