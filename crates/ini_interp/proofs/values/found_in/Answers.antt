use Rattle.std.proofs.Common.{◌∙◌, ap}
use Rattle.ini_interp.specs.Values.{raw_in}
use Rattle.ini_interp.proofs.ScopeLemmas.{raw_in-lower}
use Rattle.ini_interp.proofs.values.found_in.Goals as goal

pub returns : goal.returns
returns c =
    c.raw_in.ensures ∙ ap (raw_in c.args.sections.now c.args.scope.now) (c.as_str.ensures.value ∙ c.in_ok-name.ensures.ok)
    ∙ raw_in-lower c.args.sections.now c.args.scope.now c.args.name.now
