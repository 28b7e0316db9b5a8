use Rattle.std.proofs.Common.{◌∙◌, ap}
use Rattle.ini_interp.specs.Sections.{raw}
use Rattle.ini_interp.proofs.ScopeLemmas.{raw-lower}
use Rattle.ini_interp.proofs.sections.Sections.find.Goals as goal

pub returns : goal.returns
returns c =
    c.raw.ensures ∙ ap (raw c.args.self.now c.args.section.now) (c.as_str.ensures.value ∙ c.in_ok-name.ensures.ok)
    ∙ raw-lower c.args.self.now c.args.section.now c.args.name.now
