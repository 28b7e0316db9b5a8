use Rattle.std.proofs.Common.{◌∙◌, ap}
use Rattle.f2b_model.specs.Views.{spread}
use Rattle.jail_core.proofs.AgainLemmas.{again_shown}
use Rattle.jail_core.proofs.again.view_after.Goals as goal

pub returns-clause-model : goal.returns-clause-model
returns-clause-model c = λ s sound is.
    c.in_ok-kept.ensures.view ∙ ap spread c.in_ok-after.ensures.core
    ∙ again_shown s c.args.view.now c.in_ok-core.core c.args.inputs.now c.requires.inputs sound is c.in_ok-core.ensures.sound
