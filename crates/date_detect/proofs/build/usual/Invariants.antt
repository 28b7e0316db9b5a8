use Rattle.std.proofs.Common.{◌≡◌, take, map}
use Rattle.date_detect.specs.Forms.{usual_form, usual_rule, texts}
use Rattle.date_detect.proofs.BuildLemmas.{HaveBuilt}
use Rattle.date_detect.proofs.build.usual.Given as goal

abbrev pub invariant-loop-form : goal.invariant-loop-form
invariant-loop-form g l =
    (l.forms.items ≡ map (usual_form l.anchored) (take l.form-index l.usual))
    × HaveBuilt (texts (usual_rule l.anchored (take l.form-index l.usual))) (g.P.Outside.stands l.fn.patterns) (g.P.Outside.stands l.patterns)
