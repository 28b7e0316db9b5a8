use Rattle.std.proofs.Common.{◌≡◌, take}
use Rattle.date_detect.proofs.build.Dates.searcher.Given as goal

abbrev pub invariant-loop-form : goal.invariant-loop-form
invariant-loop-form l = l.forms.items ≡ take l.form-index l.form-items
