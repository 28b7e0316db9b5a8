use Rattle.std.proofs.Common.{◌∙◌, ap, sym, option_copied}
use Rattle.ini_interp.proofs.ValuesLemmas.{value-added}
use Rattle.ini_interp.proofs.values.value.Goals as goal

pub returns-clause-ok : goal.returns-clause-ok
returns-clause-ok c =
    value-added c.args.sections.now c.args.scope.now c.args.name.now c.in-Some.raw.now c.new-text.result c.interpolate.new.out
    (sym (ap option_copied c.in-Some.is) ∙ rw c.as_slice-scope.ensures at c.in_ok-raw.ensures) c.new-text.ensures (rw c.as_slice-scope.ensures at c.in_ok-interpolate.ensures.ok)
