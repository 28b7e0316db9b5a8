use Rattle.std.proofs.Common.{◌≡◌, length, false}
use denote.Text.{Utf8}
use denote.Shadow.{shadow}
use Rattle.ini_interp.specs.Lines.{is_blank}
use Rattle.jail_conf.specs.Options.{Outside, options_from, groups}
use Rattle.jail_conf.specs.Times.{begins_with}
use Rattle.jail_conf.proofs.options.groups.Given as goal

abbrev pub invariant-groups : goal.invariant-groups
invariant-groups l = shadow (Utf8 l.left) × (options_from Outside l.options l.left ≡ groups l.text) × (begins_with is_blank l.left ≡ false)

abbrev pub decreases-groups : goal.decreases-groups
decreases-groups l = length l.left
