use Rattle.std.proofs.Common.{◌≡◌, ◌≤◌, [], length}
use denote.Text.{Utf8}
use denote.Shadow.{shadow}
use Rattle.jail_conf.specs.Options.{Key, options_from}
use Rattle.jail_conf.proofs.options.push_group.Given as goal

abbrev pub invariant-options : goal.invariant-options
invariant-options l =
    shadow (Utf8 l.left)
    × (options_from (Key []) l.fn.options l.text ≡ options_from (Key []) l.options l.left)
    × (length l.left ≤ length l.text)

abbrev pub decreases-options : goal.decreases-options
decreases-options l = length l.left
