use Rattle.std.proofs.Common.{◌≡◌, ◌++◌, length}
use denote.Text.{Utf8}
use denote.Shadow.{shadow}
use Rattle.jail_conf.specs.Sources.{percents_doubled}
use Rattle.jail_conf.proofs.sources.percents_doubled.Given as goal

abbrev pub invariant-percents : goal.invariant-percents
invariant-percents l = shadow (Utf8 l.left) × (l.doubled ++ percents_doubled l.left ≡ percents_doubled l.text)

abbrev pub decreases-percents : goal.decreases-percents
decreases-percents l = length l.left
