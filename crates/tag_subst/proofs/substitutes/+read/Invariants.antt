use Rattle.std.proofs.Common.{◌≡◌, ◌-◌, length}
use denote.Text.{Utf8}
use denote.Shadow.{shadow}
use Rattle.tag_subst.specs.Tags.{read}
use Rattle.tag_subst.specs.Values.{tag_value}
use Rattle.tag_subst.proofs.substitutes.+read.Given as goal

abbrev pub decreases-read : goal.decreases-read
decreases-read l = 10 - l.depth

abbrev pub invariant-loop-plain : goal.invariant-loop-plain
invariant-loop-plain l =
    shadow (Utf8 l.rest)
    × (read (tag_value l.sections l.scope) (10 - l.depth) l.depth l.text l.initial.kept
    ≡ read (tag_value l.sections l.scope) (10 - l.depth) l.depth l.rest l.kept)

abbrev pub decreases-loop-plain : goal.decreases-loop-plain
decreases-loop-plain l = length l.rest
