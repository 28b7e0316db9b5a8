use Rattle.std.proofs.Common.{◌≡◌, ◌∙◌, sym, ap, List}
use Rattle.std.specs.List.{fold}
use Rattle.ini_interp.specs.declared.joins.Change.{Change}
use Rattle.ini_interp.specs.Changes.{settings_of}
use Rattle.ini_interp.specs.Joins.{Setting, joined, with_setting}
use Rattle.ini_interp.proofs.joins.join.Goals as goal

pub loop-change-init : goal.loop-change-init
unfolding joined
loop-change-init c =
    ap (λ (made : List Setting). fold with_setting c.args.sections.now made)
    (sym c.in_ok-changes.ensures ∙ ap (λ (changes : List Change). settings_of changes) (sym c.as_slice-change-items.ensures))
