use Rattle.std.proofs.Common.{◌≡◌, List, sym, ◌∙◌, ap₂, subst}
use Rattle.f2b_base.specs.declared.job.Job.{Job}
use Rattle.f2b_model.specs.Lanes.{Lanes}
use Rattle.f2b_model.specs.Laws.{AreWatched}
use Rattle.f2b_model.specs.Nows.{JailsNow}
use Rattle.f2b_model.specs.Storable.{IsStorable}
use Rattle.f2b_model.specs.Whole.{Now}
use Rattle.jail_rooms.proofs.TakenLemmas.{sound_taken_up, taken_up_storable, taken_up_watched}
use Rattle.jail_core.proofs.state.Core.of.Goals as goal

pub invariant_of-result : goal.invariant_of-result
invariant_of-result c = subst AreWatched (sym c.in_ok-of.ensures.jails) (taken_up_watched c.args.view.now c.requires)

pub returns-clause-sound : goal.returns-clause-sound
returns-clause-sound c = λ sound.
    ap₂ (λ (w : JailsNow) (l : Lanes (List Job)). let n : Now = record { jails = w; lanes = l } in n) c.in_ok-of.ensures.jails c.in_ok-of-2.ensures ∙ sound_taken_up c.args.view.now sound

pub returns-clause-storable : goal.returns-clause-storable
returns-clause-storable c =
    subst IsStorable
    (sym (ap₂ (λ (w : JailsNow) (l : Lanes (List Job)). let n : Now = record { jails = w; lanes = l } in n) c.in_ok-of.ensures.jails c.in_ok-of-2.ensures))
    (taken_up_storable c.args.view.now c.requires)
