use Rattle.std.proofs.Common.{refl}
use Rattle.f2b_model.specs.LaneSound.{never}
use Rattle.f2b_model.proofs.ApartLemmas.{stored_fits}
use Rattle.f2b_model.proofs.LaterLemmas.{first_stays}
use Rattle.f2b_model.proofs.StartLemmas.{starts_end}
use Rattle.f2b_model.proofs.StorableWholeLemmas.{first_stored, whole_stored}
use Rattle.f2b_model.proofs.WholeLemmas.{whole_shows, whole_keeps, whole_tells, view_again, back_sound, view_sound, view_later, view_taken, view_kept, kept_sound, told_alike, empty_sound, all_alternate, all_settled}
use Rattle.f2b_model.proofs.laws.whole_law.Goals as goal

pub returns : goal.returns
returns c = record {
  now = whole_shows;
  tells = whole_tells;
  sound = whole_keeps;
  empty = record { base = never; from = empty_sound };
  empty_is = refl;
  again = view_again;
  again_sound = back_sound;
  shown = view_sound;
  later = view_later;
  taken = view_taken;
  kept_view = view_kept;
  kept_sound = kept_sound;
  told_alike = told_alike;
  alternate = all_alternate;
  settled = all_settled;
  starts = starts_end;
  stays_first = first_stays;
  stored_fits = stored_fits;
  stored_first = first_stored;
  stored = whole_stored;
}
