use Rattle.f2b_model.proofs.BanStepLemmas.{ban_step}
use Rattle.f2b_model.proofs.LawLemmas.{now_step, sound_step, first_sound, first_shows, now_again, back_sound, now_later}
use Rattle.f2b_model.proofs.NumberLemmas.{step_numbered}
use Rattle.f2b_model.proofs.StandLemmas.{all_shown}
use Rattle.f2b_model.proofs.StorableLemmas.{step_stored}
use Rattle.f2b_model.proofs.WatchLemmas.{step_watched}
use Rattle.f2b_model.proofs.ToldLemmas.{told_by_now}
use Rattle.f2b_model.proofs.laws.jails_law.Goals as goal

pub returns : goal.returns
returns c = record {
  now = now_step;
  tells = told_by_now;
  sound = sound_step;
  first = λ defs fit. first_sound defs fit.maxretry fit.names;
  first_is = first_shows;
  again = now_again;
  back = back_sound;
  later = now_later;
  bounds = λ s sound. all_shown s.at s.jails sound.jails;
  leads = ban_step;
  numbered = step_numbered;
  watched = step_watched;
  stored = step_stored;
}
