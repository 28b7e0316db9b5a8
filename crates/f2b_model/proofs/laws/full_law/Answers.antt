use Rattle.f2b_model.proofs.FullLemmas.{full_by_choice, choice_by_full, full_of_test, test_of_full}
use Rattle.f2b_model.proofs.JoinLemmas.{full_joined}
use Rattle.f2b_model.proofs.StandLemmas.{stands_added, stands_full}
use Rattle.f2b_model.proofs.WindowLemmas.{run_iff_full, short}
use Rattle.f2b_model.proofs.laws.full_law.Goals as goal

pub returns : goal.returns
returns c = record {
  choice = λ findtime maxretry addr fs one. (full_by_choice findtime maxretry addr fs one, choice_by_full findtime maxretry addr fs);
  test = λ findtime maxretry addr fs one. (test_of_full findtime maxretry addr fs one, full_of_test findtime maxretry addr fs);
  neighbours = run_iff_full;
  short = short;
  joined = full_joined;
  added = stands_added;
  full = stands_full;
}
