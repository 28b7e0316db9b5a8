use Rattle.filter_regex.proofs.FindingLemmas.{is_test}
use Rattle.filter_regex.proofs.judge.is_ignored.Goals as goal

pub returns : goal.returns
returns c = is_test _ _ _ c.holds.ensures
