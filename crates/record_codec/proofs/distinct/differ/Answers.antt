use Rattle.record_codec.proofs.DistinctLemmas.{if_true, distinct_of_rising}
use Rattle.record_codec.proofs.distinct.differ.Goals as goal

pub returns : goal.returns
returns c = if_true c.rise.result _ _
    (λ rising. distinct_of_rising c.args.given.items c.as_slice.result.now (rw c.as_slice.ensures.value c.sort_unstable.ensures.permutation) rising) c.rise.ensures
