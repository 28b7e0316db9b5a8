use Rattle.record_fields.proofs.LengthLemmas.{length_joined}
use Rattle.record_fields.proofs.lengths.joined_len.Goals as goal

pub returns : goal.returns
returns c = λ a b one two. length_joined a b c.args.first c.args.others c.saturating_add.result one two c.saturating_add.ensures
