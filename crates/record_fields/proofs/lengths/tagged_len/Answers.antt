use Rattle.record_fields.proofs.LengthLemmas.{length_tagged}
use Rattle.record_fields.proofs.lengths.tagged_len.Goals as goal

pub returns : goal.returns
returns c = λ byte bytes one. length_tagged byte bytes c.args.others c.saturating_add.result one c.saturating_add.ensures
