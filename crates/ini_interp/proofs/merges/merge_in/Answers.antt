use Rattle.ini_interp.proofs.JoinedLemmas.{named_answer, told_answer}
use Rattle.ini_interp.proofs.LaidLemmas.{includes_answer}
use Rattle.ini_interp.proofs.MergesLemmas.{merged_answer, merged_failure}
use Rattle.ini_interp.proofs.merges.merge_in.Goals as goal

pub returns-clause-ok : goal.returns-clause-ok
returns-clause-ok c = merged_answer c.args.base.now c.args.files.now c.read_base.result c.read_base.ensures.ok

pub returns-clause-named : goal.returns-clause-named
returns-clause-named c = named_answer c.args.base.now c.args.files.now c.read_base.result (returns-clause-ok c)

pub returns-clause-fault : goal.returns-clause-fault
returns-clause-fault c = merged_failure c.args.base.now c.args.files.now c.read_base.result c.read_base.ensures.fault

pub returns-clause-told : goal.returns-clause-told
returns-clause-told c = told_answer c.args.base.now c.args.files.now c.read_base.result (returns-clause-fault c)

pub returns-clause-not_merged : goal.returns-clause-not_merged
returns-clause-not_merged c = includes_answer c.args.base.now c.args.files.now c.read_base.result (returns-clause-ok c)
