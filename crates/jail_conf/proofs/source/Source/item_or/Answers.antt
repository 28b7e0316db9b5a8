use Rattle.std.proofs.Common.{rules}
use Rattle.jail_conf.specs.Sources.{own_or}
use Rattle.jail_conf.proofs.source.Source.item_or.Goals as goal

pub returns-in_err-value : goal.returns-in_err-value
unfolding own_or
returns-in_err-value g c = search rules

pub returns-in-Some : goal.returns-in-Some
unfolding own_or
returns-in-Some g c = search rules

pub returns-in-None : goal.returns-in-None
unfolding own_or
returns-in-None g c = search rules
