use Rattle.std.proofs.Common.{rules}
use Rattle.jail_conf.specs.Sources.{own}
use Rattle.jail_conf.proofs.source.Source.item.Goals as goal

pub returns-in_err-value : goal.returns-in_err-value
unfolding own
returns-in_err-value g c = search rules

pub returns : goal.returns
unfolding own
returns g c = search rules
