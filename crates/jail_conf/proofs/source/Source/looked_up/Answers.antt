use Rattle.jail_conf.specs.Sources.{found}
use Rattle.jail_conf.proofs.FaultLemmas.{told_gives}
use Rattle.jail_conf.proofs.source.Source.looked_up.Goals as goal

pub returns-in-Err : goal.returns-in-Err
returns-in-Err g c =
    told_gives c.args.self.now c.args.name.now (found c.args.tags.now c.args.self.now c.args.name.now (g.R.ReadsItem.reading c.args.reading.now)) c.in-Err.fail c.told.result c.in-Err.ensures c.told.ensures
