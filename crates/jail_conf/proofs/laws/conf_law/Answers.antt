use Rattle.jail_conf.proofs.AcceptedLemmas.{conf_is_fit, conf_is_within}
use Rattle.jail_conf.proofs.DatedLemmas.{conf_is_dated}
use Rattle.jail_conf.proofs.StorableLemmas.{conf_is_storable}
use Rattle.jail_conf.proofs.laws.conf_law.Goals as goal

pub returns : goal.returns
returns c = record { fit = conf_is_fit; limits = conf_is_within; storable = conf_is_storable; dated = conf_is_dated }
