use Rattle.jail_conf.proofs.PlaceLemmas.{name_more, name_none}
use Rattle.jail_conf.proofs.sections.section_names.Goals as goal

pub returns-in_default : goal.returns-in_default
returns-in_default c = name_none c.args.sections.now c.places.names c.places.index c.places.invariant c.in_default.ensures

pub places-preserved : goal.places-preserved
places-preserved c =
    rw c.in_ok-push.ensures.ok
    (rw c.in_ok-from_str.ensures (name_more c.args.sections.now c.places.names c.places.index c.in-Some.name.now c.places.invariant c.in-Some.ensures))
