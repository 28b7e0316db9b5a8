use Rattle.run_start.proofs.ConfigureLemmas.{has_unchanged, tells_none}
use Rattle.run_start.proofs.input.input.Goals as goal

pub returns-clause-tells : goal.returns-clause-tells
returns-clause-tells c =
    tells_none c.args.clocked.now c.core.result.now c.args.defs c.config_changes.result c.core.ensures.core c.requires c.config_changes.ensures.watched c.config_changes.ensures.changes
    c.if-config_changes.false

pub returns-clause-jails : goal.returns-clause-jails
returns-clause-jails c =
    has_unchanged c.args.clocked.now c.core.result.now c.args.defs c.config_changes.result c.core.ensures.core c.requires c.config_changes.ensures.watched c.config_changes.ensures.changes
    c.if-config_changes.false
