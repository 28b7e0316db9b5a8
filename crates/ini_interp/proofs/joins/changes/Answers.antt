use Rattle.std.proofs.Common.{◌≡◌}
use Rattle.ini_interp.specs.Joins.{settings}
use Rattle.ini_interp.proofs.JoinsLemmas.{section_more}
use Rattle.ini_interp.proofs.joins.changes.Goals as goal

pub loop-index-preserved : goal.loop-index-preserved
loop-index-preserved c =
    section_more c.args.before.now c.loop-index.changes c.push_section.new.changes c.args.file.now c.loop-index.index
    (c.at.result.0.now, c.at.result.1.now.items) (settings c.args.before.now c.args.file.now) c.in_ok-push_section.ensures c.at.ensures c.loop-index.invariant
