use Rattle.std.proofs.Common.{◌≡◌, ◌∙◌, ◌++◌, sym, ap, List, ℕ, Some}
use Rattle.ini_interp.specs.Changes.{settings_of}
use Rattle.ini_interp.specs.Joins.{Setting, Sets, section_settings}
use Rattle.ini_interp.specs.Known.{known_replaced}
use Rattle.ini_interp.proofs.JoinsLemmas.{one_more}
use Rattle.ini_interp.proofs.joins.push_section.Goals as goal

pub loop-index-preserved : goal.loop-index-preserved
loop-index-preserved c =
    let set : List ℕ × List ℕ → Setting = λ (item : List ℕ × List ℕ). Sets c.args.section.now item.0 (known_replaced c.args.before.now c.args.section.now item.1) in
    one_more set c.loop-index.changes c.push-in-loop-index.new.self _ c.args.items.now.items c.loop-index.index (c.at.result.0.now, c.at.result.1.now)
    (settings_of c.args.changes.now ++ section_settings c.args.before.now (c.args.section.now, c.args.items.now.items))
    c.in_ok-push-2.ensures.ok (ap (Sets c.args.section.now c.at.result.0.now) c.in_ok-value.ensures) c.at.ensures c.loop-index.invariant
