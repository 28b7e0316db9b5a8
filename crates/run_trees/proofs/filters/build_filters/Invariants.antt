use Rattle.std.proofs.Common.{◌≡◌, map, take}
use Rattle.filter_regex.specs.Rules.{rules_of}
use Rattle.run_law.specs.Patterns.{patterns_of}
use Rattle.run_law.specs.Stages.{IsSteady}
use Rattle.run_steps.specs.Starting.{LeavesSlots}
use Rattle.run_trees.specs.Reads.{IsUnrefused, Reads, with_left}
use Rattle.run_trees.proofs.JailLemmas.{jails_left}
use Rattle.run_trees.proofs.filters.build_filters.Given as goal

abbrev pub invariant-loop-jail : goal.invariant-loop-jail
invariant-loop-jail g l = record {
  value : l.filters.items ≡ map rules_of (take l.jail-index l.settings.defs.jails);
  reads : Reads (g.W.Outside.stands l.initial.world) (g.W.Outside.stands l.world) l.plan (with_left l.settings (patterns_of l.settings.defs)) (jails_left l.settings l.jail-index);
  unrefused : IsUnrefused (g.W.Outside.stands l.initial.world) (g.W.Outside.stands l.world);
  still : LeavesSlots (g.W.Outside.stands l.initial.world) (g.W.Outside.stands l.world);
  steady : IsSteady (g.W.Outside.stands l.initial.world) (g.W.Outside.stands l.world);
}
