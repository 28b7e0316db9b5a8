use Rattle.std.proofs.Common.{◌≡◌, ◌+◌, ◌<◌, ◌++◌, List, [], ◌∷◌, length, map, take, get_or, subst}
use Rattle.std.proofs.lemmas.Result.{err_from_is_err_and}
use Rattle.f2b_base.specs.declared.jail.JailDef.{JailDef}
use Rattle.filter_regex.specs.Rules.{rules_of}
use Rattle.run_law.specs.Patterns.{patterns_of}
use Rattle.run_law.proofs.CauseLemmas.{steady_on}
use Rattle.run_steps.proofs.StartLemmas.{leaves_trans}
use Rattle.run_steps.proofs.ToldLemmas.{map_take_more}
use Rattle.run_trees.specs.Reads.{BuildFails, Builds, IsUnrefused, with_left}
use Rattle.run_trees.specs.Trees.{IsCaused}
use Rattle.run_trees.proofs.JailLemmas.{jails_left, next_built, next_caused, next_fails, next_short}
use Rattle.run_trees.proofs.ReadsLemmas.{reads_short_here, reads_short_on, unrefused_trans}
use Rattle.run_trees.proofs.filters.build_filters.Goals as goal

pub returns-in_err-filter-clause-lost : goal.returns-in_err-filter-clause-lost
returns-in_err-filter-clause-lost g c =
    let p = err_from_is_err_and c.from_residual.result c.from_residual.ensures.1 in
    let jails = c.args.settings.now.defs.jails in
    let i = c.loop-jail.jail-index in
    let less : i < length jails = subst (λ (ds : List JailDef). i < length ds) c.as_slice-jail-items.ensures c.loop-jail-test.true in
    let is : c.jail-item.result ≡ get_or jails i c.jail-item.result = subst (λ (ds : List JailDef). c.jail-item.result ≡ get_or ds i c.jail-item.result) c.as_slice-jail-items.ensures c.jail-item.is in
    rw p.1
    (next_short c.args.settings.now i c.jail-item.result less is (g.W.Outside.stands c.args.world.now) (g.W.Outside.stands c.loop-jail.world) (g.W.Outside.stands c.build_filter.new.world)
    c.args.plan.now (with_left c.args.settings.now (patterns_of c.args.settings.now.defs)) c.loop-jail.invariant.reads c.in_err-filter.ensures.lost)

pub returns-in_err-filter-clause-unrefused : goal.returns-in_err-filter-clause-unrefused
returns-in_err-filter-clause-unrefused g c =
    let p = err_from_is_err_and c.from_residual.result c.from_residual.ensures.1 in
    rw p.1
    (unrefused_trans (g.W.Outside.stands c.args.world.now) (g.W.Outside.stands c.loop-jail.world) (g.W.Outside.stands c.build_filter.new.world) c.loop-jail.invariant.unrefused c.in_err-filter.ensures.unrefused)

pub returns-in_err-push_filter-in-Ok-clause-unrefused : goal.returns-in_err-push_filter-in-Ok-clause-unrefused
returns-in_err-push_filter-in-Ok-clause-unrefused g c =
    let p = err_from_is_err_and c.from_residual-in_err-push_filter-in-Ok.result c.from_residual-in_err-push_filter-in-Ok.ensures.1 in
    let given : IsUnrefused (g.W.Outside.stands c.loop-jail.world) (g.W.Outside.stands c.build_filter.new.world) = rw c.in-Ok.is at c.in_ok-filter.ensures.given in
    rw p.1
    (unrefused_trans (g.W.Outside.stands c.args.world.now) (g.W.Outside.stands c.loop-jail.world) (g.W.Outside.stands c.build_filter.new.world) c.loop-jail.invariant.unrefused given)

pub returns-in_err-push_filter-in-Ok-clause-lost : goal.returns-in_err-push_filter-in-Ok-clause-lost
returns-in_err-push_filter-in-Ok-clause-lost g c =
    let p = err_from_is_err_and c.from_residual-in_err-push_filter-in-Ok.result c.from_residual-in_err-push_filter-in-Ok.ensures.1 in
    let jails = c.args.settings.now.defs.jails in
    let i = c.loop-jail.jail-index in
    let less : i < length jails = subst (λ (ds : List JailDef). i < length ds) c.as_slice-jail-items.ensures c.loop-jail-test.true in
    let is : c.jail-item.result ≡ get_or jails i c.jail-item.result = subst (λ (ds : List JailDef). c.jail-item.result ≡ get_or ds i c.jail-item.result) c.as_slice-jail-items.ensures c.jail-item.is in
    let a = g.W.Outside.stands c.args.world.now in
    let d = g.W.Outside.stands c.build_filter.new.world in
    let from = with_left c.args.settings.now (patterns_of c.args.settings.now.defs) in
    let there = jails_left c.args.settings.now (i + 1) in
    let built : Builds (g.W.Outside.stands c.loop-jail.world) d c.jail-item.result = rw c.in-Ok.is at c.in_ok-filter.ensures.taken in
    rw p.1
    (reads_short_on a d d c.args.plan.now from there
    (next_built c.args.settings.now i c.jail-item.result less is a (g.W.Outside.stands c.loop-jail.world) d c.args.plan.now from c.loop-jail.invariant.reads built)
    (reads_short_here d c.args.plan.now there))

pub returns-in-Err-clause-untaken : goal.returns-in-Err-clause-untaken
returns-in-Err-clause-untaken g c =
    let jails = c.args.settings.now.defs.jails in
    let i = c.loop-jail.jail-index in
    let less : i < length jails = subst (λ (ds : List JailDef). i < length ds) c.as_slice-jail-items.ensures c.loop-jail-test.true in
    let is : c.jail-item.result ≡ get_or jails i c.jail-item.result = subst (λ (ds : List JailDef). c.jail-item.result ≡ get_or ds i c.jail-item.result) c.as_slice-jail-items.ensures c.jail-item.is in
    let b = g.W.Outside.stands c.loop-jail.world in
    let d = g.W.Outside.stands c.build_filter.new.world in
    let fails : BuildFails b d c.jail-item.result c.in-Err.status = rw c.in-Err.is at c.in_ok-filter.ensures.untaken in
    next_fails c.args.settings.now i c.jail-item.result less is (g.W.Outside.stands c.args.world.now) b d c.args.plan.now (with_left c.args.settings.now (patterns_of c.args.settings.now.defs)) c.in-Err.status
    c.loop-jail.invariant.reads fails

pub returns-in-Err-clause-cause : goal.returns-in-Err-clause-cause
returns-in-Err-clause-cause g c =
    let jails = c.args.settings.now.defs.jails in
    let i = c.loop-jail.jail-index in
    let less : i < length jails = subst (λ (ds : List JailDef). i < length ds) c.as_slice-jail-items.ensures c.loop-jail-test.true in
    let is : c.jail-item.result ≡ get_or jails i c.jail-item.result = subst (λ (ds : List JailDef). c.jail-item.result ≡ get_or ds i c.jail-item.result) c.as_slice-jail-items.ensures c.jail-item.is in
    let b = g.W.Outside.stands c.loop-jail.world in
    let d = g.W.Outside.stands c.build_filter.new.world in
    let caused : IsCaused b d c.jail-item.result c.in-Err.status = rw c.in-Err.is at c.in_ok-filter.ensures.cause in
    next_caused c.args.settings.now i c.jail-item.result less is (g.W.Outside.stands c.args.world.now) b d c.in-Err.status c.requires.tree c.loop-jail.invariant.steady caused

pub loop-jail-preserved : goal.loop-jail-preserved
loop-jail-preserved g c =
    let jails = c.args.settings.now.defs.jails in
    let i = c.loop-jail.jail-index in
    let less : i < length jails = subst (λ (ds : List JailDef). i < length ds) c.as_slice-jail-items.ensures c.loop-jail-test.true in
    let is : c.jail-item.result ≡ get_or jails i c.jail-item.result = subst (λ (ds : List JailDef). c.jail-item.result ≡ get_or ds i c.jail-item.result) c.as_slice-jail-items.ensures c.jail-item.is in
    let a = g.W.Outside.stands c.args.world.now in
    let b = g.W.Outside.stands c.loop-jail.world in
    let d = g.W.Outside.stands c.build_filter.new.world in
    let more : map rules_of (take (i + 1) jails) ≡ map rules_of (take i jails) ++ rules_of c.jail-item.result ∷ [] = map_take_more rules_of jails i c.jail-item.result less is in
    let own : c.in-Ok.filter ≡ rules_of c.jail-item.result = rw c.in-Ok.is at c.in_ok-filter.ensures.value in
    let built : Builds b d c.jail-item.result = rw c.in-Ok.is at c.in_ok-filter.ensures.taken in
    let leaves = rw c.in-Ok.is at c.in_ok-filter.ensures.still in
    let given : IsUnrefused b d = rw c.in-Ok.is at c.in_ok-filter.ensures.given in
    record {
      value = cc (c.in_ok-push_filter-in-Ok.ensures, own, c.loop-jail.invariant.value, more);
      reads = next_built c.args.settings.now i c.jail-item.result less is a b d c.args.plan.now (with_left c.args.settings.now (patterns_of c.args.settings.now.defs))
          c.loop-jail.invariant.reads built;
      unrefused = unrefused_trans a b d c.loop-jail.invariant.unrefused given;
      still = leaves_trans a b d c.loop-jail.invariant.still leaves;
      steady = steady_on a b d c.loop-jail.invariant.steady c.build_filter.ensures.steady;
    }
