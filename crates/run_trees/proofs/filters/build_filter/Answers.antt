use Rattle.std.proofs.Common.{Err, subst}
use Rattle.filter_regex.specs.Builds as filter
use Rattle.filter_regex.specs.Rules.{rules_of}
use Rattle.filter_regex.specs.declared.error.PatternError.{PatternError}
use Rattle.run_trees.proofs.BuildLemmas.{jail_built, jail_given, jail_still, jail_unrefused}
use Rattle.run_trees.proofs.filters.build_filter.Goals as goal

pub returns-in-Ok-clause-taken : goal.returns-in-Ok-clause-taken
returns-in-Ok-clause-taken g c =
    jail_built (g.W.Outside.stands c.args.world.now) (g.W.Outside.stands c.build.new.patterns) c.args.jail.now c.in-Ok.filter c.in-Ok.ensures.calls

pub returns-in-Ok-clause-still : goal.returns-in-Ok-clause-still
returns-in-Ok-clause-still g c =
    jail_still (g.W.Outside.stands c.args.world.now) (g.W.Outside.stands c.build.new.patterns) c.args.jail.now c.in-Ok.filter c.in-Ok.ensures.calls

pub returns-in-Ok-clause-given : goal.returns-in-Ok-clause-given
returns-in-Ok-clause-given g c =
    jail_given (g.W.Outside.stands c.args.world.now) (g.W.Outside.stands c.build.new.patterns) c.args.jail.now c.in-Ok.filter c.in-Ok.ensures.calls

pub returns-in-Err-NoMemory-clause-unrefused : goal.returns-in-Err-NoMemory-clause-unrefused
returns-in-Err-NoMemory-clause-unrefused g c =
    let old = g.W.Outside.stands c.args.world.now in
    let new = g.W.Outside.stands c.build.new.patterns in
    let P : PatternError → Type 0 = λ error. filter.Builds (rules_of c.args.jail.now) (Err error) old new in
    jail_unrefused old new c.args.jail.now (subst P c.in-Err-NoMemory.field-0-is c.in-Err-NoMemory.ensures.calls)
