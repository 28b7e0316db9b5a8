use Rattle.jail_conf.proofs.SourceLemmas.{pushed_definition, on_ok}
use Rattle.jail_conf.proofs.sources.push_definition.Goals as goal

pub returns : goal.returns
returns c =
    on_ok c.push_name-4.result
    (pushed_definition c.args.scope.now c.push_name.new.scope c.push_name-2.new.scope c.push_name-3.new.scope c.push_name-4.new.scope c.in_ok-push_name.ensures c.in_ok-push_name-2.ensures
    c.in_ok-push_name-3.ensures)
    c.push_name-4.ensures
