use Rattle.std.proofs.lemmas.Result.{err_from_is_err_and}
use Rattle.std.proofs.Common.{◌≡◌, ◌∙◌, Ok, Err, if◌then◌else◌, refl, sym, ap, subst}
use Rattle.jail_conf.specs.declared.source.Source.{Source}
use Rattle.jail_conf.specs.Actions.{base_of, file_of, lane_of_both, lane_of_each, lanes_of}
use Rattle.jail_conf.specs.MergedBases.{given_back, IsOfBase}
use Rattle.jail_conf.specs.Sources.{of_definition}
use Rattle.jail_conf.specs.Then.{Gives}
use Rattle.jail_conf.proofs.OwnLemmas.{definition_of_base}
use Rattle.jail_conf.proofs.actions.lanes_of.Goals as goal

-- what the lanes are read from goes back to its base
pub give_back-requires : goal.give_back-requires
give_back-requires c =
    let given = c.args.given.now in
    let same = c.in_ok-lanes.ensures.scope ∙ ap (λ (source : Source). record source { scope = c.lanes_in.new.source.scope }) c.in_ok-source.ensures in
    subst (λ (source : Source). IsOfBase c.args.bases.now source.file (given_back source)) (sym same)
    (definition_of_base c.args.bases.now (base_of given.name) (file_of given.name) c.args.jail.now.section given.options c.args.merged refl c.requires)

pub returns-in_err-lanes-clause-lanes : goal.returns-in_err-lanes-clause-lanes
returns-in_err-lanes-clause-lanes c =
    let p = err_from_is_err_and c.from_residual-in_err-lanes.result c.from_residual-in_err-lanes.ensures.1 in
    let read : Source = of_definition (file_of c.args.given.now.name) c.args.jail.now.section c.args.given.now.options c.args.merged in
    let failed : Gives (lanes_of c.args.merged read c.args.name.now) (Err c.in_err-lanes.field-0.0) =
    subst (λ for_each. Gives (if for_each then lane_of_each read c.args.name.now else lane_of_both read c.args.name.now) (Err c.in_err-lanes.field-0.0)) c.in_ok-for_each.ensures
    (subst (λ (source : Source). Gives (if c.in_ok-for_each.for_each then lane_of_each source c.args.name.now else lane_of_both source c.args.name.now) (Err c.in_err-lanes.field-0.0))
    c.in_ok-source.ensures c.in_err-lanes.ensures.lanes) in
    rw (p.1, p.2) failed

pub returns-clause-lanes : goal.returns-clause-lanes
returns-clause-lanes c =
    let read : Source = of_definition (file_of c.args.given.now.name) c.args.jail.now.section c.args.given.now.options c.args.merged in
    subst (λ for_each. (if for_each then lane_of_each read c.args.name.now else lane_of_both read c.args.name.now) ≡ Ok c.in_ok-lanes.lanes) c.in_ok-for_each.ensures
    (subst (λ (source : Source). (if c.in_ok-for_each.for_each then lane_of_each source c.args.name.now else lane_of_both source c.args.name.now) ≡ Ok c.in_ok-lanes.lanes)
    c.in_ok-source.ensures c.in_ok-lanes.ensures.lanes)
