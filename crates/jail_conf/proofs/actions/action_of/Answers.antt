use Rattle.std.proofs.lemmas.Result.{err_from_is_err_and}
use Rattle.std.proofs.Common.{◌≡◌, ◌∙◌, ◌++◌, Ok, Err, codes, sym, ap, subst}
use Rattle.ini_interp.specs.Merges.{Files}
use Rattle.jail_conf.specs.Actions.{base_of, file_of, name_of, lanes_of, named_action}
use Rattle.jail_conf.specs.Sources.{bases_of, sections_of, of_definition}
use Rattle.jail_conf.specs.Then.{Gives}
use Rattle.jail_conf.proofs.ActionLemmas.{lanes_given, action_name_fails, action_files_fail, action_lanes_fail, too_many_actions, action_is}
use Rattle.jail_conf.proofs.actions.action_of.Goals as goal

pub returns-in_err-given-clause-defined : goal.returns-in_err-given-clause-defined
returns-in_err-given-clause-defined c =
    let p = err_from_is_err_and c.from_residual.result c.from_residual.ensures.1 in
    rw (p.1, p.2) (action_name_fails (bases_of c.args.bases.now) c.args.jail.now c.args.names.now c.args.line.now c.in_err-given.field-0.0 c.in_err-given.ensures)

pub returns-in_err-sections-clause-defined : goal.returns-in_err-sections-clause-defined
returns-in_err-sections-clause-defined c =
    let p = err_from_is_err_and c.from_residual-in_err-sections.result c.from_residual-in_err-sections.ensures.1 in
    let given : named_action (bases_of c.args.bases.now) c.args.jail.now c.args.names.now c.args.line.now ≡ Ok c.in_ok-given.given = c.in_ok-given.ensures in
    let base : c.as_str-3.result.now ≡ base_of c.in_ok-given.given.name = c.as_str-3.ensures.value ∙ (c.in_ok-base.ensures ∙ ap base_of c.as_str.ensures.value) in
    let failed : Gives (sections_of (bases_of c.args.bases.now) (base_of c.in_ok-given.given.name)) (Err c.in_err-sections.field-0.0) =
    subst (λ base. Gives (sections_of (bases_of c.args.bases.now) base) (Err c.in_err-sections.field-0.0)) base c.in_err-sections.ensures.merged in
    rw (p.1, p.2) (action_files_fail (bases_of c.args.bases.now) c.args.jail.now c.args.names.now c.args.line.now c.in_ok-given.given c.in_err-sections.field-0.0 given failed)

pub returns-in_err-lanes-clause-defined : goal.returns-in_err-lanes-clause-defined
returns-in_err-lanes-clause-defined c =
    let p = err_from_is_err_and c.from_residual-in_err-lanes.result c.from_residual-in_err-lanes.ensures.1 in
    let given : named_action (bases_of c.args.bases.now) c.args.jail.now c.args.names.now c.args.line.now ≡ Ok c.in_ok-given.given = c.in_ok-given.ensures in
    let base : c.as_str-3.result.now ≡ base_of c.in_ok-given.given.name = c.as_str-3.ensures.value ∙ (c.in_ok-base.ensures ∙ ap base_of c.as_str.ensures.value) in
    let sections : sections_of (bases_of c.args.bases.now) (base_of c.in_ok-given.given.name) ≡ Ok c.in_ok-sections.sections =
    subst (λ base. sections_of (bases_of c.args.bases.now) base ≡ Ok c.in_ok-sections.sections) base c.in_ok-sections.ensures.merged in
    let name : c.as_str-5.result.now ≡ name_of c.in_ok-given.given = c.as_str-5.ensures.value ∙ c.in_ok-name.ensures in
    let failed : Gives (lanes_given c.args.jail.now c.in_ok-given.given c.in_ok-sections.sections) (Err c.in_err-lanes.field-0.0) =
    subst (λ name. Gives (lanes_of c.in_ok-sections.sections (of_definition (file_of c.in_ok-given.given.name) c.args.jail.now.section c.in_ok-given.given.options c.in_ok-sections.sections) name) (Err c.in_err-lanes.field-0.0))
    name c.in_err-lanes.ensures.lanes in
    rw (p.1, p.2) (action_lanes_fail (bases_of c.args.bases.now) c.args.jail.now c.args.names.now c.args.line.now c.in_ok-given.given c.in_ok-sections.sections c.in_err-lanes.field-0.0 given sections failed)

pub returns-then-names-ge-MOST_ACTIONS-clause-defined : goal.returns-then-names-ge-MOST_ACTIONS-clause-defined
returns-then-names-ge-MOST_ACTIONS-clause-defined c =
    let given : named_action (bases_of c.args.bases.now) c.args.jail.now c.args.names.now c.args.line.now ≡ Ok c.in_ok-given.given = c.in_ok-given.ensures in
    let base : c.as_str-3.result.now ≡ base_of c.in_ok-given.given.name = c.as_str-3.ensures.value ∙ (c.in_ok-base.ensures ∙ ap base_of c.as_str.ensures.value) in
    let sections : sections_of (bases_of c.args.bases.now) (base_of c.in_ok-given.given.name) ≡ Ok c.in_ok-sections.sections =
    subst (λ base. sections_of (bases_of c.args.bases.now) base ≡ Ok c.in_ok-sections.sections) base c.in_ok-sections.ensures.merged in
    let name : c.as_str-5.result.now ≡ name_of c.in_ok-given.given = c.as_str-5.ensures.value ∙ c.in_ok-name.ensures in
    let lanes : lanes_given c.args.jail.now c.in_ok-given.given c.in_ok-sections.sections ≡ Ok c.in_ok-lanes.lanes =
    subst (λ name. lanes_of c.in_ok-sections.sections (of_definition (file_of c.in_ok-given.given.name) c.args.jail.now.section c.in_ok-given.given.options c.in_ok-sections.sections) name ≡ Ok c.in_ok-lanes.lanes)
    name c.in_ok-lanes.ensures.lanes in
    too_many_actions (bases_of c.args.bases.now) c.args.jail.now c.args.names.now c.args.line.now c.in_ok-given.given c.in_ok-sections.sections c.in_ok-lanes.lanes c.refused.result given sections lanes c.if-names-ge-MOST_ACTIONS.true c.refused.ensures

pub returns-clause-defined : goal.returns-clause-defined
returns-clause-defined c =
    let given : named_action (bases_of c.args.bases.now) c.args.jail.now c.args.names.now c.args.line.now ≡ Ok c.in_ok-given.given = c.in_ok-given.ensures in
    let base : c.as_str-3.result.now ≡ base_of c.in_ok-given.given.name = c.as_str-3.ensures.value ∙ (c.in_ok-base.ensures ∙ ap base_of c.as_str.ensures.value) in
    let sections : sections_of (bases_of c.args.bases.now) (base_of c.in_ok-given.given.name) ≡ Ok c.in_ok-sections.sections =
    subst (λ base. sections_of (bases_of c.args.bases.now) base ≡ Ok c.in_ok-sections.sections) base c.in_ok-sections.ensures.merged in
    let name : c.as_str-5.result.now ≡ name_of c.in_ok-given.given = c.as_str-5.ensures.value ∙ c.in_ok-name.ensures in
    let lanes : lanes_given c.args.jail.now c.in_ok-given.given c.in_ok-sections.sections ≡ Ok c.in_ok-lanes.lanes =
    subst (λ name. lanes_of c.in_ok-sections.sections (of_definition (file_of c.in_ok-given.given.name) c.args.jail.now.section c.in_ok-given.given.options c.in_ok-sections.sections) name ≡ Ok c.in_ok-lanes.lanes)
    name c.in_ok-lanes.ensures.lanes in
    action_is (bases_of c.args.bases.now) c.args.jail.now c.args.names.now c.args.line.now c.in_ok-given.given c.in_ok-sections.sections c.in_ok-lanes.lanes given sections lanes c.if-names-ge-MOST_ACTIONS.false
    ∙ ap (λ name. Ok (record { name = name; lanes = c.in_ok-lanes.lanes })) (sym c.in_ok-name.ensures)

pub take-requires : goal.take-requires
take-requires c =
    let base : c.as_str-3.result.now ≡ base_of c.in_ok-given.given.name = c.as_str-3.ensures.value ∙ (c.in_ok-base.ensures ∙ ap base_of c.as_str.ensures.value) in
    let file : c.as_str-4.result.now ≡ file_of c.in_ok-given.given.name = c.as_str-4.ensures.value ∙ (c.in_ok-file.ensures ∙ ap file_of c.as_str-2.ensures.value) in
    file ∙ ap (λ base. base ++ codes ".conf") (sym base)

-- the sections are those of the action's base
pub lanes_of-requires : goal.lanes_of-requires
lanes_of-requires c =
    let base : c.as_str-3.result.now ≡ base_of c.in_ok-given.given.name = c.as_str-3.ensures.value ∙ (c.in_ok-base.ensures ∙ ap base_of c.as_str.ensures.value) in
    subst (λ (files : Files). sections_of (bases_of files) (base_of c.in_ok-given.given.name) ≡ Ok c.in_ok-sections.sections) (sym c.in_ok-sections.ensures.files)
    (subst (λ base. sections_of (bases_of c.args.bases.now) base ≡ Ok c.in_ok-sections.sections) base c.in_ok-sections.ensures.merged)
