use Rattle.std.proofs.lemmas.Result.{err_from_is_err_and}
use Rattle.std.proofs.Common.{◌≡◌, ◌∙◌, Ok, Err, codes, sym, ap, subst}
use Rattle.ini_interp.specs.Merges.{Files}
use Rattle.ini_interp.specs.Sections.{without}
use Rattle.jail_conf.specs.Jails.{filter_of, jail_with, jail_of}
use Rattle.jail_conf.specs.MergedBases.{given_back, IsOfBase}
use Rattle.jail_conf.specs.Sources.{bases_of, with_items, with_known}
use Rattle.jail_conf.specs.Then.{Gives}
use Rattle.jail_conf.proofs.FaultLemmas.{first_fails, first_is_there}
use Rattle.jail_conf.proofs.OwnLemmas.{without-with_items}
use Rattle.jail_conf.proofs.jails.jail_of.Goals as goal

pub returns-in_err-filter-clause-defined : goal.returns-in_err-filter-clause-defined
unfolding jail_of
returns-in_err-filter-clause-defined c =
    let p = err_from_is_err_and c.from_residual.result c.from_residual.ensures.1 in
    rw (p.1, p.2) (first_fails (filter_of (bases_of c.args.bases.now) c.args.jail.now) _ c.in_err-filter.field-0.0 c.in_err-filter.ensures.defined)

pub returns-in_err-definition-clause-defined : goal.returns-in_err-definition-clause-defined
unfolding jail_of
returns-in_err-definition-clause-defined c =
    let p = err_from_is_err_and c.from_residual-in_err-definition.result c.from_residual-in_err-definition.ensures.1 in
    let known = c.in_ok-put_items.ensures ∙ ap (λ known. with_items (codes "]known") known c.args.jail.now.sections) c.as_slice.ensures in
    let failed : Gives (jail_with (bases_of c.args.bases.now) (with_known c.in_ok-filter.filter.known c.args.jail.now) c.in_ok-filter.filter.source c.args.patterns) (Err c.in_err-definition.field-0.0) =
    subst (λ sections. Gives (jail_with (bases_of c.args.bases.now) (record c.args.jail.now { sections = sections }) c.in_ok-filter.filter.source c.args.patterns) (Err c.in_err-definition.field-0.0)) known
    (subst (λ (files : Files). Gives (jail_with (bases_of files) (record c.args.jail.now { sections = c.put_items.new.sections }) c.in_ok-filter.filter.source c.args.patterns) (Err c.in_err-definition.field-0.0))
    c.in_ok-filter.ensures.files c.in_err-definition.ensures.defined) in
    rw (p.1, p.2) (first_is_there (filter_of (bases_of c.args.bases.now) c.args.jail.now) _ c.in_ok-filter.filter (Err c.in_err-definition.field-0.0) c.in_ok-filter.ensures.defined failed)

-- the filter goes back to its base
pub give_back-requires : goal.give_back-requires
give_back-requires c =
    subst (λ (files : Files). IsOfBase files c.in_ok-filter.filter.source.file (given_back c.in_ok-filter.filter.source)) (sym (c.in_ok-definition.ensures.files ∙ c.in_ok-filter.ensures.files))
    c.in_ok-filter.ensures.of_base

pub returns-clause-defined : goal.returns-clause-defined
unfolding jail_of
returns-clause-defined c =
    let known = c.in_ok-put_items.ensures ∙ ap (λ known. with_items (codes "]known") known c.args.jail.now.sections) c.as_slice.ensures in
    let definition : jail_with (bases_of c.args.bases.now) (with_known c.in_ok-filter.filter.known c.args.jail.now) c.in_ok-filter.filter.source c.args.patterns ≡ Ok c.in_ok-definition.definition =
    subst (λ sections. jail_with (bases_of c.args.bases.now) (record c.args.jail.now { sections = sections }) c.in_ok-filter.filter.source c.args.patterns ≡ Ok c.in_ok-definition.definition) known
    (subst (λ (files : Files). jail_with (bases_of files) (record c.args.jail.now { sections = c.put_items.new.sections }) c.in_ok-filter.filter.source c.args.patterns ≡ Ok c.in_ok-definition.definition)
    c.in_ok-filter.ensures.files c.in_ok-definition.ensures.defined) in
    first_is_there (filter_of (bases_of c.args.bases.now) c.args.jail.now) _ c.in_ok-filter.filter (Ok c.in_ok-definition.definition) c.in_ok-filter.ensures.defined definition

-- the items of the filter are taken out with their section
pub returns-clause-known : goal.returns-clause-known
returns-clause-known c =
    ap (without (codes "]known")) c.in_ok-put_items.ensures ∙ without-with_items (codes "]known") c.as_slice.result.now c.args.jail.now.sections
