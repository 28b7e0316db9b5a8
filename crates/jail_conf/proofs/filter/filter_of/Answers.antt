use Rattle.std.proofs.lemmas.Result.{err_from_is_err_and}
use Rattle.std.proofs.Common.{◌≡◌, ◌∙◌, true, false, Ok, sym, ap, subst}
use Rattle.ini_interp.specs.Lines.{trimmed}
use Rattle.jail_conf.specs.declared.filter.Filter.{Filter}
use Rattle.jail_conf.specs.Jails.{no_filter, named_filter}
use Rattle.jail_conf.specs.MergedBases.{given_back, IsOfBase}
use Rattle.jail_conf.specs.Sources.{bases_of, own}
use Rattle.jail_conf.specs.Table as table
use Rattle.jail_conf.specs.Then.{Gives}
use Rattle.jail_conf.specs.Words.{is_empty}
use Rattle.jail_conf.proofs.FilterLemmas.{filter_text_fails, filter_is_none, filter_is_named}
use Rattle.jail_conf.proofs.OwnLemmas.{no_base}
use Rattle.jail_conf.proofs.filter.filter_of.Goals as goal

pub returns-in_err-text-clause-defined : goal.returns-in_err-text-clause-defined
returns-in_err-text-clause-defined c =
    let p = err_from_is_err_and c.from_residual.result c.from_residual.ensures.1 in
    rw (p.1, p.2) (filter_text_fails (bases_of c.args.bases.now) c.args.jail.now c.in_err-text.field-0.0 c.in_err-text.ensures)

pub returns-then-is_empty-clause-defined : goal.returns-then-is_empty-clause-defined
returns-then-is_empty-clause-defined c =
    let text : own c.args.jail.now table.filter ≡ Ok c.in_ok-text.text = c.in_ok-text.ensures in
    let empty : is_empty (trimmed c.in_ok-text.text) ≡ true =
    sym (ap is_empty (c.trim.ensures ∙ ap trimmed c.as_str.ensures.value)) ∙ (sym c.is_empty.ensures ∙ c.if-is_empty.true) in
    filter_is_none (bases_of c.args.bases.now) c.args.jail.now c.in_ok-text.text text empty ∙ sym (ap Ok (c.in_ok-filter.ensures ∙ ap no_filter c.as_str-then-is_empty.ensures.value))

pub returns-clause-defined : goal.returns-clause-defined
returns-clause-defined c =
    let text : own c.args.jail.now table.filter ≡ Ok c.in_ok-text.text = c.in_ok-text.ensures in
    let empty : is_empty (trimmed c.in_ok-text.text) ≡ false =
    sym (ap is_empty (c.trim.ensures ∙ ap trimmed c.as_str.ensures.value)) ∙ (sym c.is_empty.ensures ∙ c.if-is_empty.false) in
    filter_is_named (bases_of c.args.bases.now) c.args.jail.now c.in_ok-text.text c.named_filter.result text empty
    (subst (λ text. Gives (named_filter (bases_of c.args.bases.now) c.args.jail.now text) c.named_filter.result) c.as_str-2.ensures.value c.named_filter.ensures.defined)

-- without a filter nothing is kept
pub returns-then-is_empty-clause-of_base : goal.returns-then-is_empty-clause-of_base
returns-then-is_empty-clause-of_base c =
    subst (λ (filter : Filter). IsOfBase c.args.bases.now filter.source.file (given_back filter.source)) (sym c.in_ok-filter.ensures) (no_base c.args.bases.now _)
