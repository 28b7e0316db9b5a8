use Rattle.std.proofs.lemmas.Result.{err_from_is_err_and}
use Rattle.std.proofs.Common.{◌≡◌, ◌∙◌, ◌++◌, true, false, None, Some, Ok, Err, codes, refl, sym, ap, subst}
use Rattle.jail_conf.specs.declared.source.Source.{Source}
use Rattle.jail_conf.specs.Jails.{base_of, file_of, known_of}
use Rattle.jail_conf.specs.MergedBases.{given_back, IsOfBase}
use Rattle.jail_conf.specs.Options.{named}
use Rattle.jail_conf.specs.Sources.{bases_of, sections_of, of_definition, without_file}
use Rattle.jail_conf.specs.Table as table
use Rattle.jail_conf.specs.Then.{Gives}
use Rattle.jail_conf.specs.Told.{IsRefusal}
use Rattle.jail_conf.proofs.FilterLemmas.{filter_has_no_options, filter_has_no_file, filter_files_fail, named_filter_is}
use Rattle.jail_conf.proofs.OwnLemmas.{definition_of_base}
use Rattle.jail_conf.proofs.filter.named_filter.Goals as goal

pub returns-in_default-clause-defined : goal.returns-in_default-clause-defined
returns-in_default-clause-defined c =
    let none : named c.args.text.now ≡ None = sym c.in_ok-given.ensures.value ∙ c.in_default.is in
    filter_has_no_options (bases_of c.args.bases.now) c.args.jail.now c.args.text.now c.refused.result none c.refused.ensures

pub returns-then-not-has-clause-defined : goal.returns-then-not-has-clause-defined
returns-then-not-has-clause-defined c =
    let given : named c.args.text.now ≡ Some c.in-Some.given = sym c.in_ok-given.ensures.value ∙ c.in-Some.is in
    let file : c.in_ok-file.file ≡ file_of c.in-Some.given.name = c.in_ok-file.ensures ∙ ap file_of c.as_str.ensures.value in
    let there : (bases_of c.args.bases.now).has_file (file_of c.in-Some.given.name) ≡ false =
    sym (ap (bases_of c.args.bases.now).has_file (c.as_str-2.ensures.value ∙ file)) ∙ (sym c.has.ensures ∙ c.if-not-has.true) in
    filter_has_no_file (bases_of c.args.bases.now) c.args.jail.now c.args.text.now c.in-Some.given c.missing_file.result given there
    (subst (λ file. IsRefusal (without_file c.args.jail.now table.filter.name file) c.missing_file.result) file c.missing_file.ensures)

pub returns-in_err-sections-clause-defined : goal.returns-in_err-sections-clause-defined
returns-in_err-sections-clause-defined c =
    let p = err_from_is_err_and c.from_residual-in_err-sections.result c.from_residual-in_err-sections.ensures.1 in
    let given : named c.args.text.now ≡ Some c.in-Some.given = sym c.in_ok-given.ensures.value ∙ c.in-Some.is in
    let file : c.in_ok-file.file ≡ file_of c.in-Some.given.name = c.in_ok-file.ensures ∙ ap file_of c.as_str.ensures.value in
    let there : (bases_of c.args.bases.now).has_file (file_of c.in-Some.given.name) ≡ true =
    sym (ap (bases_of c.args.bases.now).has_file (c.as_str-2.ensures.value ∙ file)) ∙ (sym c.has.ensures ∙ c.if-not-has.false) in
    let base : c.as_str-4.result.now ≡ base_of c.in-Some.given.name = c.as_str-4.ensures.value ∙ (c.in_ok-base.ensures ∙ ap base_of c.as_str-3.ensures.value) in
    let failed : Gives (sections_of (bases_of c.args.bases.now) (base_of c.in-Some.given.name)) (Err c.in_err-sections.field-0.0) =
    subst (λ base. Gives (sections_of (bases_of c.args.bases.now) base) (Err c.in_err-sections.field-0.0)) base c.in_err-sections.ensures.merged in
    rw (p.1, p.2) (filter_files_fail (bases_of c.args.bases.now) c.args.jail.now c.args.text.now c.in-Some.given c.in_err-sections.field-0.0 given there failed)

pub returns-clause-defined : goal.returns-clause-defined
returns-clause-defined c =
    let given : named c.args.text.now ≡ Some c.in-Some.given = sym c.in_ok-given.ensures.value ∙ c.in-Some.is in
    let file : c.in_ok-file.file ≡ file_of c.in-Some.given.name = c.in_ok-file.ensures ∙ ap file_of c.as_str.ensures.value in
    let there : (bases_of c.args.bases.now).has_file (file_of c.in-Some.given.name) ≡ true =
    sym (ap (bases_of c.args.bases.now).has_file (c.as_str-2.ensures.value ∙ file)) ∙ (sym c.has.ensures ∙ c.if-not-has.false) in
    let base : c.as_str-4.result.now ≡ base_of c.in-Some.given.name = c.as_str-4.ensures.value ∙ (c.in_ok-base.ensures ∙ ap base_of c.as_str-3.ensures.value) in
    let sections : sections_of (bases_of c.args.bases.now) (base_of c.in-Some.given.name) ≡ Ok c.in_ok-sections.sections =
    subst (λ base. sections_of (bases_of c.args.bases.now) base ≡ Ok c.in_ok-sections.sections) base c.in_ok-sections.ensures.merged in
    let source : c.in_ok-source.source ≡ of_definition (file_of c.in-Some.given.name) c.args.jail.now.section c.in-Some.given.options c.in_ok-sections.sections =
    c.in_ok-source.ensures
    ∙ (ap (λ file. of_definition file c.as_str-7.result.now c.as_slice.result.now c.in_ok-sections.sections) (c.as_str-6.ensures.value ∙ file)
    ∙ (ap (λ section. of_definition (file_of c.in-Some.given.name) section c.as_slice.result.now c.in_ok-sections.sections) c.as_str-7.ensures.value
    ∙ ap (λ options. of_definition (file_of c.in-Some.given.name) c.args.jail.now.section options c.in_ok-sections.sections) c.as_slice.ensures)) in
    named_filter_is (bases_of c.args.bases.now) c.args.jail.now c.args.text.now c.in-Some.given c.in_ok-sections.sections given there sections
    ∙ (ap (λ source. Ok (record { source = source; known = known_of c.in_ok-sections.sections })) (sym source)
    ∙ ap (λ known. Ok (record { source = c.in_ok-source.source; known = known })) (sym c.in_ok-known.ensures))

pub take-requires : goal.take-requires
take-requires c =
    let file : c.in_ok-file.file ≡ file_of c.in-Some.given.name = c.in_ok-file.ensures ∙ ap file_of c.as_str.ensures.value in
    let base : c.as_str-4.result.now ≡ base_of c.in-Some.given.name = c.as_str-4.ensures.value ∙ (c.in_ok-base.ensures ∙ ap base_of c.as_str-3.ensures.value) in
    c.as_str-5.ensures.value ∙ (file ∙ ap (λ base. base ++ codes ".conf") (sym base))

-- what is read may be given back
pub returns-clause-of_base : goal.returns-clause-of_base
returns-clause-of_base c =
    let file : c.in_ok-file.file ≡ file_of c.in-Some.given.name = c.in_ok-file.ensures ∙ ap file_of c.as_str.ensures.value in
    let base : c.as_str-4.result.now ≡ base_of c.in-Some.given.name = c.as_str-4.ensures.value ∙ (c.in_ok-base.ensures ∙ ap base_of c.as_str-3.ensures.value) in
    let sections : sections_of (bases_of c.args.bases.now) (base_of c.in-Some.given.name) ≡ Ok c.in_ok-sections.sections =
    subst (λ base. sections_of (bases_of c.args.bases.now) base ≡ Ok c.in_ok-sections.sections) base c.in_ok-sections.ensures.merged in
    let source : c.in_ok-source.source ≡ of_definition (file_of c.in-Some.given.name) c.args.jail.now.section c.in-Some.given.options c.in_ok-sections.sections =
    c.in_ok-source.ensures
    ∙ (ap (λ file. of_definition file c.as_str-7.result.now c.as_slice.result.now c.in_ok-sections.sections) (c.as_str-6.ensures.value ∙ file)
    ∙ (ap (λ section. of_definition (file_of c.in-Some.given.name) section c.as_slice.result.now c.in_ok-sections.sections) c.as_str-7.ensures.value
    ∙ ap (λ options. of_definition (file_of c.in-Some.given.name) c.args.jail.now.section options c.in_ok-sections.sections) c.as_slice.ensures)) in
    subst (λ (source : Source). IsOfBase c.args.bases.now source.file (given_back source)) (sym source)
    (definition_of_base c.args.bases.now (base_of c.in-Some.given.name) (file_of c.in-Some.given.name) c.args.jail.now.section c.in-Some.given.options c.in_ok-sections.sections refl
    sections)
