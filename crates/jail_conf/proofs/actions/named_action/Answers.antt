use Rattle.std.proofs.Common.{◌≡◌, ◌∙◌, true, false, None, Some, sym, ap, subst}
use Rattle.jail_conf.specs.Actions.{file_of, name_of}
use Rattle.jail_conf.specs.Options.{named}
use Rattle.jail_conf.specs.Sources.{bases_of, without_file}
use Rattle.jail_conf.specs.Table.{action}
use Rattle.jail_conf.specs.Told.{IsRefusal}
use Rattle.jail_conf.specs.Words.{is_among}
use Rattle.jail_conf.proofs.ActionLemmas.{no_options, no_file, same_name, named_action_is}
use Rattle.jail_conf.proofs.actions.named_action.Goals as goal

pub returns-in_default : goal.returns-in_default
returns-in_default c =
    let none : named c.args.line.now ≡ None = sym c.in_ok-given.ensures.value ∙ c.in_default.is in
    no_options (bases_of c.args.bases.now) c.args.jail.now c.args.names.now c.args.line.now c.refused.result none c.refused.ensures

pub returns-then-not-has : goal.returns-then-not-has
returns-then-not-has c =
    let given : named c.args.line.now ≡ Some c.in-Some.given = sym c.in_ok-given.ensures.value ∙ c.in-Some.is in
    let there : (bases_of c.args.bases.now).has_file (file_of c.in-Some.given.name) ≡ false =
    sym (ap (bases_of c.args.bases.now).has_file (c.as_str-2.ensures.value ∙ (c.in_ok-file.ensures ∙ ap file_of c.as_str.ensures.value))) ∙ (sym c.has.ensures ∙ c.if-not-has.true) in
    no_file (bases_of c.args.bases.now) c.args.jail.now c.args.names.now c.args.line.now c.in-Some.given c.missing_file.result given there
    (subst (λ file. IsRefusal (without_file c.args.jail.now action.name file) c.missing_file.result) (c.in_ok-file.ensures ∙ ap file_of c.as_str.ensures.value) c.missing_file.ensures)

pub returns-then-is_among : goal.returns-then-is_among
returns-then-is_among c =
    let given : named c.args.line.now ≡ Some c.in-Some.given = sym c.in_ok-given.ensures.value ∙ c.in-Some.is in
    let there : (bases_of c.args.bases.now).has_file (file_of c.in-Some.given.name) ≡ true =
    sym (ap (bases_of c.args.bases.now).has_file (c.as_str-2.ensures.value ∙ (c.in_ok-file.ensures ∙ ap file_of c.as_str.ensures.value))) ∙ (sym c.has.ensures ∙ c.if-not-has.false) in
    let among : is_among c.args.names.now (name_of c.in-Some.given) ≡ true =
    sym (ap (is_among c.args.names.now) (c.as_str-3.ensures.value ∙ c.in_ok-name.ensures)) ∙ (sym c.is_among.ensures ∙ c.if-is_among.true) in
    same_name (bases_of c.args.bases.now) c.args.jail.now c.args.names.now c.args.line.now c.in-Some.given c.refused-then-is_among.result given there among c.refused-then-is_among.ensures

pub returns : goal.returns
returns c =
    let given : named c.args.line.now ≡ Some c.in-Some.given = sym c.in_ok-given.ensures.value ∙ c.in-Some.is in
    let there : (bases_of c.args.bases.now).has_file (file_of c.in-Some.given.name) ≡ true =
    sym (ap (bases_of c.args.bases.now).has_file (c.as_str-2.ensures.value ∙ (c.in_ok-file.ensures ∙ ap file_of c.as_str.ensures.value))) ∙ (sym c.has.ensures ∙ c.if-not-has.false) in
    let among : is_among c.args.names.now (name_of c.in-Some.given) ≡ false =
    sym (ap (is_among c.args.names.now) (c.as_str-3.ensures.value ∙ c.in_ok-name.ensures)) ∙ (sym c.is_among.ensures ∙ c.if-is_among.false) in
    named_action_is (bases_of c.args.bases.now) c.args.jail.now c.args.names.now c.args.line.now c.in-Some.given given there among
