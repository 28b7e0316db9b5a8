use Rattle.std.proofs.lemmas.Result.{err_from_is_err_and}
use Rattle.std.proofs.Common.{◌≡◌, ◌∙◌, true, false, length, Ok, Err, sym, ap, subst}
use Rattle.std.specs.Prelude.{sum_by}
use Rattle.jail_conf.specs.Conf.{is_enabled, patterns_in}
use Rattle.jail_conf.specs.Jails.{jail_of}
use Rattle.jail_conf.specs.Sources.{bases_of}
use Rattle.jail_conf.specs.Then.{Gives}
use Rattle.jail_conf.proofs.NextLemmas.{next_enabled_fails, next_is_off, next_fails, next_is}
use Rattle.jail_conf.proofs.configuration.next_jail.Goals as goal

pub returns-in_err-is_enabled-clause-defined : goal.returns-in_err-is_enabled-clause-defined
returns-in_err-is_enabled-clause-defined c =
    let p = err_from_is_err_and c.from_residual.result c.from_residual.ensures.1 in
    rw (p.1, p.2) (next_enabled_fails (bases_of c.args.bases.now) c.args.jail.now c.args.before.now c.in_err-is_enabled.field-0.0 c.in_err-is_enabled.ensures)

pub returns-then-not-branch-clause-defined : goal.returns-then-not-branch-clause-defined
returns-then-not-branch-clause-defined c =
    let off : is_enabled c.args.jail.now (length c.args.before.now) ≡ Ok false = c.in_ok-is_enabled.ensures ∙ ap Ok c.if-not-branch.true in
    next_is_off (bases_of c.args.bases.now) c.args.jail.now c.args.before.now off

pub returns-in_err-definition-clause-defined : goal.returns-in_err-definition-clause-defined
returns-in_err-definition-clause-defined c =
    let p = err_from_is_err_and c.from_residual-in_err-definition.result c.from_residual-in_err-definition.ensures.1 in
    let on : is_enabled c.args.jail.now (length c.args.before.now) ≡ Ok true = c.in_ok-is_enabled.ensures ∙ ap Ok c.if-not-branch.false in
    let failed : Gives (jail_of (bases_of c.args.bases.now) c.args.jail.now (sum_by patterns_in c.args.before.now)) (Err c.in_err-definition.field-0.0) =
    subst (λ patterns. Gives (jail_of (bases_of c.args.bases.now) c.args.jail.now patterns) (Err c.in_err-definition.field-0.0)) (sym c.requires.counted) c.in_err-definition.ensures.defined in
    rw (p.1, p.2) (next_fails (bases_of c.args.bases.now) c.args.jail.now c.args.before.now c.in_err-definition.field-0.0 on failed)

pub returns-clause-defined : goal.returns-clause-defined
returns-clause-defined c =
    let on : is_enabled c.args.jail.now (length c.args.before.now) ≡ Ok true = c.in_ok-is_enabled.ensures ∙ ap Ok c.if-not-branch.false in
    let definition : jail_of (bases_of c.args.bases.now) c.args.jail.now (sum_by patterns_in c.args.before.now) ≡ Ok c.in_ok-definition.definition =
    subst (λ patterns. jail_of (bases_of c.args.bases.now) c.args.jail.now patterns ≡ Ok c.in_ok-definition.definition) (sym c.requires.counted) c.in_ok-definition.ensures.defined in
    next_is (bases_of c.args.bases.now) c.args.jail.now c.args.before.now c.in_ok-definition.definition on definition
