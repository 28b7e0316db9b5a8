use Rattle.std.proofs.Common.{◌≡◌, None, Some, sym, rules}
use Rattle.jail_conf.specs.declared.options.Named.{Named}
use Rattle.jail_conf.specs.Options.{named}
use Rattle.jail_conf.proofs.WrittenLemmas.{names_nothing}
use Rattle.jail_conf.proofs.ReadLemmas.{read_is_written}
use Rattle.jail_conf.proofs.options.read_named.Goals as goal

pub returns-in_default-clause-refused : goal.returns-in_default-clause-refused
unfolding named
returns-in_default-clause-refused c =
    let is : None ≡ named c.args.text.now = search rules in
    names_nothing c.args.text.now (sym is)

pub returns-then-is_empty-clause-refused : goal.returns-then-is_empty-clause-refused
unfolding named
returns-then-is_empty-clause-refused c =
    let is : None ≡ named c.args.text.now = search rules in
    names_nothing c.args.text.now (sym is)

pub returns-clause-written : goal.returns-clause-written
unfolding named
returns-clause-written c =
    let shown : Named = record { name = c.in_ok-from_str.field-0; options = c.in-Some.options } in
    let is : Some shown ≡ named c.args.text.now = search rules in
    read_is_written shown c.args.text.now (sym is)
