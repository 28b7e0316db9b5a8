use Rattle.std.proofs.Common.{◌≡◌, false, nat_eq, rules}
use Rattle.std.specs.List.{starts_with}
use Rattle.std.proofs.lemmas.Str.Pattern.{starts_text}
use Rattle.jail_conf.specs.Dates.{anchor}
use Rattle.regex_tool.proofs.definition.date_spec.Goals as goal

pub returns : goal.returns
returns c =
    let none : false ≡ starts_with nat_eq c.args.text.now anchor = starts_text false anchor c.args.text.now c.in_default-strip_prefix.ensures.cases in
    search rules
