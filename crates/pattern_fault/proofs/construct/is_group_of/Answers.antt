use Rattle.std.proofs.Common.{◌≡◌, nat_eq, rules}
use Rattle.std.specs.List.{starts_with}
use Rattle.std.proofs.lemmas.Str.Pattern.{starts_text}
use Rattle.pattern_fault.proofs.construct.is_group_of.Goals as goal

pub returns-then-opens_group : goal.returns-then-opens_group
returns-then-opens_group c =
    let begins : c.starts_with.result ≡ starts_with nat_eq c.args.rest.now c.args.front.now =
    starts_text c.starts_with.result c.args.front.now c.args.rest.now c.starts_with.ensures.cases in
    search rules
