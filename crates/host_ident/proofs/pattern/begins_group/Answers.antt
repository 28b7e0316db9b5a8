use Rattle.std.proofs.Common.{◌≡◌, false, ◌||◌, nat_eq, codes, ap, ◌∙◌}
use Rattle.std.proofs.lemmas.Str.Pattern.{ends_text}
use Rattle.std.specs.List.{ends_with}
use Rattle.host_ident.proofs.pattern.begins_group.Goals as goal

pub returns-else-ends_with : goal.returns-else-ends_with
returns-else-ends_with c =
    let not_first : false ≡ ends_with nat_eq c.args.before.now (codes "(?") = ends_text false (codes "(?") c.args.before.now c.if-ends_with.ensures.cases in
    let second : c.ends_with-else-ends_with.result ≡ ends_with nat_eq c.args.before.now (codes "(?P") =
    ends_text c.ends_with-else-ends_with.result (codes "(?P") c.args.before.now c.ends_with-else-ends_with.ensures.cases in
    second ∙ ap (λ first. first || ends_with nat_eq c.args.before.now (codes "(?P")) not_first
