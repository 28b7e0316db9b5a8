use Rattle.std.proofs.Common.{◌≡◌, ◌||◌, nat_eq, codes, ap, sym, ◌∙◌}
use Rattle.std.proofs.lemmas.Str.Pattern.{starts_text}
use Rattle.std.specs.List.{starts_with}
use Rattle.tag_subst.proofs.names.is_reserved.Goals as goal

pub returns-else-is_listed : goal.returns-else-is_listed
returns-else-is_listed c =
    let begins : c.starts_with.result ≡ starts_with nat_eq c.args.name.now (codes "F-") =
    starts_text c.starts_with.result (codes "F-") c.args.name.now c.starts_with.ensures.cases in
    begins ∙ ap (λ first. first || starts_with nat_eq c.args.name.now (codes "F-")) (sym c.if-is_listed.false ∙ c.is_listed.ensures)
