use Rattle.std.proofs.Common.{◌≡◌, ◌&&◌, true, false, nat_eq, codes, ap, ◌∙◌}
use Rattle.std.proofs.lemmas.Str.Pattern.{starts_text}
use Rattle.std.specs.List.{starts_with, list_all}
use Rattle.host_ident.specs.Tags.{is_name_byte}
use Rattle.jail_conf.proofs.patterns.is_line_mark.Goals as goal

pub returns-then-starts_with : goal.returns-then-starts_with
returns-then-starts_with c =
    let begins : true ≡ starts_with nat_eq c.args.name.now (codes "F-MLF") =
    starts_text true (codes "F-MLF") c.args.name.now c.if-starts_with.ensures.cases in
    c.is_name.ensures ∙ ap (λ begins. begins && list_all is_name_byte c.args.name.now) begins

pub returns-else-starts_with : goal.returns-else-starts_with
returns-else-starts_with c =
    let not : false ≡ starts_with nat_eq c.args.name.now (codes "F-MLF") =
    starts_text false (codes "F-MLF") c.args.name.now c.if-starts_with.ensures.cases in
    c.if-starts_with.false ∙ ap (λ begins. begins && list_all is_name_byte c.args.name.now) not
