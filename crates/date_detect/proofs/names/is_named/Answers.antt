use Rattle.std.proofs.Common.{ap, ◌∙◌}
use Rattle.std.specs.Str.{bytes_eq}
use Rattle.date_detect.proofs.NameLemmas.{same_text-bytes_eq}
use Rattle.date_detect.proofs.names.is_named.Goals as goal

pub returns-in-Some : goal.returns-in-Some
returns-in-Some c =
    rw c.in-Some.is
    (c.eq.ensures ∙ ap (λ given. bytes_eq given c.args.name.now) c.as_str.ensures.value ∙ same_text-bytes_eq _ c.args.name.now)
