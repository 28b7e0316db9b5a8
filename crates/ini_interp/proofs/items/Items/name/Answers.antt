use Rattle.std.proofs.Common.{◌∙◌, ap, option_map, slice_get, string_bytes}
use Rattle.ini_interp.proofs.EntriesLemmas.{name_at}
use Rattle.ini_interp.specs.Kept.{Kept}
use Rattle.ini_interp.proofs.items.Items.name.Goals as goal

pub returns-in-Some : goal.returns-in-Some
returns-in-Some c =
    rw c.as_str.ensures.value
    (ap (option_map (λ e. string_bytes e.0)) c.in-Some.ensures.entry ∙ name_at c.self.inside.map.entries c.args.index
    ∙ ap (λ (kept : Kept). option_map (λ e. e.0) (slice_get kept.items c.args.index)) c.self.view_is)

pub returns-in-None : goal.returns-in-None
returns-in-None c =
    ap (option_map (λ e. string_bytes e.0)) c.in-None.ensures.entry ∙ name_at c.self.inside.map.entries c.args.index
    ∙ ap (λ (kept : Kept). option_map (λ e. e.0) (slice_get kept.items c.args.index)) c.self.view_is
