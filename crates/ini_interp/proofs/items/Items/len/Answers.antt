use Rattle.std.proofs.Common.{◌≡◌, ◌∙◌, sym, ap, length}
use Rattle.ini_interp.specs.Kept.{Kept}
use Rattle.ini_interp.proofs.PlacesLemmas.{length-by_bytes}
use Rattle.ini_interp.proofs.items.Items.len.Goals as goal

pub returns : goal.returns
returns c = c.len.ensures.len ∙ sym (length-by_bytes c.self.inside.map.entries) ∙ ap (λ (kept : Kept). length kept.items) c.self.view_is
