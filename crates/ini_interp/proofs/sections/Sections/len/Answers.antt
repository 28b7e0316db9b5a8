use Rattle.std.proofs.Common.{◌≡◌, ◌∙◌, sym, ap, length, List, ℕ}
use Rattle.ini_interp.specs.Entries.{by_bytes}
use Rattle.ini_interp.specs.Kept.{Kept}
use Rattle.ini_interp.specs.Sections.{Items, Sections}
use Rattle.ini_interp.proofs.PlacesLemmas.{length-by_bytes, length-seen}
use Rattle.ini_interp.proofs.sections.Sections.len.Goals as goal

pub returns : goal.returns
returns c =
    c.len.ensures.len ∙ sym (length-by_bytes c.self.inside.map.entries) ∙ sym (length-seen (by_bytes c.self.inside.map.entries))
    ∙ ap (λ (sections : Sections). length sections) c.self.view_is
