use Rattle.std.proofs.Common.{◌≡◌, ◌∙◌, ap, option_map, slice_get, Some, String, string_bytes, Global, List, ℕ}
use Rattle.ini_interp.specs.Entries.{by_bytes}
use Rattle.ini_interp.specs.Kept.{Kept}
use Rattle.ini_interp.specs.Sections.{Items, Sections}
use Rattle.ini_interp.proofs.PlacesLemmas.{entry_at, map_at, stands}
use Rattle.ini_interp.proofs.sections.Sections.at.Goals as goal

pub unreachable-requires : goal.unreachable-requires
unreachable-requires c =
    stands c.args.self.now c.args.index c.requires
    (ap (option_map (λ (s : List ℕ × Kept). (s.0, s.1.items)))
    (ap (option_map (λ (e : String Global × Kept). (string_bytes e.0, e.1))) c.in-None.ensures.entry ∙ entry_at c.self.inside.map.entries c.args.index)
    ∙ map_at (λ (s : List ℕ × Kept). (s.0, s.1.items)) (by_bytes c.self.inside.map.entries) c.args.index
    ∙ ap (λ (sections : Sections). slice_get sections c.args.index) c.self.view_is)

pub returns : goal.returns
returns c =
    ap (λ (name : List ℕ). Some (name, c.in-Some.items.now.items)) c.as_str.ensures.value
    ∙ ap (option_map (λ (s : List ℕ × Kept). (s.0, s.1.items)))
    (ap (option_map (λ (e : String Global × Kept). (string_bytes e.0, e.1))) c.in-Some.ensures.entry ∙ entry_at c.self.inside.map.entries c.args.index)
    ∙ map_at (λ (s : List ℕ × Kept). (s.0, s.1.items)) (by_bytes c.self.inside.map.entries) c.args.index
    ∙ ap (λ (sections : Sections). slice_get sections c.args.index) c.self.view_is
