use Rattle.std.proofs.Common.{◌≡◌, ◌∙◌, ap, option_map, slice_get, Some, String, string_bytes, Global, List, ℕ}
use Rattle.ini_interp.specs.Kept.{Kept}
use Rattle.ini_interp.proofs.PlacesLemmas.{entry_at, stands}
use Rattle.ini_interp.proofs.items.Items.at.Goals as goal

pub unreachable-requires : goal.unreachable-requires
unreachable-requires c =
    stands c.args.self.now.items c.args.index c.requires
    (ap (option_map (λ (e : String Global × List ℕ). (string_bytes e.0, e.1))) c.in-None.ensures.entry ∙ entry_at c.self.inside.map.entries c.args.index
    ∙ ap (λ (kept : Kept). slice_get kept.items c.args.index) c.self.view_is)

pub returns : goal.returns
returns c =
    ap (λ (name : List ℕ). Some (name, c.as_str-in-Some.result.now)) c.as_str.ensures.value
    ∙ ap (λ (value : List ℕ). Some (string_bytes c.in-Some.name.now, value)) c.as_str-in-Some.ensures.value
    ∙ ap (option_map (λ (e : String Global × List ℕ). (string_bytes e.0, e.1))) c.in-Some.ensures.entry ∙ entry_at c.self.inside.map.entries c.args.index
    ∙ ap (λ (kept : Kept). slice_get kept.items c.args.index) c.self.view_is
