use Rattle.std.proofs.Common.{◌≡◌, ◌∙◌, ap, option_map, Option, List, ℕ}
use denote.Ref.{Bor}
use Rattle.ini_interp.specs.Sections.{value_of}
use Rattle.ini_interp.proofs.TableLemmas.{content_is}
use Rattle.ini_interp.proofs.file_table.FileTable.get.Goals as goal

pub returns : goal.returns
returns c =
    ap (option_map (λ (b : Bor (List ℕ)). b.now)) (c.copied.ensures ∙ c.get.ensures.value)
    ∙ content_is c.args.path.now c.self.inside.contents.entries ∙ ap (value_of c.args.path.now) c.self.view_is
