use Rattle.std.proofs.Common.{◌∙◌, ap, List, ℕ, is_some}
use Rattle.ini_interp.specs.Merges.{Files}
use Rattle.ini_interp.specs.Sections.{value_of}
use Rattle.ini_interp.proofs.TableLemmas.{is_there}
use Rattle.ini_interp.proofs.file_table.FileTable.has.Goals as goal

pub returns : goal.returns
returns c =
    c.contains_key.ensures ∙ is_there c.args.path.now c.self.inside.contents.entries
    ∙ ap (λ (files : Files). is_some (value_of c.args.path.now files)) c.self.view_is
