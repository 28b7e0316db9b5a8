use Rattle.std.proofs.Common.{◌≡◌, ◌∙◌, ap, sym, List, ℕ, is_some}
use Rattle.ini_interp.specs.Merges.{Files}
use Rattle.ini_interp.specs.Paths.{contents_of}
use Rattle.ini_interp.specs.Sections.{value_of}
use Rattle.ini_interp.proofs.TableLemmas.{is_there, added, with_file-old}
use Rattle.ini_interp.proofs.file_table.FileTable.add.Goals as goal

pub returns-in_ok-insert : goal.returns-in_ok-insert
returns-in_ok-insert c =
    let asked =
    c.contains_key.ensures ∙ is_there c.as_str-path.result.now c.self.inside.contents.entries
    ∙ ap (λ (files : Files). is_some (value_of c.as_str-path.result.now files)) c.self.view_is
    ∙ ap (λ (path : List ℕ). is_some (value_of path c.args.self.now)) c.as_str-path.ensures.value in
    added c.in_ok-from_str.field-0 c.as_slice-content.result c.self.inside.contents.entries c.insert.new.self.entries c.args.self.now c.args.file.now
    c.self.view_is (c.in_ok-from_str.ensures.ok ∙ c.as_str-path.ensures.value) c.as_slice-content.ensures (sym asked ∙ c.if-not-contains_key.true)
    c.in_ok-insert.ensures.entries

pub returns-else-not-contains_key : goal.returns-else-not-contains_key
returns-else-not-contains_key c =
    let asked =
    c.contains_key.ensures ∙ is_there c.as_str-path.result.now c.self.inside.contents.entries
    ∙ ap (λ (files : Files). is_some (value_of c.as_str-path.result.now files)) c.self.view_is
    ∙ ap (λ (path : List ℕ). is_some (value_of path c.args.self.now)) c.as_str-path.ensures.value in
    sym (with_file-old c.args.self.now c.args.file.now (sym asked ∙ c.if-not-contains_key.false))
