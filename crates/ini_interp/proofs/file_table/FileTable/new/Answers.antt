use Rattle.std.proofs.Common.{◌≡◌, ◌≤◌, ap, length, arith}
use Rattle.ini_interp.specs.Merges.{files_of}
use Rattle.ini_interp.proofs.TableLemmas.{all_added}
use Rattle.ini_interp.proofs.file_table.FileTable.new.Goals as goal

pub returns : goal.returns
unfolding files_of
returns c =
    let past : length c.args.tree.now.files ≤ c.loop-file.file-index = omega (arith, ap length c.as_slice-file-items.ensures) in
    all_added c.loop-file.files c.args.tree.now.files c.loop-file.file-index c.loop-file.invariant past
