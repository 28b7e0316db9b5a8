use Rattle.std.proofs.Common.{List, refl, subst, arith}
use Rattle.std.proofs.lemmas.Grind.{common_steps}
use Rattle.f2b_base.specs.declared.outside.TreeFile.{TreeFile}
use Rattle.f2b_world.specs.Trees.{IsTreeOf}
use Rattle.f2b_mem.specs.Files.{file_in}
use Rattle.f2b_mem.proofs.files.MemFilesFiles.tree.Goals as goal

pub returns-clause-file : goal.returns-clause-file
returns-clause-file c = record {
  told = refl;
  answer = (let P : List TreeFile → Type 0 = λ files. IsTreeOf c.args.dir.now c.in-Ok.answer (file_in files) in subst P c.as_slice-files.ensures c.in-Ok.ensures.file);
  leaves = record { talk = refl; shelf = refl };
  counts = grind (arith, common_steps);
}
