use Rattle.f2b_world.specs.Told.{Standing}
use Rattle.regex_tool.specs.Readings.{IsOpened}
use Rattle.regex_tool.proofs.FileLemmas.{Reads}
use Rattle.regex_tool.proofs.log_file.read_log.Given as goal

abbrev pub invariant-loop-piece : goal.invariant-loop-piece
invariant-loop-piece g l =
    let old = g.F.Outside.stands l.initial.files in
    record {
      opened : IsOpened old (g.F.Outside.stands l.files);
      reads : Reads old.shelf l.path l.initial.test l.at l.test;
    }
