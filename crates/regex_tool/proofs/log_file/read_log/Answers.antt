use Rattle.std.proofs.Common.{◌≡◌, ◌+◌, ◌∙◌, ap, sym, length, arith}
use Rattle.std.proofs.lemmas.Bool.{eqb-true}
use Rattle.regex_tool.proofs.FileLemmas.{opened_none, opened_then, opened_by_piece, answered, piece_failed, reads_none, reads_more, reads_end, reads_gone, reads_absent}
use Rattle.regex_tool.proofs.log_file.read_log.Goals as goal

pub loop-piece-init : goal.loop-piece-init
loop-piece-init g c = record { opened = opened_none _; reads = reads_none _ _ _ }

pub returns-in-Bytes-clause-opened : goal.returns-in-Bytes-clause-opened
returns-in-Bytes-clause-opened g c = opened_then _ _ _ c.loop-piece.invariant.opened (opened_by_piece _ _ c.piece.result _ c.piece.ensures.file)

pub returns-in_err-feed-in-Bytes-2-clause-opened : goal.returns-in_err-feed-in-Bytes-2-clause-opened
returns-in_err-feed-in-Bytes-2-clause-opened g c = opened_then _ _ _ c.loop-piece.invariant.opened (opened_by_piece _ _ c.piece.result _ c.piece.ensures.file)

pub returns-in_err-at-in-Bytes-2-clause-opened : goal.returns-in_err-at-in-Bytes-2-clause-opened
returns-in_err-at-in-Bytes-2-clause-opened g c = opened_then _ _ _ c.loop-piece.invariant.opened (opened_by_piece _ _ c.piece.result _ c.piece.ensures.file)

pub returns-in-Absent-clause-opened : goal.returns-in-Absent-clause-opened
returns-in-Absent-clause-opened g c = opened_then _ _ _ c.loop-piece.invariant.opened (opened_by_piece _ _ c.piece.result _ c.piece.ensures.file)

pub returns-in-Absent-2-clause-opened : goal.returns-in-Absent-2-clause-opened
returns-in-Absent-2-clause-opened g c = opened_then _ _ _ c.loop-piece.invariant.opened (opened_by_piece _ _ c.piece.result _ c.piece.ensures.file)

pub returns-in-Failed-clause-opened : goal.returns-in-Failed-clause-opened
returns-in-Failed-clause-opened g c = opened_then _ _ _ c.loop-piece.invariant.opened (opened_by_piece _ _ c.piece.result _ c.piece.ensures.file)

pub returns-in-NoMemory-clause-opened : goal.returns-in-NoMemory-clause-opened
returns-in-NoMemory-clause-opened g c = opened_then _ _ _ c.loop-piece.invariant.opened (opened_by_piece _ _ c.piece.result _ c.piece.ensures.file)

pub returns-in-Failed-clause-cause : goal.returns-in-Failed-clause-cause
returns-in-Failed-clause-cause g c = piece_failed _ _ _ c.piece.result _ c.in-Failed.is c.loop-piece.invariant.opened c.piece.ensures.file

pub returns-clause-opened : goal.returns-clause-opened
returns-clause-opened g c = c.loop-piece.invariant.opened

pub returns-in-Bytes-clause-read : goal.returns-in-Bytes-clause-read
returns-in-Bytes-clause-read g c =
    let none : length c.in-Bytes.bytes ≡ 0 = eqb-true (length c.in-Bytes.bytes) 0 (sym c.is_empty.ensures ∙ c.if-is_empty.true) in
    reads_end _ _ c.in-Bytes.bytes _ _ c.loop-piece.at 65536 (omega arith) none c.loop-piece.invariant.reads
    (answered _ _ _ c.piece.result _ c.args.path.now c.loop-piece.at 65536 c.in-Bytes.is c.loop-piece.invariant.opened c.piece.ensures.file)

pub returns-in-Absent-clause-read : goal.returns-in-Absent-clause-read
returns-in-Absent-clause-read g c =
    reads_gone _ _ _ _ c.loop-piece.at 65536 c.if-at-gt0.true c.loop-piece.invariant.reads
    (answered _ _ _ c.piece.result _ c.args.path.now c.loop-piece.at 65536 c.in-Absent.is c.loop-piece.invariant.opened c.piece.ensures.file)

pub returns-in-Absent-2-clause-read : goal.returns-in-Absent-2-clause-read
returns-in-Absent-2-clause-read g c =
    reads_absent _ _ _ _ c.loop-piece.at 65536 c.if-at-gt0.false c.loop-piece.invariant.reads
    (answered _ _ _ c.piece.result _ c.args.path.now c.loop-piece.at 65536 c.in-Absent-2.is c.loop-piece.invariant.opened c.piece.ensures.file)

pub loop-piece-preserved : goal.loop-piece-preserved
loop-piece-preserved g c = record {
  opened = opened_then _ _ _ c.loop-piece.invariant.opened (opened_by_piece _ _ c.piece.result _ c.piece.ensures.file);
  reads = reads_more _ _ _ _ _ c.loop-piece.at 65536 _ c.in-Bytes.bytes c.as_slice.result.now c.loop-piece.invariant.reads
      (answered _ _ _ c.piece.result _ c.args.path.now c.loop-piece.at 65536 c.in-Bytes.is c.loop-piece.invariant.opened c.piece.ensures.file)
      c.in_ok-feed-in-Bytes-2.ensures c.as_slice.ensures (c.in_ok-at-in-Bytes-2.ensures ∙ ap (λ n. c.loop-piece.at + n) c.len.ensures);
}
