-- Each job's id is above those before it.
use Rattle.std.proofs.Common.{◌≡◌, ◌∙◌}
use Rattle.std.proofs.lemmas.List.{take_all}
use Rattle.f2b_model.proofs.ByIdLemmas.{by_id_below}
use Rattle.lane_moves.proofs.RisingLemmas.{below_before}
use Rattle.lane_moves.proofs.book.JobBook.of.Goals as goal

pub push-requires : goal.push-requires
push-requires c =
    rw (c.in_ok-copy.ensures, c.loop-job.invariant) (below_before 0 c.args.jobs.now c.args.next c.loop-job.job-index c.job-item.result c.requires.ids c.loop-job-test.true c.job-item.is)

pub invariant_of-result : goal.invariant_of-result
invariant_of-result c =
    let all : c.loop-job.lanes ≡ c.args.jobs.now = c.loop-job.invariant ∙ take_all c.loop-job.job-index c.args.jobs.now c.loop-job-test.false in
    record {
      below = rw all (by_id_below 0 c.args.jobs.now c.args.next c.requires.ids);
      few = c.requires.few;
    }
