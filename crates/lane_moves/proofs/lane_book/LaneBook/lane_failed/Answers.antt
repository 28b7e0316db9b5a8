-- The lane's jobs are voided, and it starts anew where no Stop of it is pending.
use Rattle.std.proofs.Common.{◌≡◌, ◌∙◌, sym, ap, true, false, Some, List}
use Rattle.f2b_base.specs.declared.job.Job.{Job}
use Rattle.f2b_model.specs.Checks.{checked_lane, is_closing}
use Rattle.f2b_model.specs.Lanes.{Lanes, books_now, lane_failed}
use Rattle.f2b_model.specs.Active.{held_of}
use Rattle.lane_moves.proofs.CheckLemmas.{closing_left, open_left}
use Rattle.lane_moves.proofs.lane_book.LaneBook.lane_failed.Goals as goal

pub returns-then-closing-clause-lanes : goal.returns-then-closing-clause-lanes
returns-then-closing-clause-lanes c =
    let held = held_of c.args.held.now in
    let old : Lanes (List Job) = record { up = c.self.inside.up; stopping = c.self.inside.stopping; jobs = c.self.inside.book.jobs; next_job = c.self.inside.book.next } in
    let same : old ≡ c.args.self.now = c.self.view_is in
    let checked : checked_lane c.args.job old.jobs ≡ Some c.args.lane.now = ap (λ (l : Lanes (List Job)). checked_lane c.args.job l.jobs) same ∙ c.requires in
    let closing : is_closing c.args.lane.now old.jobs ≡ true = sym c.is_closing-closing.ensures ∙ c.if-closing.true in
    closing_left c.args.at c.args.job held c.args.lane.now old c.void.new.self checked closing (c.void.ensures c.args.at)
    ∙ ap (lane_failed books_now c.args.at held c.args.lane.now) same

pub returns-clause-lanes : goal.returns-clause-lanes
returns-clause-lanes c =
    let held = held_of c.args.held.now in
    let old : Lanes (List Job) = record { up = c.self.inside.up; stopping = c.self.inside.stopping; jobs = c.self.inside.book.jobs; next_job = c.self.inside.book.next } in
    let same : old ≡ c.args.self.now = c.self.view_is in
    let checked : checked_lane c.args.job old.jobs ≡ Some c.args.lane.now = ap (λ (l : Lanes (List Job)). checked_lane c.args.job l.jobs) same ∙ c.requires in
    let still : is_closing c.args.lane.now old.jobs ≡ false = sym c.is_closing-closing.ensures ∙ c.if-closing.false in
    open_left c.args.at c.args.job held c.args.lane.now old c.void.new.self c.restart.new.self checked still (c.void.ensures c.args.at) c.in_ok-restart.ensures
    ∙ ap (lane_failed books_now c.args.at held c.args.lane.now) same
