use Rattle.std.proofs.Common.{arith, ◌∙◌, ap}
use Rattle.std.specs.List.{filter}
use Rattle.f2b_model.specs.Full.{is_recent}
use Rattle.fail_window.proofs.AddLemmas.{recent_order, added}
use Rattle.fail_window.proofs.runs.add_to.Goals as goal

pub place_of-place-requires : goal.place_of-place-requires
place_of-place-requires c =
    recent_order c.args.now c.args.findtime c.args.kept.now.items _ c.requires.tidy.in_order
    (c.drop_old.ensures.kept ∙ ap (λ fs. filter (is_recent c.args.now c.args.findtime) fs) c.reserve.ensures.items)

pub returns-clause-ok : goal.returns-clause-ok
returns-clause-ok c =
    added c.args.findtime c.args.maxretry c.args.now c.place_of-place.result c.args.kept.now.items c.drop_old.new.kept.items c.insert.new.self.items c.args.failure c.requires.tidy
    c.requires.own c.requires.not_later c.requires.recent
    (c.drop_old.ensures.kept ∙ ap (λ fs. filter (is_recent c.args.now c.args.findtime) fs) c.reserve.ensures.items) c.place_of-place.ensures.place c.in_ok-insert.ensures.items
    c.has_run_with.result c.requires.forward (omega arith) c.has_run_with.ensures.found c.has_run_with.ensures.none
