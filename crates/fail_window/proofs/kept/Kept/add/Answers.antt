use Rattle.std.specs.List.{list_any}
use Rattle.f2b_model.specs.Full.{is_recent}
use Rattle.std.proofs.Common.{◌≡◌, false, sym, ◌∙◌}
use Rattle.fail_window.specs.Kept.{failures_of}
use Rattle.fail_window.proofs.AddLemmas.{added_alone}
use Rattle.fail_window.proofs.kept.Kept.add.Goals as goal

pub returns-then-not-has_recent-clause-ok : goal.returns-then-not-has_recent-clause-ok
returns-then-not-has_recent-clause-ok c =
    let none : list_any (is_recent c.args.now c.args.findtime) (failures_of c.args.self.now) ≡ false = sym c.has_recent.ensures ∙ c.if-not-has_recent.true in
    added_alone c.args.findtime c.args.maxretry c.args.now (failures_of c.args.self.now) c.args.failure c.requires.tidy c.requires.own c.requires.not_later c.requires.recent
    c.requires.forward none
