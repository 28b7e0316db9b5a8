-- A failure goes in, and the window out where the address is full.
use Rattle.std.proofs.Common.{◌≤◌, Some, List, sym, subst, arith}
use Rattle.f2b_base.specs.declared.ban.Failure.{Failure}
use Rattle.jail_moves.specs.Addresses.{Counts}
use Rattle.jail_moves.proofs.WindowAlone.{counted_alone}
use Rattle.jail_moves.proofs.WindowLosses.{counted_on, counted_out}
use Rattle.jail_moves.proofs.addresses.count.Goals as goal

pub returns-then-full-clause-ok : goal.returns-then-full-clause-ok
returns-then-full-clause-ok c =
    counted_out c.args.findtime c.args.maxretry c.args.now c.args.failure c.args.windows.now.entries c.enter.new.windows.entries c.take_out.new.windows.entries c.in_ok-full.full
    c.in_ok-near.near c.requires.held c.if-full.true c.in_ok-full.ensures.ok (c.take_out.ensures.loses c.args.maxretry c.in_ok-full.ensures.ok.windows)
    (c.in_ok-near.ensures.near c.args.maxretry c.in_ok-full.ensures.ok.windows)

pub returns-clause-ok : goal.returns-clause-ok
returns-clause-ok c =
    counted_on c.args.findtime c.args.maxretry c.args.now c.args.failure c.args.windows.now.entries c.enter.new.windows.entries c.in_ok-full.full c.requires.held c.if-full.false
    c.in_ok-full.ensures.ok

pub returns-then-full-clause-latest : goal.returns-then-full-clause-latest
returns-then-full-clause-latest c = λ time le a. c.take_out.ensures.latest time (c.enter.ensures.latest time le a)

pub returns-in_err-near-clause-err : goal.returns-in_err-near-clause-err
returns-in_err-near-clause-err c =
    let least = c.requires.held.most in
    let several : 2 ≤ c.args.maxretry = omega (arith, c.if-maxretry-eq1.false) in
    absurd (c.in_err-near.ensures.full c.args.maxretry several c.in_ok-full.ensures.ok.windows (c.in_ok-full.ensures.ok.tells.0 c.if-full.true))

pub returns-in_err-near-clause-latest : goal.returns-in_err-near-clause-latest
returns-in_err-near-clause-latest c = λ time le a. c.take_out.ensures.latest time (c.enter.ensures.latest time le a)

pub returns-then-maxretry-eq1-clause-ok : goal.returns-then-maxretry-eq1-clause-ok
returns-then-maxretry-eq1-clause-ok c =
    subst (λ (fs : List Failure). Counts c.args.findtime c.args.maxretry c.args.now c.args.failure c.args.windows.now.entries c.args.windows.now.entries (Some fs))
    (sym c.in_ok-alone.ensures)
    (counted_alone c.args.findtime c.args.maxretry c.args.now c.args.failure c.args.windows.now.entries c.requires.held c.if-maxretry-eq1.true c.requires.recent)
