use Rattle.std.proofs.Common.{◌≡◌, true, refl, ◌∙◌, arith}
use Rattle.f2b_model.specs.Full.{is_of}
use Rattle.jail_rows.specs.declared.windows.TheConstants.{ADDR}
use Rattle.fail_window.proofs.FollowLemmas.{kept_own, kept_past, follows_one_more}
use Rattle.jail_rows.proofs.windows.fed.Goals as goal

pub add-requires-clause-forward : goal.add-requires-clause-forward
add-requires-clause-forward c = kept_past ADDR c.loop-index.last _ c.loop-index.window c.loop-index.invariant.follows (omega arith)

pub add-requires-clause-own : goal.add-requires-clause-own
add-requires-clause-own c = rw (c.in_ok-failure.ensures.addr) (kept_own ADDR c.loop-index.last c.loop-index.window c.loop-index.invariant.follows)

pub loop-index-preserved : goal.loop-index-preserved
loop-index-preserved c =
    let own : is_of ADDR c.in_ok-failure.field-0 ≡ true = rw (c.in_ok-failure.ensures.addr) refl in
    let time = c.in_ok-failure.ensures.time in
    record {
      follows = follows_one_more ADDR c.loop-index.last _ c.loop-index.window c.add.new.self c.in_ok-failure.field-0 c.loop-index.invariant.follows
          (omega arith) (omega arith) own c.in_ok-add.ensures.limits c.in_ok-add.ensures.stands;
      findtime = c.in_ok-add.ensures.limits.findtime ∙ c.loop-index.invariant.findtime;
    }
