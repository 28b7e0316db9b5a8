use Rattle.std.proofs.Common.{◌≡◌, ◌∙◌, true, ap, rules, arith, ◌-◌, min, take}
use Rattle.log_follow.proofs.StandLemmas.{kept_place}
use Rattle.log_follow.proofs.follower.Follower.place.Goals as goal

pub returns-clause-value : goal.returns-clause-value
returns-clause-value c = λ w stands.
    let placed : c.args.self.now.placed ≡ true = search rules in
    let count : c.min-count.result ≡ min 64 (c.args.self.now.from - c.len.result) = omega arith in
    kept_place c.args.self.now w _ _ placed (ap (λ n. c.args.self.now.from - n) c.len.ensures)
    (c.in_ok-from_slice.ensures ∙ (λ i. take (count i) (c.as_slice.ensures i))) stands
