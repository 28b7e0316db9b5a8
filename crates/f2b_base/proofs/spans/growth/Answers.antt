use Rattle.std.proofs.Common.{◌≤◌, ◌^◌, ◌*◌, ◌%◌, ℕ, arith}
use Rattle.std.proofs.Math.Pow.{pow_mono}
use Rattle.f2b_base.proofs.spans.growth.Goals as goal

shifted : (k : ℕ) → k ≤ 20 → 1 * 2 ^ k % 18446744073709551616 ≤ 1048576
shifted k le = let h : 2 ^ k ≤ 2 ^ 20 = pow_mono le in omega (arith, h)

pub returns-in-empty-clause-small : goal.returns-in-empty-clause-small
returns-in-empty-clause-small c = shifted c.min.result (omega (arith, c.min.ensures))
