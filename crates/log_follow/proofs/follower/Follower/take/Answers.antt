use Rattle.std.proofs.Common.{◌≡◌, true, ap, length, rules, arith}
use Rattle.log_follow.proofs.follower.Follower.take.Goals as goal

pub add-requires : goal.add-requires
add-requires c =
    let same : c.goes_on.result ≡ true = search rules in
    omega (arith, ap length c.as_slice.ensures, c.requires.within, c.goes_on.ensures.longer same, c.goes_on.ensures.fits)
