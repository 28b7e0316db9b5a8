-- A zone that is less than a day away from UTC.
use Rattle.std.proofs.Common.{ℤ, pos, neg_ℤ, int_lt, arith}
use Rattle.std.proofs.lemmas.Bool.{and_parts}
use Rattle.jiff_core.specs.Calendar.{IsWithin}
use Rattle.jiff_core.proofs.SignedLemmas.{signed_arith}
use Rattle.regex_tool.specs.Zones.{IsNear}

pub near_is_within : (z : ℤ) → IsNear z → IsWithin 86_399 z
near_is_within z near =
    let parts = and_parts (int_lt (neg_ℤ (pos 86_400)) z) (int_lt z (pos 86_400)) near in
    (omega (arith, signed_arith, parts.0), omega (arith, signed_arith, parts.1))
