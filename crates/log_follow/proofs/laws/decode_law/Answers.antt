use Rattle.log_follow.proofs.DecodeLemmas.{decoded-none, decoded-char, decoded-other}
use Rattle.log_follow.proofs.laws.decode_law.Goals as goal

pub returns : goal.returns
returns c = record { none = decoded-none; kept = decoded-char; replaced = decoded-other }
