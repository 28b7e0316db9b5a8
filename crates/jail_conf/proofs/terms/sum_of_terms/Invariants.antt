use Rattle.std.proofs.Common.{◌≡◌, ◌<◌, ◌^◌, false, length}
use Rattle.ini_interp.specs.Lines.{is_blank}
use Rattle.jail_conf.specs.Times.{pieces, begins_with, saturated, plus, sum_of_terms}
use Rattle.jail_conf.proofs.terms.sum_of_terms.Given as goal

abbrev pub invariant-terms : goal.invariant-terms
invariant-terms l = record {
  sum : saturated (plus l.seconds (sum_of_terms (pieces l.left))) ≡ saturated (sum_of_terms (pieces l.fn.text));
  fits : l.seconds < 2 ^ 64;
  front : begins_with is_blank l.left ≡ false;
}

abbrev pub decreases-terms : goal.decreases-terms
decreases-terms l = length l.left
