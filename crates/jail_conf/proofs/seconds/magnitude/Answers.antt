use Rattle.std.proofs.Common.{◌∙◌}
use Rattle.jail_conf.specs.Times.{pieces, sum_of}
use Rattle.jail_conf.proofs.SecondLemmas.{kept_too_long, kept_short, kept_none}
use Rattle.jail_conf.proofs.seconds.magnitude.Goals as goal

pub returns-in_err-seconds : goal.returns-in_err-seconds
returns-in_err-seconds c = c.from_residual.ensures ∙ kept_none (sum_of (pieces c.args.text.now)) c.in_err-seconds.ensures

pub returns-then-seconds-gt-MOST_SECONDS : goal.returns-then-seconds-gt-MOST_SECONDS
returns-then-seconds-gt-MOST_SECONDS c = kept_too_long (sum_of (pieces c.args.text.now)) c.in_ok-seconds.seconds c.in_ok-seconds.ensures c.if-seconds-gt-MOST_SECONDS.true

pub returns : goal.returns
returns c = kept_short (sum_of (pieces c.args.text.now)) c.in_ok-seconds.seconds c.in_ok-seconds.ensures c.if-seconds-gt-MOST_SECONDS.false
