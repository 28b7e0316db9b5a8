use Rattle.std.proofs.Common.{◌∙◌, ap}
use Rattle.ini_interp.specs.Lines.{is_blank}
use Rattle.jail_conf.specs.Times.{pieces, begins_with}
use Rattle.jail_conf.proofs.RunLemmas.{behind_blanks_same, cut_ends, cut_within}
use Rattle.jail_conf.proofs.times.behind_blanks.Goals as goal

pub split_at-requires : goal.split_at-requires
split_at-requires c = cut_within is_blank c.args.text.now c.blanks_len.result c.blanks_len.ensures

pub returns-clause-same : goal.returns-clause-same
returns-clause-same c = ap pieces c.split_at.ensures.back ∙ behind_blanks_same c.args.text.now c.blanks_len.result c.blanks_len.ensures

pub returns-clause-front : goal.returns-clause-front
returns-clause-front c = ap (begins_with is_blank) c.split_at.ensures.back ∙ cut_ends is_blank c.args.text.now c.blanks_len.result c.blanks_len.ensures
