use Rattle.std.proofs.Common.{◌∙◌, ap}
use Rattle.std.specs.Char.{is_ascii_alphabetic}
use Rattle.std.specs.List.{list_all}
use Rattle.jail_conf.specs.Times.{begins_with}
use Rattle.jail_conf.proofs.RunLemmas.{cut_all, cut_ends, cut_within}
use Rattle.jail_conf.proofs.times.cut_letters.Goals as goal

pub split_at-requires : goal.split_at-requires
split_at-requires c = cut_within is_ascii_alphabetic c.args.text.now c.letters_len.result c.letters_len.ensures

pub returns-clause-letters : goal.returns-clause-letters
returns-clause-letters c = ap (list_all is_ascii_alphabetic) c.split_at.ensures.front ∙ cut_all is_ascii_alphabetic c.args.text.now c.letters_len.result c.letters_len.ensures

pub returns-clause-ends : goal.returns-clause-ends
returns-clause-ends c = ap (begins_with is_ascii_alphabetic) c.split_at.ensures.back ∙ cut_ends is_ascii_alphabetic c.args.text.now c.letters_len.result c.letters_len.ensures
