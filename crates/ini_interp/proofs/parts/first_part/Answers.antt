use Rattle.std.proofs.Common.{◌≡◌, List, ℕ, None, Some, lit<, refl, ◌∙◌}
use Rattle.std.proofs.lemmas.Str.Pattern.{strip_prefix_char, find_char}
use Rattle.ini_interp.proofs.PartsLemmas.{percent_shorter, percent_first, plain_first, range_front}
use Rattle.ini_interp.proofs.parts.first_part.Goals as goal

pub returns-in-Some-clause-shorter : goal.returns-in-Some-clause-shorter
returns-in-Some-clause-shorter c =
    percent_shorter c.args.text.now c.in-Some.behind.now _ (strip_prefix_char 37 c.args.text.now (Some c.in-Some.behind) c.in-Some.ensures.cases (lit< tt)) c.after_percent.ensures

pub returns-in-Some-clause-first : goal.returns-in-Some-clause-first
returns-in-Some-clause-first c =
    percent_first c.args.text.now c.in-Some.behind.now _ (strip_prefix_char 37 c.args.text.now (Some c.in-Some.behind) c.in-Some.ensures.cases (lit< tt)) c.after_percent.ensures

pub returns-clause-first : goal.returns-clause-first
returns-clause-first c =
    plain_first c.args.text.now c.range.result.now c.range_from.result.now c.find.result c.unwrap_or-at.result
    (find_char 37 c.args.text.now c.find.result c.find.ensures.cases (lit< tt)) c.unwrap_or-at.ensures
    (c.range.ensures.value ∙ range_front c.args.text.now c.unwrap_or-at.result) c.range_from.ensures.value
