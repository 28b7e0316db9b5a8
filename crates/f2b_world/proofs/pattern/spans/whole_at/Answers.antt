use Rattle.std.proofs.Common.{◌≡◌, ap, ◌∙◌}
use Rattle.std.proofs.lemmas.Option.{same_Some}
use Rattle.regex.specs.Search.{group_span}
use Rattle.regex.specs.Strings.{match_span}
use Rattle.f2b_world.specs.Matches.{cut}
use Rattle.f2b_world.proofs.pattern.spans.whole_at.Goals as goal

pub returns-clause-value : goal.returns-clause-value
unfolding group_span
returns-clause-value c =
    let whole : match_span c.get_match.result ≡ match_span c.args.captures.now.whole = same_Some _ _ c.get_match.ensures.found in
    c.cut_of.ensures.value ∙ ap cut whole
