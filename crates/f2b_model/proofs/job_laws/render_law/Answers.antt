use Rattle.f2b_model.proofs.MatchLemmas.{matches_safe, matches_short}
use Rattle.f2b_model.proofs.RenderLemmas.{plain_stays, tag_filled, group_stays, other_stays}
use Rattle.f2b_model.proofs.Utf8Lemmas.{rendered_utf8}
use Rattle.f2b_model.proofs.job_laws.render_law.Goals as goal

pub returns : goal.returns
returns c = record {
  plain = plain_stays;
  tag = tag_filled;
  group = group_stays;
  other = other_stays;
  utf8 = rendered_utf8;
  short = matches_short;
  safe = matches_safe;
}
