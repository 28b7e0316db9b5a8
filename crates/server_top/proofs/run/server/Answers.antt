use Rattle.std.proofs.Common.{◌∙◌, ap, sym, is_some, true≢false}
use Rattle.server_top.proofs.run.server.Goals as goal

pub returns-in-Ok-clause-usage : goal.returns-in-Ok-clause-usage
returns-in-Ok-clause-usage g c = λ none. absurd (true≢false (sym c.in-Ok.ensures.planned ∙ ap is_some none))
