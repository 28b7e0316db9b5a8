use Rattle.std.proofs.Common.{Some, ap, ◌∙◌}
use Rattle.turn_clients.proofs.HearLemmas.{hear_brought}
use Rattle.turn_clients.proofs.hear.hear.Goals as goal

pub returns-in_ok-running-in-Some-Replies-clause-ok : goal.returns-in_ok-running-in-Some-Replies-clause-ok
returns-in_ok-running-in-Some-Replies-clause-ok g c =
    hear_brought c.args.place c.args.answer c.args.running c.in_ok-running.running c.in_ok-running.response c.in_ok-running.ensures.heard c.in-Some-Replies.given
    (c.in-Some-Replies.is ∙ ap Some c.in-Some-Replies.field-0-is) _ _ c.in_ok-running-in-Some-Replies.running c.in_ok-running-in-Some-Replies.ensures.ok
