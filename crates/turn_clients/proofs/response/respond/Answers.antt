use Rattle.std.proofs.Common.{List, ℕ, Option, Some, None, Result, Ok, sym, ap, subst, ◌∙◌}
use Rattle.client_frames.specs.Comes.{told}
use Rattle.client_frames.specs.declared.error.FrameError.{FrameError}
use Rattle.turn_clients.specs.Responding.{RespondsTo}
use Rattle.turn_clients.proofs.ResponseLemmas.{heard_part, heard_request}
use Rattle.turn_clients.proofs.response.respond.Goals as goal

pub returns-in-Ok-None-clause-is : goal.returns-in-Ok-None-clause-is
returns-in-Ok-None-clause-is c =
    let P : Result (Option (List (List ℕ))) FrameError → Type 0 = λ h. RespondsTo c.args.clocked.now (told h) None in
    subst P (sym (c.in-Ok-None.is ∙ ap Ok c.in-Ok-None.field-0-is)) (heard_part c.args.clocked.now)

pub returns-in_ok-to_words-in-Ok-Some-clause-is : goal.returns-in_ok-to_words-in-Ok-Some-clause-is
returns-in_ok-to_words-in-Ok-Some-clause-is c =
    let given = c.in_ok-to_words-in-Ok-Some.field-0 in
    let P : Result (Option (List (List ℕ))) FrameError → Type 0 = λ h. RespondsTo c.args.clocked.now (told h) (Some given) in
    subst P (sym (c.in-Ok-Some.is ∙ ap Ok c.in-Ok-Some.field-0-is)) (heard_request c.args.clocked.now c.in-Ok-Some.words given c.in_ok-to_words-in-Ok-Some.ensures.is)
