use Rattle.std.proofs.Common.{◌≡◌, ◌∙◌, ◌++◌, ℕ, List, ap, sym}
use lib.Utf8.{encode}
use Rattle.std.proofs.lemmas.Str.{chars_past_char}
use Rattle.log_follow.proofs.glob.first.Goals as goal

pub returns-clause-some : goal.returns-clause-some
returns-clause-some c =
    let cut : c.args.text.now ≡ encode c.in_ok-first.first ++ c.as_str.result.now =
    sym c.chars-chars.ensures.rest ∙ c.in_ok-first.ensures.steps.0 ∙ ap (λ (rest : List ℕ). encode c.in_ok-first.first ++ rest) (sym c.as_str.ensures) in
    chars_past_char _ _ _ c.utf8.text cut
