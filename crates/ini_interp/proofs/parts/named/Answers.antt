use Rattle.std.proofs.Common.{◌≡◌, ◌∷◌, List, ℕ, None, Some, lit<, ap, refl, ◌∙◌, ◌++◌}
use Rattle.std.proofs.lemmas.Str.Pattern.{split_once_first, split_parts, strip_prefix_char}
use Rattle.ini_interp.proofs.PartsLemmas.{if_none, unreferred_open, unreferred_other, referred_name}
use Rattle.ini_interp.proofs.parts.named.Goals as goal

pub returns-in_err-name-clause-none : goal.returns-in_err-name-clause-none
returns-in_err-name-clause-none c =
    if_none c.from_residual.result (unreferred_open c.args.text.now (split_once_first 41 c.args.text.now None c.in_err-name.ensures.cases (lit< tt)))

pub returns-in_err-rest-clause-none : goal.returns-in_err-rest-clause-none
returns-in_err-rest-clause-none c =
    let found = split_once_first 41 c.args.text.now (Some (c.in_ok-name.name, c.in_ok-name.behind)) c.in_ok-name.ensures.cases (lit< tt) in
    if_none c.from_residual-in_err-rest.result
    (unreferred_other c.args.text.now c.in_ok-name.behind.now found.2 (strip_prefix_char 115 c.in_ok-name.behind.now None c.in_err-rest.ensures.cases (lit< tt)))

pub returns-clause-some : goal.returns-clause-some
returns-clause-some c =
    let found = split_once_first 41 c.args.text.now (Some (c.in_ok-name.name, c.in_ok-name.behind)) c.in_ok-name.ensures.cases (lit< tt) in
    let parts = split_parts 41 c.args.text.now (Some (c.in_ok-name.name, c.in_ok-name.behind)) c.in_ok-name.ensures.cases (lit< tt) in
    let ends = strip_prefix_char 115 c.in_ok-name.behind.now (Some c.in_ok-rest.rest) c.in_ok-rest.ensures.cases (lit< tt) in
    record {
      name = c.in_ok-name.name.now;
      part = λ at. refl;
      text_is = parts.0 ∙ ap (λ (behind : List ℕ). c.in_ok-name.name.now ++ 41 ∷ behind) ends;
      referred_is = referred_name _ _ _ _ found.1 found.2 ends;
    }
