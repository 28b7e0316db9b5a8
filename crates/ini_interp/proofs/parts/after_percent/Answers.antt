use Rattle.std.proofs.Common.{◌≡◌, List, ℕ, None, Some, lit<, refl}
use Rattle.std.proofs.lemmas.Str.Pattern.{strip_prefix_char}
use Rattle.ini_interp.proofs.PartsLemmas.{sign_cut, lone_cut, open_cut, percent_piece-other}
use Rattle.ini_interp.proofs.parts.after_percent.Goals as goal

pub returns-in-Some : goal.returns-in-Some
returns-in-Some c = sign_cut c.args.text.now _ (strip_prefix_char 37 c.args.text.now (Some c.in-Some.rest) c.in-Some.ensures.cases (lit< tt)) refl

pub returns-in-Some-strip_prefix : goal.returns-in-Some-strip_prefix
returns-in-Some-strip_prefix c =
    rw c.unwrap_or.ensures
    (open_cut c.args.text.now c.in-Some-strip_prefix.behind.now _ c.named.result
    (strip_prefix_char 40 c.args.text.now (Some c.in-Some-strip_prefix.behind) c.in-Some-strip_prefix.ensures.cases (lit< tt)) refl refl
    c.named.ensures.some c.named.ensures.none)

pub returns-in-None : goal.returns-in-None
returns-in-None c =
    lone_cut c.args.text.now _
    (λ at. percent_piece-other at c.args.text.now (strip_prefix_char 37 c.args.text.now None c.in_default.ensures.cases (lit< tt))
    (strip_prefix_char 40 c.args.text.now None c.in-None.ensures.cases (lit< tt)))
    refl refl
