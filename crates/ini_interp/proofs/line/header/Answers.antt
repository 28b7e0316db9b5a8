use Rattle.std.proofs.Common.{◌≡◌, ◌∷◌, None, Some, lit<}
use Rattle.std.proofs.lemmas.Str.Pattern.{strip_prefix_char, split_once_first}
use Rattle.ini_interp.proofs.LineLemmas.{opens_none, opens_no_end, opens_name}
use Rattle.ini_interp.proofs.line.header.Goals as goal

pub returns-in_err-rest : goal.returns-in_err-rest
returns-in_err-rest c =
    rw c.from_residual.ensures (opens_none c.args.text.now (strip_prefix_char 91 c.args.text.now None c.in_err-rest.ensures.cases (lit< tt)))

pub returns-in_err-section : goal.returns-in_err-section
returns-in_err-section c =
    let begins : c.args.text.now ≡ 91 ∷ c.in_ok-rest.rest.now = strip_prefix_char 91 c.args.text.now (Some c.in_ok-rest.rest) c.in_ok-rest.ensures.cases (lit< tt) in
    rw c.from_residual-in_err-section.ensures
    (opens_no_end c.args.text.now c.in_ok-rest.rest.now begins (split_once_first 93 c.in_ok-rest.rest.now None c.in_err-section.ensures.cases (lit< tt)))

pub returns : goal.returns
returns c =
    let begins : c.args.text.now ≡ 91 ∷ c.in_ok-rest.rest.now = strip_prefix_char 91 c.args.text.now (Some c.in_ok-rest.rest) c.in_ok-rest.ensures.cases (lit< tt) in
    let parts = split_once_first 93 c.in_ok-rest.rest.now (Some (c.in_ok-section.section, c.in_ok-section.field-0-1)) c.in_ok-section.ensures.cases (lit< tt) in
    opens_name c.args.text.now c.in_ok-rest.rest.now c.in_ok-section.section.now begins parts.0 parts.1
