use Rattle.std.proofs.Common.{◌≡◌, ◌+◌, length, ◌∙◌, ap, sym, rules}
use Rattle.std.specs.Str.{chars}
use Rattle.std.proofs.lemmas.List.{length-map}
use Rattle.std.proofs.lemmas.Str.{chars_from_encodes}
use Rattle.f2b_model.specs.Escapes.{safe_character}
use Rattle.jail_moves.proofs.matches.cost_of.Goals as goal

pub returns : goal.returns
returns c =
    let counted : c.count.result ≡ length (chars c.args.line.now) = search (rules, chars_from_encodes) in
    ap (λ n. n + 3) (counted ∙ sym (length-map (chars c.args.line.now) safe_character))
