use Rattle.std.proofs.Common.{ap, ◌∙◌, length}
use Rattle.std.proofs.lemmas.List.{length-map}
use Rattle.std.specs.Str.{chars}
use Rattle.f2b_model.specs.Escapes.{safe_character}
use Rattle.tag_subst.proofs.EscapeLemmas.{all_safe, encodes-safe, escaped-safe}
use Rattle.tag_subst.proofs.escapes.escape.Goals as goal

gives : goal.returns-clause-escaped
gives c = c.from.ensures ∙ c.in_ok-safe_text.ensures ∙ encodes-safe (chars c.args.text.now)

pub returns-clause-escaped : goal.returns-clause-escaped
returns-clause-escaped c = gives c

pub returns-clause-safe : goal.returns-clause-safe
returns-clause-safe c = rw (gives c) (all_safe (chars c.args.text.now))

pub returns-clause-as_many : goal.returns-clause-as_many
returns-clause-as_many c = ap length (gives c) ∙ length-map (chars c.args.text.now) safe_character

pub returns-clause-same : goal.returns-clause-same
returns-clause-same c = λ safe. gives c ∙ escaped-safe c.args.text.now safe
