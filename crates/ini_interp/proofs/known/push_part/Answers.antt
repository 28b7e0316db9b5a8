use Rattle.std.proofs.Common.{◌≡◌, ◌++◌, ◌∙◌, List, ℕ, ap, sym}
use Rattle.std.specs.List.{flat_map}
use Rattle.std.proofs.lemmas.Result.{on_ok_weaker}
use Rattle.ini_interp.specs.Known.{known_text}
use Rattle.ini_interp.specs.declared.parts.Part.{Part}
use Rattle.ini_interp.specs.Parts.{pieces_of}
use Rattle.ini_interp.proofs.KnownLemmas.{known_bytes}
use Rattle.ini_interp.proofs.known.push_part.Goals as goal

pub returns-in-Plain : goal.returns-in-Plain
returns-in-Plain c =
    on_ok_weaker c.push_str.result
    (λ (added : c.push_str.new.self ≡ c.args.text.now ++ c.in-Plain.plain.now) (at : ℕ).
    added ∙ ap (λ (l : List ℕ). c.args.text.now ++ l)
    (sym (ap (λ (part : Part). flat_map (known_text c.args.before.now c.args.section.now) (pieces_of at part)) c.in-Plain.is
    ∙ known_bytes c.args.before.now c.args.section.now c.in-Plain.plain.now)))
    c.push_str.ensures.ok
