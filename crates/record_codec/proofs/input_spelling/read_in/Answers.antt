use Rattle.std.proofs.Common.{◌∙◌, ap, sym, arith, ℕ, Ok, Err}
use Rattle.record_codec.specs.Fronts.{front_of}
use Rattle.record_codec.specs.Inputs.{input}
use Rattle.record_codec.proofs.FrontLemmas.{front_found, front_only}
use Rattle.record_codec.proofs.InputLemmas.{input_codec, input_word}
use Rattle.record_codec.proofs.input_spelling.read_in.Goals as goal

pub returns-in-Ok-clause-found : goal.returns-in-Ok-clause-found
returns-in-Ok-clause-found c =
    let p = front_found (input c.args.version) (input_codec c.args.version) c.args.bytes.now c.in-Ok.it c.in-Ok.rest.now (λ i. omega (arith, c.type_inv.bytes i)) c.in-Ok.ensures in
    let fits = (input_word c.args.version).are c.in-Ok.it p.0 in
    rw c.saturating_sub.ensures (fits.0, fits.1, p.1)

pub returns-in-Ok-clause-only : goal.returns-in-Ok-clause-only
returns-in-Ok-clause-only c = λ i rest stored whole e.
    sym (front_only (input c.args.version) (input_codec c.args.version) c.args.bytes.now i rest ((input_word c.args.version).fit i (stored, whole)) (omega arith) e)
    ∙ ap (front_of c.args.bytes.now) c.in-Ok.ensures ∙ ap (λ (n : ℕ). Ok (c.in-Ok.it, n)) (sym c.saturating_sub.ensures)

pub returns-in-Err-Left-clause-only : goal.returns-in-Err-Left-clause-only
returns-in-Err-Left-clause-only c = λ i rest stored whole e.
    sym (front_only (input c.args.version) (input_codec c.args.version) c.args.bytes.now i rest ((input_word c.args.version).fit i (stored, whole)) (omega arith) e)
    ∙ ap (front_of c.args.bytes.now) (rw c.in-Err-Left.field-0-is at c.in-Err-Left.ensures) ∙ ap (λ (n : ℕ). Err n) (sym c.saturating_sub-in-Err-Left.ensures)
