use Rattle.std.proofs.Common.{◌≡◌, ◌≢◌, ◌∙◌, ap, sym, length, get_or, ◌<◌, arith, rules}
use Rattle.std.specs.Char.{to_ascii_lowercase}
use Rattle.std.specs.Str.{str_to_ascii_lowercase}
use Rattle.ini_interp.proofs.CaseLemmas.{lowercase_is, byte_lowercase, length-lowercase, same_bytes, other_bytes}
use Rattle.ini_interp.proofs.items.is_lowercase_of.Goals as goal

pub returns-then-text-name : goal.returns-then-text-name
returns-then-text-name c =
    other_bytes (str_to_ascii_lowercase c.args.name.now) c.args.text.now
    (λ same. let long = length-lowercase c.args.name.now in let equal = ap length same in absurd (omega arith))

pub returns-then-to_ascii_lowercase-text : goal.returns-then-to_ascii_lowercase-text
returns-then-to_ascii_lowercase-text c =
    let place = c.loop-place.place in
    let within : place < length c.args.name.now = omega arith in
    let lower : c.to_ascii_lowercase.result ≡ to_ascii_lowercase (get_or c.args.name.now place 0) = search rules in
    let differ : c.to_ascii_lowercase.result ≢ get_or c.args.text.now place 0 = rw c.as_bytes-text.ensures.value at c.if-to_ascii_lowercase-text.true in
    other_bytes (str_to_ascii_lowercase c.args.name.now) c.args.text.now
    (λ same. differ (lower ∙ sym (byte_lowercase c.args.name.now place within) ∙ ap (λ l. get_or l place 0) same))

pub returns : goal.returns
returns c =
    same_bytes _ _ (lowercase_is c.args.name.now c.args.text.now (omega arith)
    (λ k below. let within : k < c.loop-place.place = omega arith in
    rw (c.as_bytes-name.ensures.value, c.as_bytes-text.ensures.value) at (c.loop-place.invariant k within)))
