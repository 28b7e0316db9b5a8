use Rattle.std.proofs.Common.{◌≡◌, ◌<◌, length, get_or, true, arith, rules}
use Rattle.std.specs.Char.{is_ascii_digit}
use Rattle.std.proofs.lemmas.Int.Digits.{digits_value_more}
use Rattle.std.proofs.lemmas.List.Folds.{list_all_more}
use Rattle.client_words.proofs.numbers.number.Goals as goal

pub loop-byte-preserved : goal.loop-byte-preserved
loop-byte-preserved c =
    let within : c.loop-byte.byte-index < length c.args.text.now = omega arith in
    let digit : is_ascii_digit (get_or c.args.text.now c.loop-byte.byte-index 0) ≡ true = search rules in
    record {
      value = omega (arith, digits_value_more 10 c.args.text.now c.loop-byte.byte-index within, c.loop-byte.invariant.value, c.with_digit-value.ensures);
      digits = rw (list_all_more is_ascii_digit c.args.text.now c.loop-byte.byte-index 0 within) (rw (c.loop-byte.invariant.digits, digit));
    }
