use Rattle.std.proofs.Common.{map, option_map, string_bytes, sym, ap, ◌∙◌}
use Rattle.server_top.specs.Options.{asked_of}
use Rattle.server_top.proofs.OptionLemmas.{options_on, two_words}
use Rattle.server_top.proofs.words.+with_options.Goals as goal

pub returns-in-Some : goal.returns-in-Some
returns-in-Some t c =
    let words = two_words string_bytes c.args.words.now c.name-item.result c.text-item.result c.as_str.result.now c.as_str-in-len2-up.result.now c.in-len2-up.len_at_least c.name-item.is c.text-item.is
    c.as_str.ensures.value c.as_str-in-len2-up.ensures.value in
    options_on c.with_options.result (map string_bytes c.args.words.now) _ c.as_str.result.now c.as_str-in-len2-up.result.now (asked_of c.args.asked) c.in-Some.asked words
    (sym (ap (option_map asked_of) c.in-Some.is) ∙ c.in_ok-asked-in-len2-up.ensures) c.with_options.ensures
