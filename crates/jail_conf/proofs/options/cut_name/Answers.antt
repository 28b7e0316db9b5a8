use Rattle.std.proofs.Common.{◌≡◌, ◌-◌, ◌∙◌, take, drop, ap, lit<, arith}
use Rattle.std.specs.List.{position_or_len}
use Rattle.std.proofs.lemmas.Str.Pattern.{find_char}
use Rattle.jail_conf.specs.Options.{opens}
use Rattle.jail_conf.proofs.OptionLemmas.{name_place}
use Rattle.jail_conf.proofs.options.cut_name.Goals as goal

pub returns-clause-name : goal.returns-clause-name
returns-clause-name c =
    let text = c.args.text.now in
    let place = name_place text c.find.result c.unwrap_or-place.result (find_char 91 text c.find.result c.find.ensures.cases (lit< tt)) c.unwrap_or-place.ensures in
    let long : c.unwrap_or-place.result - 0 ≡ position_or_len opens text = omega (arith, place) in
    c.range.ensures.value ∙ ap (λ n. take n text) long

pub returns-clause-groups : goal.returns-clause-groups
returns-clause-groups c =
    let text = c.args.text.now in
    c.range_from.ensures.value
    ∙ ap (λ n. drop n text) (name_place text c.find.result c.unwrap_or-place.result (find_char 91 text c.find.result c.find.ensures.cases (lit< tt)) c.unwrap_or-place.ensures)
