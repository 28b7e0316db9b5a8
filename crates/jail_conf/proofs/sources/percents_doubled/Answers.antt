use Rattle.std.proofs.Common.{◌≡◌, ◌++◌, codes, ap, ◌∙◌, rules}
use Rattle.jail_conf.proofs.SourceLemmas.{percents-more, percents-none}
use Rattle.jail_conf.proofs.sources.percents_doubled.Goals as goal

pub percents-preserved : goal.percents-preserved
percents-preserved c =
    let more : c.push_str-in-Some.new.self ≡ (c.percents.doubled ++ c.in-Some.part.now) ++ codes "%%" =
    c.in_ok-push_str-2.ensures.ok ∙ ap (λ all. all ++ codes "%%") c.in_ok-push_str.ensures.ok in
    let rest = percents-more c.percents.doubled c.push_str-in-Some.new.self c.args.text.now c.percents.left.now c.in-Some.part.now c.in-Some.rest.now c.in-Some.field-0-1
    c.percents.invariant.1 c.in-Some.ensures.whole c.in-Some.ensures.before c.in-Some.ensures.divider more in
    (search rules, rest)

pub returns : goal.returns
returns c =
    percents-none c.percents.doubled c.push_str-2.new.self c.args.text.now c.percents.left.now c.percents.invariant.1 c.in_default.ensures.none c.in_ok-push_str-3.ensures.ok
