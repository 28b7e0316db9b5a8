use Rattle.std.proofs.Common.{◌≡◌, ◌∙◌, ap, sym, replicate}
use Rattle.regex_tool.specs.Counts.{by_fail, by_ignore}
use Rattle.regex_tool.proofs.CountsLemmas.{decided_from-none}
use Rattle.regex_tool.proofs.counts.Counts.new.Goals as goal

pub returns : goal.returns
returns c =
    let fail = c.in_ok-new.ensures ∙ (ap (λ n. replicate n 0) c.len.ensures ∙ sym (decided_from-none by_fail 1 c.args.jail.now.fail)) in
    let ignore_lines = c.in_ok-new-2.ensures ∙ (ap (λ n. replicate n 0) c.len-2.ensures ∙ sym (decided_from-none by_ignore 1 c.args.jail.now.ignore_lines)) in
    λ i. record { lines = 0; ignored = 0; matched = 0; missed = 0; fail = fail i; ignore_lines = ignore_lines i }
