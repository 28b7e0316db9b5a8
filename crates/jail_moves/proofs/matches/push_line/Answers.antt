use Rattle.std.proofs.Common.{◌≡◌, ◌++◌, length, ◌∙◌, ap, arith, length-append}
use Rattle.f2b_model.specs.Escapes.{escaped}
use Rattle.jail_moves.proofs.LineLemmas.{some_escaped}
use Rattle.jail_moves.proofs.matches.push_line.Goals as goal

pub returns-clause-longer : goal.returns-clause-longer
returns-clause-longer c = λ some.
    let characters = some_escaped c.args.line.now c.utf8.line some in
    let safe : length c.as_str.result.now ≡ length (escaped c.args.line.now) = ap length (c.as_str.ensures.value ∙ c.in_ok-safe.ensures.escaped) in
    let added : length c.push_str.new.self ≡ length (c.push_between.new.text ++ c.as_str.result.now) = ap length c.in_ok-push_str.ensures.ok in
    let sum = length-append c.push_between.new.text c.as_str.result.now in
    omega arith
