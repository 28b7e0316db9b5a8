use Rattle.std.proofs.Common.{◌≡◌, ◌==◌, ◌<◌, ◌-◌, ◌∙◌, ap, length, get_or, take, drop, arith, rules, true}
use Rattle.regex_tool.specs.Targets.{file_len}
use Rattle.regex_tool.proofs.TargetLemmas.{file_place, file_boundary}
use Rattle.regex_tool.proofs.target.cut_file.Goals as goal
use Rattle.regex_tool.proofs.target.cut_file.Goals.{then-loop-start-test+else-bytes-start-ne47, else-loop-start-test}

pub range-requires-clause-end_boundary : goal.range-requires-clause-end_boundary
range-requires-clause-end_boundary c =
    let stop : 0 < c.loop-start.start → (get_or c.args.path.now (c.loop-start.start - 1) 0 == 47) ≡ true =
    λ some. elim c.loop-start-test.branch [ then-loop-start-test+else-bytes-start-ne47 w ↦ search rules | else-loop-start-test w ↦ absurd (omega arith) ] in
    file_boundary c.args.path.now c.loop-start.start c.utf8.path c.loop-start.invariant.within stop

pub range_from-requires : goal.range_from-requires
range_from-requires c =
    let stop : 0 < c.loop-start.start → (get_or c.args.path.now (c.loop-start.start - 1) 0 == 47) ≡ true =
    λ some. elim c.loop-start-test.branch [ then-loop-start-test+else-bytes-start-ne47 w ↦ search rules | else-loop-start-test w ↦ absurd (omega arith) ] in
    λ _. file_boundary c.args.path.now c.loop-start.start c.utf8.path c.loop-start.invariant.within stop

pub returns-clause-before : goal.returns-clause-before
returns-clause-before c =
    let stop : 0 < c.loop-start.start → (get_or c.args.path.now (c.loop-start.start - 1) 0 == 47) ≡ true =
    λ some. elim c.loop-start-test.branch [ then-loop-start-test+else-bytes-start-ne47 w ↦ search rules | else-loop-start-test w ↦ absurd (omega arith) ] in
    let place = file_place c.args.path.now c.loop-start.start c.loop-start.invariant.within c.loop-start.invariant.file stop in
    let long : c.loop-start.start - 0 ≡ length c.args.path.now - file_len c.args.path.now = omega (arith, place) in
    c.range.ensures.value ∙ ap (λ n. take n c.args.path.now) long

pub returns-clause-file : goal.returns-clause-file
returns-clause-file c =
    let stop : 0 < c.loop-start.start → (get_or c.args.path.now (c.loop-start.start - 1) 0 == 47) ≡ true =
    λ some. elim c.loop-start-test.branch [ then-loop-start-test+else-bytes-start-ne47 w ↦ search rules | else-loop-start-test w ↦ absurd (omega arith) ] in
    let place = file_place c.args.path.now c.loop-start.start c.loop-start.invariant.within c.loop-start.invariant.file stop in
    c.range_from.ensures.value ∙ ap (λ n. drop n c.args.path.now) place
