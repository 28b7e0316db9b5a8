use Rattle.std.proofs.Common.{◌≡◌, ◌<◌, get_or, true, arith, rules}
use Rattle.std.proofs.lemmas.Grind.{common_steps}
use Rattle.std.proofs.lemmas.Str.{IsCharBoundary-after_ascii}
use Rattle.jail_conf.specs.Words.{is_among_bytes}
use Rattle.jail_conf.proofs.PartLemmas.{ascii_among, none_in_front, none_at_all, whole_at}
use Rattle.jail_conf.proofs.words.split.Goals as goal

pub range-requires-clause-end_boundary : goal.range-requires-clause-end_boundary
range-requires-clause-end_boundary c =
    let here : is_among_bytes c.args.dividers.now (get_or c.args.text.now c.loop-place.place 0) ≡ true = search rules in
    let low : get_or c.args.text.now c.loop-place.place 0 < 128 = ascii_among c.args.dividers.now _ c.requires here in
    (omega arith, λ within high. absurd (omega arith))

pub range_from-requires : goal.range_from-requires
range_from-requires c =
    let here : is_among_bytes c.args.dividers.now (get_or c.args.text.now c.loop-place.place 0) ≡ true = search rules in
    λ _. IsCharBoundary-after_ascii c.args.text.now c.loop-place.place c.utf8.text (omega arith) (ascii_among c.args.dividers.now _ c.requires here)

pub returns-then-is_in-clause-whole : goal.returns-then-is_in-clause-whole
returns-then-is_in-clause-whole c =
    let whole = whole_at c.args.text.now c.loop-place.place (omega arith) in
    grind (arith, common_steps, whole)

pub returns-then-is_in-clause-before : goal.returns-then-is_in-clause-before
returns-then-is_in-clause-before c =
    let front = none_in_front (is_among_bytes c.args.dividers.now) c.args.text.now c.loop-place.place (omega arith) c.loop-place.invariant in
    grind (arith, common_steps, front)

pub returns-clause-none : goal.returns-clause-none
returns-clause-none c =
    none_at_all (is_among_bytes c.args.dividers.now) c.args.text.now (λ k within. c.loop-place.invariant k (omega arith))
