use Rattle.std.proofs.Common.{◌≡◌, ◌&&◌, ℕ, List, zero, suc, eq-eqb, ◌-◌, ◌<◌, length, get_or, ap₂, arith, rules, true, false, take}
use Rattle.std.proofs.lemmas.Grind.{common_steps}
use Rattle.ini_interp.specs.Lines.{is_blank, without_comment}
use Rattle.ini_interp.proofs.LineLemmas.{begins_comment, first_comment, no_comment}
use Rattle.ini_interp.proofs.line.without_comment.Goals as goal

-- the comment begins behind the blank before this place
found : (line : List ℕ) (place : ℕ) → 0 < place → place < length line → get_or line place 0 ≡ 59 → is_blank (get_or line (place - 1) 0) ≡ true →
    ((k : ℕ) → suc k < place → begins_comment line k ≡ false) → take place line ≡ without_comment line
found line zero some within here blank none = absurd (omega arith)
found line (suc before) some within here blank none =
    let same : suc before - 1 ≡ before = omega arith in
    first_comment line before within (ap₂ (λ a b. a && b) (rw same at blank) (eq-eqb _ 59 here)) (λ k below. none k (omega arith))

pub returns-then-is_blank : goal.returns-then-is_blank
returns-then-is_blank c =
    let place = c.loop-place.place in
    let cut = found c.args.line.now place (omega arith) (omega arith) (search rules) (search rules) c.loop-place.invariant in
    grind (arith, common_steps, cut)

pub returns : goal.returns
returns c = no_comment c.args.line.now (λ k within. c.loop-place.invariant k (omega arith))
