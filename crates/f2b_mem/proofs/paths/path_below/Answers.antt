use Rattle.std.proofs.Common.{◌≡◌, ◌∙◌, ◌++◌, ◌-◌, List, [], ◌∷◌, ℕ, length, take, ap, sym, lit<}
use Rattle.std.proofs.lemmas.Bool.{both_ways}
use Rattle.std.proofs.lemmas.Str.Pattern.{ends_char, strip_prefix_char}
use Rattle.f2b_mem.proofs.PathLemmas.{below_added, below_slash, none_below}
use Rattle.f2b_mem.proofs.paths.path_below.Goals as goal

pub returns-in_err-below : goal.returns-in_err-below
returns-in_err-below c = rw c.from_residual.ensures (none_below c.args.dir.now c.args.path.now c.in_err-below.ensures.cases)

pub returns-then-ends_with : goal.returns-then-ends_with
returns-then-ends_with c =
    let cut = c.in_ok-below.ensures.cases in
    let begins : c.args.path.now ≡ c.args.dir.now ++ c.in_ok-below.below.now = cut.1.1 ∙ ap (λ (xs : List ℕ). c.args.dir.now ++ xs) (sym cut.2) in
    let ends : c.args.dir.now ≡ take (length c.args.dir.now - 1) c.args.dir.now ++ 47 ∷ [] = (ends_char 47 c.args.dir.now c.ends_with.result c.ends_with.ensures.cases (lit< tt)).0 c.if-ends_with.true in
    below_slash c.args.dir.now c.args.path.now c.in_ok-below.below.now (take (length c.args.dir.now - 1) c.args.dir.now) ends begins

pub returns-else-ends_with : goal.returns-else-ends_with
returns-else-ends_with c =
    let cut = c.in_ok-below.ensures.cases in
    let begins : c.args.path.now ≡ c.args.dir.now ++ c.in_ok-below.below.now = cut.1.1 ∙ ap (λ (xs : List ℕ). c.args.dir.now ++ xs) (sym cut.2) in
    let ends = (ends_char 47 c.args.dir.now c.ends_with.result c.ends_with.ensures.cases (lit< tt)).1 in
    let strips = strip_prefix_char 47 c.in_ok-below.below.now c.strip_prefix-else-ends_with.result c.strip_prefix-else-ends_with.ensures.cases (lit< tt) in
    below_added c.args.dir.now c.args.path.now c.in_ok-below.below.now c.strip_prefix-else-ends_with.result (λ front e. both_ways c.ends_with.result c.if-ends_with.false (ends front e)) begins strips
