-- What a follower stands for, look by look.
use Rattle.std.proofs.Common.{ℕ, ◌≡◌, ◌+◌, ◌-◌, ◌≤◌, min, Bool, true, false, List, [], ◌++◌, length, take, sym, ap, subst, ◌∙◌, arith, append-nil, length-append}
use Rattle.std.proofs.lemmas.List.{take_all}
use Rattle.f2b_base.specs.declared.jail.Place.TheVariants.{Tail, Pos}
use Rattle.f2b_base.specs.declared.outside.FileLook.{FileLook}
use Rattle.log_follow.specs.Carried.{length_of, Carries}
use Rattle.log_follow.specs.Followed.{StandsFor}
use Rattle.log_follow.specs.Lines.{rest_of, new_lines}
use Rattle.log_follow.specs.Watches.{Watch, begun, position_in, head_in, place_in, goes_on, sees, step_of, looked}
use Rattle.log_follow.specs.declared.carry.Carry.TheVariants.{Kept}
use Rattle.log_follow.specs.declared.follower.Follower.{Follower}
use Rattle.log_follow.specs.declared.line.Line.{Line}
use Rattle.log_follow.specs.declared.step.Step.{Step}
use Rattle.log_follow.specs.declared.step.Step.TheVariants.{Placed, Rotated}
use Rattle.log_follow.proofs.CarryLemmas.{length_of-carry_of}
use Rattle.log_follow.proofs.FollowLemmas.{carry_of-none}
use Rattle.log_follow.proofs.WatchLemmas.{looked-tail, looked-other, looked-same, head_in-sees, place_in-placed, place_in-tail, position_and_carry}

-- a follower that begins at a position
pub stands_at : (f : Follower) (position : ℕ) (head : List ℕ) → f.placed ≡ true → f.from ≡ position → f.carry ≡ Kept [] → f.head ≡ head → length head ≤ 64 → StandsFor f (begun (Pos position head))
stands_at f position head placed from carry is short = record {
  placed = placed;
  from = omega (arith, from);
  carry = carry ∙ carry_of-none;
  head = is ∙ sym (ap (take 64) (append-nil head) ∙ take_all 64 head short);
}

-- or that has to find the log's end
pub stands_tail : (f : Follower) → f.placed ≡ false → f.from ≡ 0 → f.carry ≡ Kept [] → f.head ≡ [] → StandsFor f (begun Tail)
stands_tail f placed from carry is = record {
  placed = placed;
  from = from;
  carry = carry ∙ carry_of-none;
  head = is;
}

-- more bytes of the same log
pub stands_more : (old new : Follower) (w : Watch) (bytes : List ℕ) → StandsFor old w → new.placed ≡ old.placed → new.from ≡ old.from + length bytes
    → Carries new.carry (w.seen ++ bytes) → new.head ≡ take 64 (old.head ++ bytes) → StandsFor new (sees bytes w)
stands_more old new w bytes stands placed from carry head = record {
  placed = placed ∙ stands.placed;
  from = omega (arith, from, stands.from, length-append w.seen bytes);
  carry = carry;
  head = head ∙ ap (λ (h : List ℕ). take 64 (h ++ bytes)) stands.head ∙ head_in-sees w bytes;
}

-- The three cases of a look, by what the follower knows.

module _ (old : Follower) (look : FileLook) where
  pub placed_step : (step : Step) → old.placed ≡ false → step ≡ Placed → (w : Watch) → StandsFor old w → step ≡ (looked w look).1
  placed_step step not is w stands = is ∙ sym (ap (λ (p : Watch × Step). p.1) (looked-tail w look (sym stands.placed ∙ not)))

  pub placed_stands : (new : Follower) → old.placed ≡ false → StandsFor new (begun (Pos look.size look.head)) → (w : Watch) → StandsFor old w → StandsFor new (looked w look).0
  placed_stands new not at w stands =
      let P : Watch → Type 0 = λ v. StandsFor new v in subst P (sym (ap (λ (p : Watch × Step). p.0) (looked-tail w look (sym stands.placed ∙ not)))) at

  pub rotated_step : (step : Step) (same : Bool) → old.placed ≡ true → same ≡ false → ((w : Watch) → StandsFor old w → same ≡ goes_on w look) → step ≡ Rotated
      → (w : Watch) → StandsFor old w → step ≡ (looked w look).1
  rotated_step step same on_place other same_is is w stands = is ∙ sym (ap (λ (p : Watch × Step). p.1) (looked-other w look (sym stands.placed ∙ on_place) (sym (same_is w stands) ∙ other)))

  pub rotated_stands : (new : Follower) (same : Bool) → old.placed ≡ true → same ≡ false → ((w : Watch) → StandsFor old w → same ≡ goes_on w look) → StandsFor new (begun (Pos 0 []))
      → (w : Watch) → StandsFor old w → StandsFor new (looked w look).0
  rotated_stands new same on_place other same_is at w stands =
      let P : Watch → Type 0 = λ v. StandsFor new v in
      subst P (sym (ap (λ (p : Watch × Step). p.0) (looked-other w look (sym stands.placed ∙ on_place) (sym (same_is w stands) ∙ other)))) at

  pub more_step : (step : Step) (lines : List Line) (bytes : List ℕ) (same : Bool) → old.placed ≡ true → same ≡ true → ((w : Watch) → StandsFor old w → same ≡ goes_on w look)
      → bytes ≡ look.bytes → ((w : Watch) → StandsFor old w → lines ≡ new_lines w.seen bytes) → step ≡ step_of lines → (w : Watch) → StandsFor old w → step ≡ (looked w look).1
  more_step step lines bytes same on_place on same_is bytes_are lines_are is w stands =
      is
      ∙ ap step_of (lines_are w stands ∙ ap (new_lines w.seen) bytes_are)
      ∙ sym (ap (λ (p : Watch × Step). p.1) (looked-same w look (sym stands.placed ∙ on_place) (sym (same_is w stands) ∙ on)))

  pub more_stands : (new : Follower) (bytes : List ℕ) (same : Bool) → old.placed ≡ true → same ≡ true → ((w : Watch) → StandsFor old w → same ≡ goes_on w look)
      → bytes ≡ look.bytes → ((w : Watch) → StandsFor old w → StandsFor new (sees bytes w)) → (w : Watch) → StandsFor old w → StandsFor new (looked w look).0
  more_stands new bytes same on_place on same_is bytes_are seen w stands =
      let P : Watch → Type 0 = λ v. StandsFor new v in
      let Q : List ℕ → Type 0 = λ b. StandsFor new (sees b w) in
      subst P (sym (ap (λ (p : Watch × Step). p.0) (looked-same w look (sym stands.placed ∙ on_place) (sym (same_is w stands) ∙ on)))) (subst Q bytes_are (seen w stands))

-- The place that is kept.

pub kept_tail : (f : Follower) (w : Watch) → f.placed ≡ false → StandsFor f w → Tail ≡ place_in w
kept_tail f w not stands = sym (place_in-tail w (sym stands.placed ∙ not))

pub kept_position : (f : Follower) (w : Watch) (position : ℕ) → position ≡ f.from - length_of f.carry → StandsFor f w → position ≡ position_in w
kept_position f w position is stands =
    let carry : length_of f.carry ≡ length (rest_of w.seen) = ap length_of stands.carry ∙ length_of-carry_of (rest_of w.seen) in
    omega (arith, is, carry, stands.from, position_and_carry w)

pub kept_place : (f : Follower) (w : Watch) (position : ℕ) (head : List ℕ) → f.placed ≡ true → position ≡ f.from - length_of f.carry → head ≡ take (min 64 position) f.head
    → StandsFor f w → Pos position head ≡ place_in w
kept_place f w position head on_place position_is head_is stands =
    let at : position ≡ position_in w = kept_position f w position position_is stands in
    let first : head ≡ take (min 64 (position_in w)) (head_in w) = head_is ∙ ap (λ (h : List ℕ). take (min 64 position) h) stands.head ∙ ap (λ (n : ℕ). take (min 64 n) (head_in w)) at in
    (λ i. Pos (at i) (first i)) ∙ sym (place_in-placed w (sym stands.placed ∙ on_place))
