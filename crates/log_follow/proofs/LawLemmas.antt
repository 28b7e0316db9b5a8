-- Lists of looks: what they bring, and where they leave a watch.
use Rattle.std.proofs.Common.{ℕ, ◌≡◌, min, Bool, true, false, List, [], ◌∷◌, ◌++◌, map, refl, sym, ap, ◌∙◌, arith, append_assoc, append-nil}
use Rattle.std.proofs.lemmas.List.{length-take}
use Rattle.std.proofs.lemmas.List.Elements.{All-nil}
use Rattle.f2b_base.specs.declared.jail.Place.{Place}
use Rattle.f2b_base.specs.declared.jail.Place.TheVariants.{Tail, Pos}
use Rattle.f2b_base.specs.declared.outside.FileLook.{FileLook}
use Rattle.log_follow.specs.Laws.{after_looks, steps_of, lines_in, lines_since, bytes_in, AllGoOn}
use Rattle.log_follow.specs.Lines.{rest_of, line_of, lines_of, new_lines}
use Rattle.log_follow.specs.Watches.{Watch, IsPlace, Answers, position_in, head_in, place_by, place_in, ask_in, goes_on, sees, step_of, looked, looked_by, looked_on}
use Rattle.log_follow.specs.declared.line.Line.{Line}
use Rattle.log_follow.specs.declared.step.Step.{Step}
use Rattle.log_follow.proofs.FollowLemmas.{new_lines-rest}
use Rattle.log_follow.proofs.PieceLemmas.{is_end, rest_open, parts-open}
use Rattle.log_follow.proofs.Theorems.{lines_grow, cut_anywhere}
use Rattle.log_follow.proofs.WatchLemmas.{looked-same, length-head_in, position_and_carry}

-- The lines since a generation began.

lines_of-none : lines_of [] ≡ []
lines_of-none = ap (map line_of) (parts-open [] (All-nil (λ byte. is_end byte ≡ false)))

since_step : (before lines : List Line) (steps : List Step) → lines_since before (step_of lines ∷ steps) ≡ lines_since (before ++ lines) steps
since_step before [] steps = ap (λ (b : List Line). lines_since b steps) (sym (append-nil before))
since_step before (line ∷ lines) steps = refl

-- one look, whichever it is
since_on : (same : Bool) (w : Watch) (look : FileLook) (steps : List Step)
    → lines_since (lines_of w.seen) ((looked_on same w look).1 ∷ steps) ≡ lines_since (lines_of (looked_on same w look).0.seen) steps
since_on true w look steps =
    since_step (lines_of w.seen) (new_lines w.seen look.bytes) steps
    ∙ ap (λ (b : List Line). lines_since b steps) (sym (lines_grow w.seen look.bytes))
since_on false w look steps = ap (λ (b : List Line). lines_since b steps) (sym lines_of-none)

since_by : (base : Place) (w : Watch) (look : FileLook) (steps : List Step)
    → lines_since (lines_of w.seen) ((looked_by base w look).1 ∷ steps) ≡ lines_since (lines_of (looked_by base w look).0.seen) steps
since_by Tail w look steps = ap (λ (b : List Line). lines_since b steps) (sym lines_of-none)
since_by (Pos position head) w look steps = since_on (goes_on w look) w look steps

pub whole_lines : (w : Watch) (looks : List FileLook) → lines_since (lines_of w.seen) (steps_of w looks) ≡ lines_of (after_looks w looks).seen
whole_lines w [] = refl
whole_lines w (look ∷ looks) = since_by w.base w look (steps_of (looked w look).0 looks) ∙ whole_lines (looked w look).0 looks

-- The lines of looks at one generation.

new_lines-nil : (seen : List ℕ) → new_lines seen [] ≡ []
new_lines-nil seen = new_lines-rest seen [] ∙ ap lines_of (append-nil (rest_of seen)) ∙ ap (map line_of) (parts-open (rest_of seen) (rest_open seen))

lines_in-step : (lines : List Line) (steps : List Step) → lines_in (step_of lines ∷ steps) ≡ lines ++ lines_in steps
lines_in-step [] steps = refl
lines_in-step (line ∷ lines) steps = refl

pub lines_once : (w : Watch) (looks : List FileLook) → AllGoOn w looks → lines_in (steps_of w looks) ≡ new_lines w.seen (bytes_in looks)
lines_once w [] all = sym (new_lines-nil w.seen)
lines_once w (look ∷ looks) all =
    let next = (looked w look).0 in
    let same = looked-same w look all.0 all.1 in
    ap (λ (p : Watch × Step). lines_in (p.1 ∷ steps_of next looks)) same
    ∙ lines_in-step (new_lines w.seen look.bytes) (steps_of next looks)
    ∙ ap (λ (lines : List Line). new_lines w.seen look.bytes ++ lines) (lines_once next looks all.2)
    ∙ ap (λ (p : Watch × Step). new_lines w.seen look.bytes ++ new_lines p.0.seen (bytes_in looks)) same
    ∙ sym (cut_anywhere w.seen look.bytes (bytes_in looks))

after_same : (w : Watch) (looks : List FileLook) → AllGoOn w looks → after_looks w looks ≡ sees (bytes_in looks) w
after_same w [] all = ap (λ (seen : List ℕ). record { base = w.base; seen = seen }) (sym (append-nil w.seen))
after_same w (look ∷ looks) all =
    let next = (looked w look).0 in
    let same = looked-same w look all.0 all.1 in
    after_same next looks all.2
    ∙ ap (λ (p : Watch × Step). sees (bytes_in looks) p.0) same
    ∙ ap (λ (seen : List ℕ). record { base = w.base; seen = seen }) (append_assoc w.seen look.bytes (bytes_in looks))

pub any_cut : (w : Watch) (one other : List FileLook) → AllGoOn w one → AllGoOn w other → bytes_in one ≡ bytes_in other
    → (lines_in (steps_of w one) ≡ lines_in (steps_of w other)) × (after_looks w one ≡ after_looks w other)
any_cut w one other first second same = (
  lines_once w one first ∙ ap (new_lines w.seen) same ∙ sym (lines_once w other second),
  after_same w one first ∙ ap (λ (bytes : List ℕ). sees bytes w) same ∙ sym (after_same w other second),
)

-- Places.

base_on : (same : Bool) (w : Watch) (look : FileLook) → IsPlace w.base → IsPlace (looked_on same w look).0.base
base_on true w look is = is
base_on false w look is = refl

base_by : (base : Place) (w : Watch) (look : FileLook) → IsPlace w.base → Answers (ask_in w) look → IsPlace (looked_by base w look).0.base
base_by Tail w look is answers = answers.head
base_by (Pos position head) w look is answers = base_on (goes_on w look) w look is

pub base_stays : (w : Watch) (look : FileLook) → IsPlace w.base → Answers (ask_in w) look → IsPlace (looked w look).0.base
base_stays w look is answers = base_by w.base w look is answers

kept_by : (base : Place) (w : Watch) → IsPlace w.base → IsPlace (place_by base w)
kept_by Tail w is = tt
kept_by (Pos position head) w is =
    omega (arith, length-take (min 64 (position_in w)) (head_in w), length-head_in w is, position_and_carry w)

pub place_kept : (w : Watch) → IsPlace w.base → IsPlace (place_in w)
place_kept w is = kept_by w.base w is
