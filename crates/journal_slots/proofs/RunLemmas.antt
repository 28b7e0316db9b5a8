-- Inputs, each behind its gate.
use Rattle.std.proofs.Common.{ℕ, zero, suc, ◌≡◌, ◌==◌, ◌+◌, ◌<◌, false, List, [], ◌∷◌, ◌++◌, length, Result, Ok, Err, length-append, refl, sym, ap, subst, ◌∙◌, append_assoc, append-nil, arith}
use Rattle.std.proofs.Math.Dec.{eqb-suc-zero}
use Rattle.f2b_base.specs.declared.input.Input.{Input}
use Rattle.record_codec.specs.declared.version.Version.{Version}
use Rattle.record_codec.specs.Inputs.{input}
use Rattle.record_codec.proofs.InputLemmas.{input_codec}
use Rattle.record_fields.specs.Codec.{◌>>=◌, IsHeld}
use Rattle.record_fields.proofs.CodecLemmas.{held_behind}
use Rattle.journal_slots.specs.Grammar.{inputs_at}
use Rattle.journal_slots.specs.Fronts.{IsRun}

pub not_closed : (gate : ℕ) → 0 < gate → (gate == 0) ≡ false
not_closed zero is_on = absurd (omega (arith, is_on))
not_closed (suc n) is_on = eqb-suc-zero n

-- what was read before, and what is read behind it
abbrev pub with_front : List Input → Result (List Input × List ℕ) ℕ → Result (List Input × List ℕ) ℕ
with_front front read = read >>= λ r. Ok (front ++ r.0, r.1)

with_none : (read : Result (List Input × List ℕ) ℕ) → with_front [] read ≡ read
with_none (Ok r) = refl
with_none (Err left) = refl

with_one : (i : Input) (front : List Input) (read : Result (List Input × List ℕ) ℕ) → (with_front front read >>= λ r. Ok (i ∷ r.0, r.1)) ≡ with_front (i ∷ front) read
with_one i front (Ok r) = refl
with_one i front (Err left) = refl

-- what an open gate lets through
pub one_more : (version : Version) (n gate : ℕ) (i : Input) (rest : List ℕ) → 0 < gate → (input version).Fits i → IsHeld ((input version).spell i ++ rest)
    → inputs_at version (suc n) (gate ∷ (input version).spell i ++ rest) ≡ (inputs_at version n rest >>= λ r. Ok (i ∷ r.0, r.1))
unfolding inputs_at
one_more version n gate i rest is_on fits held = rw (not_closed gate is_on, (input_codec version).again i rest fits held) refl

-- A run is read as its inputs, and then what follows it, with fuel left.
pub run_reads : (version : Version) (n : ℕ) (inputs : List Input) (run rest : List ℕ) → length run < n → IsRun version inputs run → IsHeld (run ++ rest)
    → (m : ℕ) × (inputs_at version n (run ++ rest) ≡ with_front inputs (inputs_at version (suc m) rest))
unfolding IsRun
run_reads version zero inputs run rest enough runs held = absurd (omega (arith, enough))
run_reads version (suc n) [] run rest enough runs held = (n, rw runs (sym (with_none (inputs_at version (suc n) rest))))
run_reads version (suc n) (i ∷ inputs) run rest enough runs held =
    let one = (input version).spell i in
    let long : length run ≡ suc (length one + length runs.1) = ap length runs.4 ∙ ap suc (length-append one runs.1) in
    let same : run ++ rest ≡ runs.0 ∷ one ++ (runs.1 ++ rest) = rw runs.4 (ap (λ (r : List ℕ). runs.0 ∷ r) (append_assoc one runs.1 rest)) in
    let tail_held : IsHeld (one ++ (runs.1 ++ rest)) = held_behind (runs.0 ∷ []) (one ++ (runs.1 ++ rest)) (subst IsHeld same held) in
    let more = run_reads version n inputs runs.1 rest (omega (arith, enough, long)) runs.5 (held_behind one (runs.1 ++ rest) tail_held) in (
      more.0,
      ap (inputs_at version (suc n)) same ∙ one_more version n runs.0 i (runs.1 ++ rest) runs.2 runs.3 tail_held
          ∙ ap (λ (r : Result (List Input × List ℕ) ℕ). r >>= λ r. Ok (i ∷ r.0, r.1)) more.1 ∙ with_one i inputs (inputs_at version (suc more.0) rest),
    )

-- a run, and one input more at its end
pub run_more : (version : Version) (inputs : List Input) (i : Input) (gate : ℕ) (run : List ℕ) → IsRun version inputs run → 0 < gate → (input version).Fits i
    → IsRun version (inputs ++ i ∷ []) (run ++ gate ∷ (input version).spell i)
unfolding IsRun
run_more version [] i gate run runs is_on fits = (gate, [], is_on, fits, (rw (runs, append-nil) refl), refl)
run_more version (j ∷ inputs) i gate run runs is_on fits = (
  runs.0,
  runs.1 ++ gate ∷ (input version).spell i,
  runs.2,
  runs.3,
  (rw runs.4 (ap (λ (r : List ℕ). runs.0 ∷ r) (append_assoc ((input version).spell j) runs.1 (gate ∷ (input version).spell i)))),
  run_more version inputs i gate runs.1 runs.5 is_on fits,
)

-- ---- what follows a run

pub closed_gate : (version : Version) (n : ℕ) (tail : List ℕ) → inputs_at version (suc n) (0 ∷ tail) ≡ Ok ([], 0 ∷ tail)
unfolding inputs_at
closed_gate version n tail = refl

pub no_gate : (version : Version) (n : ℕ) → inputs_at version (suc n) [] ≡ Err 0
unfolding inputs_at
no_gate version n = refl

pub bad_input : (version : Version) (n gate left : ℕ) (bytes : List ℕ) → 0 < gate → (input version).read bytes ≡ Err left → inputs_at version (suc n) (gate ∷ bytes) ≡ Err left
unfolding inputs_at
bad_input version n gate left bytes is_on bad = rw (not_closed gate is_on, bad) refl
