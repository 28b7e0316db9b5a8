-- What is written to a client stands behind all inputs so far.
use Rattle.std.proofs.Common.{ℕ, ◌≡◌, inl, inr, List, None, take, subst}
use Rattle.f2b_base.specs.declared.view.View.{View}
use Rattle.f2b_world.specs.Told.{History}
use Rattle.f2b_world.specs.declared.answer.GateWrite.{GateWrite}
use Rattle.f2b_world.specs.declared.event.Event.{Event}
use Rattle.f2b_world.specs.declared.event.Event.TheVariants.{GateWrite as WriteTo}
use Rattle.run_law.specs.Law.{MayCome, begin}
use Rattle.run_law.specs.Points.{Point, Run}
use Rattle.run_law.specs.Served.{KeepsInputs, Obeys, run_after}
use Rattle.run_law.specs.Stops.{BeginsOn, ComesInOrder, IsOverAt, held_in}
use Rattle.run_law.specs.declared.status.Status.TheVariants.{NoMemory}
use Rattle.run_law.proofs.SaidLemmas.{may_at}
use Rattle.run_law.proofs.StopLemmas.{keeps_inputs}
use Rattle.run_replies.specs.Replied.{RepliesBehindInputs}
use Rattle.run_replies.proofs.CallLemmas.{writes_at}

written_behind : (r : Run) (conn : ℕ) (bytes : List ℕ) (answer : GateWrite) → MayCome r (WriteTo conn bytes answer) → ComesInOrder r (WriteTo conn bytes answer) → r.unclosed ≡ None
written_behind r conn bytes answer may (inl closed) = closed
written_behind r conn bytes answer may (inr (inl writes)) = absurd writes
written_behind r conn bytes answer may (inr (inr over)) = absurd (subst (λ (p : Point). IsOverAt p) (writes_at r conn bytes answer may).at over)

-- a run that begins on a view keeps its inputs, however it ends
pub replies_behind_inputs : (words : List (List ℕ)) (v : View) (g : History) (es : List Event) → BeginsOn v g → Obeys (begin words (held_in g)) g es
    → RepliesBehindInputs words (held_in g) es
replies_behind_inputs words v g es begins along = record {
  each = λ k conn bytes answer is.
      let event : Event = WriteTo conn bytes answer in
      let keeps : KeepsInputs words NoMemory v g es = keeps_inputs words NoMemory v g es begins along tt in
      written_behind (run_after words (held_in g) (take k es)) conn bytes answer (may_at (begin words (held_in g)) g es k event along is) (keeps.first k event is);
}
