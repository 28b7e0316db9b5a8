-- What becomes of an input: it is written and taken, or the run ends.
use Rattle.std.specs.Prelude.{ℕ, ◌≡◌, List, Some}
use Rattle.f2b_base.specs.declared.input.What.{What}
use Rattle.f2b_model.specs.Whole.{step_now, told_now}
use Rattle.f2b_model.specs.declared.told.Told.{Told}
use Rattle.f2b_world.specs.Told.{Standing}
use Rattle.run_law.specs.Law.{Halts}
use Rattle.run_law.specs.News.{brings}
use Rattle.run_law.specs.Points.{Point, Run}
use Rattle.run_law.specs.Server.{Server}
use Rattle.run_law.specs.Stages.{IsAt}
use Rattle.run_law.specs.declared.status.Status.{Status}
use Rattle.slot_writes.specs.Entries.{Written}
use Rattle.slot_writes.specs.Writes.{Write, Performs}
use Rattle.run_steps.specs.Keeping.{IsTimedAlike, KeepsClocked, entry_at, input_of, news_of}
use Rattle.run_steps.specs.declared.clocked.Clocked.{Clocked}

-- the step of an input, and what it tells
pub record StepsTo (before : Clocked) (what : What) (after : Clocked) (told : Told) : Type 0 where
  pub core : after.engine.core ≡ step_now before.engine.core (input_of before what)
  pub tells : told ≡ told_now before.engine.core (input_of before what)
  pub time : IsTimedAlike before after

-- the input was written by the calls that write it, and its step was made
pub record Writes (old new : Standing) (before : Clocked) (what : What) (after : Clocked) (told : Told) : Type 0 where
  pub calls : List Write
  pub entry : entry_at before what ≡ Written after.engine.journal calls
  pub performs : Performs calls old.told new.told
  pub steps : StepsTo before what after told

-- The run ends, behind any event that brings such news: the input was not written, or not all of it.
pub record WriteFails (old new : Standing) (before : Clocked) (what : What) (status : Status) : Type 0 where
  pub runs : (pre post : List (List ℕ)) (r : Run) (at next : Server → Point) (s : Server) → IsAt r (at s) → KeepsClocked s before
      → Halts old.told new.told (brings (news_of pre (Some what) post s) next s r) status
