-- A turn, and all that are left.
use Rattle.std.proofs.Common.{ℕ, ◌≡◌, ◌≤◌, ◌<◌, ◌+◌, ◌==◌, ◌&&◌, not, Bool, true, false, cond, length, List, Option, Some, None, sym, ap, ap₂, ◌∙◌, subst, arith}
use Rattle.std.specs.Prelude.{IfSome}
use Rattle.client_table.specs.Clients.{Client, have_unwritten, most_clients}
use Rattle.f2b_model.specs.Whole.{Now}
use Rattle.f2b_world.specs.Told.{Standing}
use Rattle.run_law.specs.Points.{Over, Point}
use Rattle.run_law.specs.Reload.{at_reload}
use Rattle.run_law.specs.Server.{Server}
use Rattle.run_law.specs.Stages.{Moves, MoveFails}
use Rattle.run_law.specs.Turn.{at_pause, is_drained, to_end, to_starts}
use Rattle.run_law.specs.declared.status.Status.{Status}
use Rattle.run_law.specs.declared.status.Status.TheVariants.{Stopped, TurnsSpent}
use Rattle.run_law.proofs.PointLemmas.{next_at}
use Rattle.run_law.proofs.StageLemmas.{move_fails_on, moves_none, moves_trans}
use Rattle.run_steps.specs.Keeping.{KeepsRunning}
use Rattle.run_steps.specs.declared.running.Running.{Running}
use Rattle.server_top.specs.Drained.{has_drained}
use Rattle.server_top.specs.Ticks.{at_clock}
use Rattle.server_top.specs.Turns.{Asks, EndsTurn, GoesOn, IsNext, left_from, left_of}
use Rattle.turn_clients.specs.Serving.{IsAsking, IsFarther, served_to}

pub turn_none : (a : Standing) (from : Server → Point) (kept : Running) → Moves KeepsRunning a a from from kept kept
turn_none a from kept = moves_none KeepsRunning a from kept

pub turn_on : (a b c : Standing) (from mid to : Server → Point) (before between after : Running) → Moves KeepsRunning a b from mid before between → Moves KeepsRunning b c mid to between after
    → Moves KeepsRunning a c from to before after
turn_on a b c from mid to before between after p q = moves_trans KeepsRunning a b c from mid to before between after p q

pub turn_fails_on : (a b c : Standing) (from mid : Server → Point) (before between : Running) (status : Status) → Moves KeepsRunning a b from mid before between → MoveFails KeepsRunning b c mid between status
    → MoveFails KeepsRunning a c from before status
turn_fails_on a b c from mid before between status p q = move_fails_on KeepsRunning a b c from mid before between status p q

pub ruleset turning = (turn_none, turn_on, turn_fails_on)

-- ---- the end of a turn

abbrev drained_by : Now → List Client → Bool
drained_by n cs = n.lanes.stopping && (length n.lanes.jobs == 0 && not (have_unwritten cs))

-- what the code finds at the end of a turn is what the law does
drained_is : (s : Server) (kept : Running) → KeepsRunning s kept → is_drained s ≡ has_drained kept
drained_is s kept keeps = sym (ap₂ drained_by keeps.clocked.core keeps.clients)

-- behind a stop the run is over
over_is : (s : Server) → is_drained s ≡ true → to_end s ≡ Over Stopped
unfolding to_end
over_is s drained = ap (λ (b : Bool). cond b (Over Stopped) (at_pause s)) drained

pause_is : (s : Server) → is_drained s ≡ false → to_end s ≡ at_pause s
unfolding to_end
pause_is s runs = ap (λ (b : Bool). cond b (Over Stopped) (at_pause s)) runs

module _ (a b : Standing) (from : Server → Point) (before kept : Running) (moves : Moves KeepsRunning a b from to_end before kept) (drained : Bool) (told : drained ≡ has_drained kept) where
  pub turn_stops : drained ≡ true → MoveFails KeepsRunning a b from before Stopped
  turn_stops holds = record {
    runs = λ r s at keeps.
        let one = moves.runs r s at keeps in
        let point = one.at.point ∙ over_is one.server (drained_is one.server kept one.keeps ∙ sym told ∙ holds) in
        let none = next_at one.to (Over Stopped) (record { point = point; still = one.at.still }) in
        record { last = one.to; goes = one.goes; ends = record { point = point; none = none } };
  }

  pub turn_waits : drained ≡ false → Moves KeepsRunning a b from at_pause before kept
  turn_waits holds = record {
    runs = λ r s at keeps.
        let one = moves.runs r s at keeps in
        let point = one.at.point ∙ pause_is one.server (drained_is one.server kept one.keeps ∙ sym told ∙ holds) in
        record { to = one.to; server = one.server; goes = one.goes; at = record { point = point; still = one.at.still }; keeps = one.keeps };
  }

pub ruleset draining = (turn_stops, turn_waits)

-- ---- one turn behind the other

module _ (a b : Standing) (first before : Running) (moves : Moves KeepsRunning a b to_starts to_starts first before) (c : Standing) where
  -- all were made
  pub turns_all : (o : Option Running) → o ≡ None → EndsTurn b c before o → MoveFails KeepsRunning a c to_starts first TurnsSpent
  turns_all o is ends =
      let P : Option Running → Type 0 = λ x. EndsTurn b c before x in
      move_fails_on KeepsRunning a b c to_starts to_starts first before TurnsSpent moves (subst P is ends)

  module _ (o : Option Running) (next : Running) (is : o ≡ Some next) (ends : EndsTurn b c before o) where
    next_begins : Moves KeepsRunning a c to_starts at_clock first next
    next_begins =
        let P : Option Running → Type 0 = λ x. EndsTurn b c before x in
        moves_trans KeepsRunning a b c to_starts to_starts at_clock first before next moves (subst P is ends)

    pub turns_fail : (d : Standing) (status : Status) → MoveFails KeepsRunning c d at_clock next status → MoveFails KeepsRunning a d to_starts first status
    turns_fail d status fails = move_fails_on KeepsRunning a c d to_starts at_clock first next status next_begins fails

    module _ (d : Standing) (asked : Option ℕ) (after : Running) (serves : Moves KeepsRunning c d at_clock (served_to asked) next after) where
      served : Moves KeepsRunning a d to_starts (served_to asked) first after
      served = moves_trans KeepsRunning a c d to_starts at_clock (served_to asked) first next after next_begins serves

      -- no client asks for a reload
      pub turns_on : asked ≡ None → Moves KeepsRunning a d to_starts to_starts first after
      turns_on none = let P : Option ℕ → Type 0 = λ x. Moves KeepsRunning a d to_starts (served_to x) first after in subst P none served

      -- one does
      pub turns_asked : (place : ℕ) → asked ≡ Some place → Moves KeepsRunning a d to_starts (at_reload place) first after
      turns_asked place some = let P : Option ℕ → Type 0 = λ x. Moves KeepsRunning a d to_starts (served_to x) first after in subst P some served

-- ---- up to a client that asks for a reload

pub goes_on : (a b c : Standing) (from mid : Server → Point) (before between : Running) (o : Option (Running × ℕ)) → Moves KeepsRunning a b from mid before between → GoesOn b c mid between o → GoesOn a c from before o
goes_on a b c from mid before between None moves goes = move_fails_on KeepsRunning a b c from mid before between TurnsSpent moves goes
goes_on a b c from mid before between (Some r) moves goes = moves_trans KeepsRunning a b c from mid (at_reload r.1) before between r.0 moves goes

pub asks_there : (kept : Running) (o : Option ℕ) (place : ℕ) → o ≡ Some place → IfSome o (λ p. IsAsking p kept) → 1 ≤ kept.left → Asks kept place
asks_there kept o place is asking left = record { asking = (let P : Option ℕ → Type 0 = λ x. IfSome x (λ p. IsAsking p kept) in subst P is asking); left = left }

pub farther_asks : (before after : Running) (place : ℕ) (o : Option ℕ) → IsFarther before place after o → IfSome o (λ p. IsAsking p after)
farther_asks before after place None farther = tt
farther_asks before after place (Some next) farther = farther.0

-- a client of a later turn leaves less
pub left_later : (first kept : Running) (place : ℕ) → kept.left + 1 ≤ first.left → length kept.clients ≤ most_clients → left_of kept place ≤ left_from None first
left_later first kept place less few = omega (arith, less, few)

-- and so does one behind, or a later turn
pub left_behind : (before between : Running) (place : ℕ) (asked : Option ℕ) (o : Option (Running × ℕ)) → place < length before.clients → between.left ≡ before.left → IsFarther before place between asked
    → IfSome o (λ r. left_of r.0 r.1 ≤ left_from asked between) → IfSome o (λ r. left_of r.0 r.1 < left_of before place)
left_behind before between place asked None within same farther fewer = tt
left_behind before between place None (Some r) within same farther fewer = omega (arith, within, same, fewer)
left_behind before between place (Some next) (Some r) within same farther fewer = omega (arith, same, farther.1, fewer)

-- what is known of the next turn
pub next_is : (before : Running) (o : Option Running) (next : Running) → o ≡ Some next → IfSome o (IsNext before) → IsNext before next
next_is before o next is known = let P : Option Running → Type 0 = λ x. IfSome x (IsNext before) in subst P is known

pub ruleset going = (turns_all, turns_fail, turns_on, turns_asked, goes_on, asks_there, farther_asks, left_later, left_behind)
