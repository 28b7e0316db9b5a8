-- The pause of a turn.
use Rattle.std.proofs.Common.{ℕ, zero, suc, ◌≡◌, ◌≤◌, ◌<◌, ◌-◌, ◌+◌, List, [], None, refl, sym, ap, ◌∙◌, subst, arith}
use Rattle.f2b_world.specs.Told.{Standing, Called}
use Rattle.f2b_world.specs.declared.event.Event.TheVariants.{Pause}
use Rattle.run_law.specs.Law.{Goes, call_of, next_call}
use Rattle.run_law.specs.Pause.{next_turn, paused, turned}
use Rattle.run_law.specs.Points.{Point, AtPause, Over, Run}
use Rattle.run_law.specs.Server.{Server}
use Rattle.run_law.specs.Stages.{IsAt, Moves, MoveFails}
use Rattle.run_law.specs.Turn.{at_pause}
use Rattle.run_law.specs.declared.status.Status.TheVariants.{TurnsSpent}
use Rattle.run_law.proofs.DiskLemmas.{written_call}
use Rattle.run_law.proofs.PointLemmas.{paid_call, turn_goes}
use Rattle.run_steps.specs.Keeping.{KeepsRunning}
use Rattle.run_steps.specs.declared.running.Running.{Running}
use Rattle.server_top.specs.Ticks.{at_clock}

-- with turns left the next one begins
next_is : (n : ℕ) (s : Server) → 1 ≤ n → turned n s ≡ at_clock (record s { left = n })
next_is zero s some = absurd (omega arith)
next_is (suc n) s some = refl

pause_goes : (a b : Standing) (r : Run) (s : Server) → Called a (Pause 250) b → IsAt r (at_pause s) → Goes a.told b.told r (paused s r)
pause_goes a b r s call at = turn_goes a b (Pause 250) r AtPause s call at refl refl

pub pause_moves : (a b : Standing) (before after : Running) → 1 < before.left → Called a (Pause 250) b → after.clocked ≡ before.clocked → after.logs ≡ before.logs → after.children ≡ before.children → after.clients ≡ before.clients → after.left + 1 ≡ before.left
    → Moves KeepsRunning a b at_pause at_clock before after
pause_moves a b before after some call clocked logs children clients left = record {
  runs = λ r s at keeps.
      let n : ℕ = s.left - 1 in
      let is : before.left ≡ s.left = keeps.left in
      let left_is : after.left ≡ n = omega (arith, left, is) in
      let kept : Running = record { clocked = before.clocked; logs = before.logs; children = before.children; clients = before.clients; left = n } in
      let same : kept ≡ after = λ i. record { clocked = sym clocked i; logs = sym logs i; children = sym children i; clients = sym clients i; left = sym left_is i } in
      let t : Server = record s { left = n } in
      let keeps_next : KeepsRunning t kept = record { clocked = record { core = keeps.clocked.core; sound = keeps.clocked.sound; journal = keeps.clocked.journal; now = keeps.clocked.now; word = keeps.clocked.word }; logs = keeps.logs; children = keeps.children; clients = keeps.clients; left = refl } in
      let P : Running → Type 0 = λ k. KeepsRunning t k in
      record {
        to = paused s r;
        server = t;
        goes = pause_goes a b r s call at;
        at = record { point = next_is n s (omega (arith, some, is)); still = record { written = at.still.written; paid = at.still.paid } };
        keeps = subst P same keeps_next;
      };
}

pub pause_ends : (a b : Standing) (before : Running) → before.left ≡ 1 → Called a (Pause 250) b → MoveFails KeepsRunning a b at_pause before TurnsSpent
pause_ends a b before last call = record {
  runs = λ r s at keeps.
      let none : s.left - 1 ≡ 0 = let is : before.left ≡ s.left = keeps.left in omega (arith, is, last) in
      let point : turned (s.left - 1) s ≡ Over TurnsSpent = ap (λ n. turned n s) none in
      let over : next_call (paused s r) ≡ None =
      written_call r.writes (call_of r.plan (next_turn s) r.owed) at.still.written ∙ ap (λ (ls : List (List ℕ)). call_of r.plan (next_turn s) ls) at.still.paid ∙ ap (λ (p : Point). call_of r.plan p []) point ∙ paid_call r.plan (Over TurnsSpent) in
      record { last = paused s r; goes = pause_goes a b r s call at; ends = record { point = point; none = over } };
}

pub ruleset pausing = (pause_moves, pause_ends)
