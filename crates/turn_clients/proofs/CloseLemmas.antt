-- A client that is over leaves.
use Rattle.std.proofs.Common.{ℕ, ◌≡◌, ◌+◌, ◌-◌, ◌<◌, Bool, true, false, cond, List, length, refl, sym, ap, ap₂, ◌∙◌, subst, arith}
use Rattle.std.specs.Prelude.{remove}
use Rattle.std.proofs.lemmas.List.Edits.{length-remove}
use Rattle.client_table.specs.Clients.{Client, conn_at, is_over_at}
use Rattle.f2b_world.specs.Told.{Called, Standing}
use Rattle.f2b_world.specs.declared.event.Event.TheVariants.{GateClose}
use Rattle.run_law.specs.Law.{Goes}
use Rattle.run_law.specs.Points.{Point, AtTurn, AtClose, Run}
use Rattle.run_law.specs.Server.{Server}
use Rattle.run_law.specs.Serving.{closes, serves, with_clients}
use Rattle.run_law.specs.Stages.{IsAt, Moves}
use Rattle.run_law.specs.Turn.{behind_client, to_clients}
use Rattle.run_law.proofs.PointLemmas.{goes_trans, turn_goes}
use Rattle.run_law.proofs.StageLemmas.{moves_as, moves_none}
use Rattle.run_steps.specs.Keeping.{KeepsRunning}
use Rattle.run_steps.specs.declared.running.Running.{Running}
use Rattle.turn_clients.specs.Serving.{HasClients, at_close}
use Rattle.turn_clients.proofs.ServingLemmas.{clients_as, clients_left, clients_placed, keeps_clients, reaches_alone}

module _ (a b : Standing) (place : ℕ) (before after : Running) (call : Called a (GateClose (conn_at place before.clients)) b) (gone : HasClients (remove before.clients place) before after) where
  close_goes : (r : Run) (s : Server) → IsAt r (at_close place s) → KeepsRunning s before → Goes a.told b.told r (serves (closes place s) s r)
  close_goes r s at keeps = turn_goes a b (GateClose (conn_at place before.clients)) r (AtClose place) s call at (ap (conn_at place) keeps.clients) refl

  pub close_moves : Moves KeepsRunning a b (at_close place) (to_clients place) before after
  close_moves = record {
    runs = λ r s at keeps.
        let cs = remove s.clients place in
        let has : HasClients cs before after = clients_as before after (remove before.clients place) cs (ap (λ (ds : List Client). remove ds place) keeps.clients) gone in
        let last = reaches_alone b (to_clients place) (with_clients cs s) r (at_close place s) after at (keeps_clients before after s cs keeps has) in
        record { to = last.to; server = last.server; goes = goes_trans a.told b.told b.told r (serves (closes place s) s r) last.to (close_goes r s at keeps) last.goes; at = last.at; keeps = last.keeps };
  }

pub gone_fewer : (place : ℕ) (before after : Running) → place < length before.clients → HasClients (remove before.clients place) before after → length after.clients + 1 ≡ length before.clients
gone_fewer place before after within gone =
    let one : length after.clients ≡ length (remove before.clients place) = ap (λ (cs : List Client). length cs) gone.clients in
    omega (arith, one, length-remove before.clients place within)

pub ruleset closing = (close_moves, gone_fewer, clients_left, clients_placed)

-- ---- behind a call on a client

abbrev behind_if : ℕ → Server → Bool → Point
behind_if place s over = cond over (at_close place s) (to_clients (place + 1) s)

module _ (kept : Running) (place : ℕ) (over : Bool) (is : over ≡ is_over_at kept.clocked.now place kept.clients) where
  over_as : (s : Server) → KeepsRunning s kept → is_over_at s.now place s.clients ≡ over
  over_as s keeps = ap₂ (λ (n : ℕ) (cs : List Client). is_over_at n place cs) (sym keeps.clocked.now) (sym keeps.clients) ∙ sym is

  behind_is : (s : Server) → KeepsRunning s kept → behind_client place s ≡ behind_if place s over
  behind_is s keeps = ap (behind_if place s) (over_as s keeps)

  pub over_moves : over ≡ true → (a b : Standing) (after : Running) → Moves KeepsRunning a b (at_close place) (to_clients place) kept after → Moves KeepsRunning a b (behind_client place) (to_clients place) kept after
  over_moves is_so a b after moves =
      moves_as KeepsRunning a b (behind_client place) (at_close place) (to_clients place) (to_clients place) kept after (λ s keeps. behind_is s keeps ∙ ap (behind_if place s) is_so) (λ s keeps. refl) moves

  pub on_moves : over ≡ false → (a : Standing) → Moves KeepsRunning a a (behind_client place) (to_clients (place + 1)) kept kept
  on_moves is_not a =
      moves_as KeepsRunning a a (behind_client place) (to_clients (place + 1)) (to_clients (place + 1)) (to_clients (place + 1)) kept kept (λ s keeps. behind_is s keeps ∙ ap (behind_if place s) is_not) (λ s keeps. refl)
      (moves_none KeepsRunning a (to_clients (place + 1)) kept)

pub nearer_gone : (before after : Running) (place : ℕ) → place < length before.clients → length after.clients + 1 ≡ length before.clients → length after.clients - place < length before.clients - place
nearer_gone before after place within one = omega (arith, within, one)

pub nearer_on : (before : Running) (place : ℕ) → place < length before.clients → length before.clients - (place + 1) < length before.clients - place
nearer_on before place within = omega (arith, within)

pub ruleset behind = (over_moves, on_moves, nearer_gone, nearer_on)
