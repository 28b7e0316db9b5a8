-- One client, written to or read.
use Rattle.std.proofs.Common.{ℕ, ◌≡◌, ◌≢◌, ◌<◌, Bool, true, false, List, length, Option, Some, None, refl, sym, ap, ap₂, ◌∙◌, subst}
use Rattle.client_table.specs.Clients.{Asks, Client, Nothing, Reads, Writes, after_write, asks_at, changed_at, conn_at}
use Rattle.client_table.proofs.AskLemmas.{read_answered, write_answered}
use Rattle.client_table.proofs.PlaceLemmas.{length-changed_at}
use Rattle.f2b_world.specs.Told.{Asked, Called, IsReceived, IsTaken, Standing, receive_event}
use Rattle.f2b_world.specs.declared.answer.GateRead.{GateRead}
use Rattle.f2b_world.specs.declared.answer.GateRead.TheVariants as read
use Rattle.f2b_world.specs.declared.answer.GateWrite.{GateWrite}
use Rattle.f2b_world.specs.declared.event.Event.{Event}
use Rattle.f2b_world.specs.declared.event.Event.TheVariants.{GateRead as ReadFrom, GateWrite as WriteTo}
use Rattle.run_law.specs.Calls.{Call, IsNext}
use Rattle.run_law.specs.Law.{Goes}
use Rattle.run_law.specs.Points.{Point, AtTurn, AtClient, Run}
use Rattle.run_law.specs.Server.{Server}
use Rattle.run_law.specs.Serving.{asked_call, reads, serves, with_clients, writes}
use Rattle.run_law.specs.Stages.{IsAt, MoveFails, Moves}
use Rattle.run_law.specs.Turn.{behind_client, to_clients}
use Rattle.run_law.specs.declared.status.Status.{Status}
use Rattle.run_law.specs.declared.status.Status.TheVariants.{NoMemory}
use Rattle.run_law.proofs.CauseLemmas.{called_placed}
use Rattle.run_law.proofs.PointLemmas.{goes_trans, halts_after, turn_goes}
use Rattle.run_law.proofs.StageLemmas.{move_fails_here, moves_as, moves_trans}
use Rattle.run_steps.specs.Keeping.{IsPlacedIn, KeepsRunning}
use Rattle.run_steps.specs.declared.clocked.Clocked.{Clocked}
use Rattle.run_steps.specs.declared.running.Running.{Running}
use Rattle.turn_clients.specs.Serving.{HasClients, IsNearer, IsWrittenIf, ServeFails, Serves, at_close, behind_read, onward_from}
use Rattle.turn_clients.proofs.ServingLemmas.{client_there, clients_as, clients_left, clients_placed, keeps_clients, reaches_alone}

-- the call that a client asks for comes next
next_call : (kept : Running) (place : ℕ) (asks : Asks) → asks_at place kept.clients ≡ asks → (s : Server) → KeepsRunning s kept
    → asked_call (conn_at place kept.clients) asks ≡ asked_call (conn_at place s.clients) (asks_at place s.clients)
next_call kept place asks is s keeps = ap (asked_call (conn_at place kept.clients)) (sym is) ∙ ap (λ (cs : List Client). asked_call (conn_at place cs) (asks_at place cs)) keeps.clients

-- ---- a write

module _ (a b : Standing) (place : ℕ) (bytes : List ℕ) (answer : GateWrite) (before after : Running) (within : place < length before.clients) (asks : asks_at place before.clients ≡ Writes bytes)
    (call : Called a (WriteTo (conn_at place before.clients) bytes answer) b) (taken : IsTaken (length bytes) answer) (wrote : HasClients (changed_at place (after_write before.clocked.now answer) before.clients) before after) where
  pub write_moves : Moves KeepsRunning a b (to_clients place) (behind_client place) before after
  write_moves = record {
    runs = λ r s at keeps.
        let P : Option Call → Type 0 = λ c. IsNext c (WriteTo (conn_at place before.clients) bytes answer) in
        let here : IsAt r (AtTurn (AtClient place) s) = record { point = at.point ∙ client_there before place (Writes bytes) within asks s keeps; still = at.still } in
        let goes : Goes a.told b.told r (serves (writes answer place s) s r) =
        turn_goes a b (WriteTo (conn_at place before.clients) bytes answer) r (AtClient place) s call here (subst P (next_call before place (Writes bytes) asks s keeps) (refl, refl, taken)) refl in
        let cs = changed_at place (after_write s.now answer) s.clients in
        let has : HasClients cs before after =
        clients_as before after (changed_at place (after_write before.clocked.now answer) before.clients) cs
        (ap₂ (λ (n : ℕ) (ds : List Client). changed_at place (after_write n answer) ds) keeps.clocked.now keeps.clients) wrote in
        let last = reaches_alone b (behind_client place) (with_clients cs s) r (AtTurn (AtClient place) s) after here (keeps_clients before after s cs keeps has) in
        record { to = last.to; server = last.server; goes = goes_trans a.told b.told b.told r (serves (writes answer place s) s r) last.to goes last.goes; at = last.at; keeps = last.keeps };
  }

-- the same, under the number that the table tells
pub written_moves : (a b : Standing) (place conn : ℕ) (bytes : List ℕ) (answer : GateWrite) (before after : Running) → place < length before.clients → asks_at place before.clients ≡ Writes bytes
    → conn ≡ conn_at place before.clients → Called a (WriteTo conn bytes answer) b → IsTaken (length bytes) answer → HasClients (changed_at place (after_write before.clocked.now answer) before.clients) before after
    → Moves KeepsRunning a b (to_clients place) (behind_client place) before after
written_moves a b place conn bytes answer before after within asks number call taken wrote =
    let P : ℕ → Type 0 = λ n. Called a (WriteTo n bytes answer) b in
    write_moves a b place bytes answer before after within asks (subst P number call) taken wrote

pub wrote_many : (place : ℕ) (answer : GateWrite) (before after : Running) → HasClients (changed_at place (after_write before.clocked.now answer) before.clients) before after → length after.clients ≡ length before.clients
wrote_many place answer before after wrote = ap (λ (cs : List Client). length cs) wrote.clients ∙ length-changed_at place (after_write before.clocked.now answer) before.clients

-- ---- a read

-- what found memory is an event
event_is : (conn most : ℕ) (answer : GateRead) → answer ≢ read.NoMemory → receive_event conn most answer ≡ Some (ReadFrom conn most answer)
event_is conn most (read.Bytes bytes) found = refl
event_is conn most read.Quiet found = refl
event_is conn most read.End found = refl
event_is conn most read.Failed found = refl
event_is conn most read.NoMemory found = absurd (found refl)

-- and leaves the journal where it stands
pub read_placed : (a b : Standing) (conn most : ℕ) (answer : GateRead) (kept : Clocked) → answer ≢ read.NoMemory → Asked a (receive_event conn most answer) b → IsPlacedIn a.told kept → IsPlacedIn b.told kept
read_placed a b conn most answer kept found asked placed =
    let P : Option Event → Type 0 = λ o. Asked a o b in
    called_placed kept.engine.journal a b (ReadFrom conn most answer) (subst P (event_is conn most answer found) asked) placed

module _ (a b : Standing) (place most : ℕ) (answer : GateRead) (before : Running) (within : place < length before.clients) (asks : asks_at place before.clients ≡ Reads most)
    (asked : Asked a (receive_event (conn_at place before.clients) most answer) b) (received : IsReceived most answer) (found : answer ≢ read.NoMemory) where
  pub read_called : Called a (ReadFrom (conn_at place before.clients) most answer) b
  read_called = let P : Option Event → Type 0 = λ o. Asked a o b in subst P (event_is (conn_at place before.clients) most answer found) asked

  here_read : (r : Run) (s : Server) → IsAt r (to_clients place s) → KeepsRunning s before → IsAt r (AtTurn (AtClient place) s)
  here_read r s at keeps = record { point = at.point ∙ client_there before place (Reads most) within asks s keeps; still = at.still }

  read_goes : (r : Run) (s : Server) → IsAt r (AtTurn (AtClient place) s) → KeepsRunning s before → Goes a.told b.told r (serves (reads answer place s) s r)
  read_goes r s here keeps =
      let P : Option Call → Type 0 = λ c. IsNext c (ReadFrom (conn_at place before.clients) most answer) in
      turn_goes a b (ReadFrom (conn_at place before.clients) most answer) r (AtClient place) s read_called here (subst P (next_call before place (Reads most) asks s keeps) (refl, refl, received)) refl

  pub read_moves : (c : Standing) (next : Server → Point) (after : Running) → Serves b c (reads answer place) next before after → Moves KeepsRunning a c (to_clients place) next before after
  read_moves c next after served = record {
    runs = λ r s at keeps.
        let here = here_read r s at keeps in
        let last = served.runs r s (AtTurn (AtClient place) s) here keeps in
        record { to = last.to; server = last.server; goes = goes_trans a.told b.told c.told r (serves (reads answer place s) s r) last.to (read_goes r s here keeps) last.goes; at = last.at; keeps = last.keeps };
  }

  pub read_fails : (c : Standing) (status : Status) → ServeFails b c (reads answer place) before status → MoveFails KeepsRunning a c (to_clients place) before status
  read_fails c status fails = record {
    runs = λ r s at keeps.
        let here = here_read r s at keeps in
        halts_after a.told b.told c.told r (serves (reads answer place s) s r) status (read_goes r s here keeps) (fails.runs r s (AtTurn (AtClient place) s) here keeps);
  }

-- memory ran out, and there was no event
pub read_lost : (a b : Standing) (place conn most : ℕ) (answer : GateRead) (before : Running) → answer ≡ read.NoMemory → Asked a (receive_event conn most answer) b → MoveFails KeepsRunning a b (to_clients place) before NoMemory
read_lost a b place conn most answer before lost asked =
    let P : GateRead → Type 0 = λ x. Asked a (receive_event conn most x) b in
    let same : b ≡ a = subst P lost asked in
    let Q : Standing → Type 0 = λ c. MoveFails KeepsRunning a c (to_clients place) before NoMemory in
    subst Q (sym same) (move_fails_here KeepsRunning a (to_clients place) before)

pub ruleset reading = (read_moves, read_fails, read_lost)

-- ---- one client

-- one that asks nothing is over
pub serve_none : (a b : Standing) (place : ℕ) (before after : Running) → place < length before.clients → asks_at place before.clients ≡ Nothing
    → Moves KeepsRunning a b (at_close place) (to_clients place) before after → Moves KeepsRunning a b (to_clients place) (onward_from (Some place) place) before after
serve_none a b place before after within asks moves =
    moves_as KeepsRunning a b (to_clients place) (at_close place) (to_clients place) (to_clients place) before after (client_there before place Nothing within asks) (λ s keeps. refl) moves

-- behind a call it leaves where it is over
pub serve_behind : (a b c : Standing) (place next : ℕ) (before mid after : Running) → Moves KeepsRunning a b (to_clients place) (behind_client place) before mid
    → Moves KeepsRunning b c (behind_client place) (to_clients next) mid after → Moves KeepsRunning a c (to_clients place) (onward_from (Some next) place) before after
serve_behind a b c place next before mid after one two = moves_trans KeepsRunning a b c (to_clients place) (behind_client place) (to_clients next) before mid after one two

-- behind a read
module _ (a b : Standing) (place : ℕ) (before mid : Running) (again : Bool) (moves : Moves KeepsRunning a b (to_clients place) (behind_read again place) before mid) where
  pub read_again : again ≡ true → Moves KeepsRunning a b (to_clients place) (onward_from None place) before mid
  read_again is = let P : Bool → Type 0 = λ x. Moves KeepsRunning a b (to_clients place) (behind_read x place) before mid in subst P is moves

  pub read_done : again ≡ false → (c : Standing) (next : ℕ) (after : Running) → Moves KeepsRunning b c (behind_client place) (to_clients next) mid after
      → Moves KeepsRunning a c (to_clients place) (onward_from (Some next) place) before after
  read_done is c next after more =
      let P : Bool → Type 0 = λ x. Moves KeepsRunning a b (to_clients place) (behind_read x place) before mid in
      serve_behind a b c place next before mid after (subst P is moves) more

-- one that asked for the configuration is still there, and written to whole
pub asked_nearer : (place : ℕ) (before after : Running) (again : Bool) → again ≡ true → length after.clients ≡ length before.clients → IsWrittenIf again place after → IsNearer before place after None
asked_nearer place before after again is many written = let P : Bool → Type 0 = λ x. IsWrittenIf x place after in (many, subst P is written)

pub ruleset serving = (asked_nearer, write_moves, wrote_many, serve_none, serve_behind, read_again, read_done, write_answered, read_answered, clients_left, clients_placed)
