-- A client is let in.
use Rattle.std.proofs.Common.{ℕ, ◌≡◌, ◌<◌, Bool, true, false, cond, nat_lt, List, length, Option, Some, None, refl, sym, ap, ap₂, ◌∙◌, subst, arith}
use Rattle.std.proofs.lemmas.Bool.{le-ltb, lt-ltb}
use Rattle.client_table.specs.Clients.{Client, accepted, most_clients, with_client}
use Rattle.f2b_world.specs.Told.{Called, Standing}
use Rattle.f2b_world.specs.declared.answer.Accept.{Accept}
use Rattle.f2b_world.specs.declared.answer.Accept.TheVariants.{Conn, Quiet, Failed}
use Rattle.f2b_world.specs.declared.event.Event.TheVariants.{GateAccept}
use Rattle.run_law.specs.Law.{Goes}
use Rattle.run_law.specs.News.{brings, nothing}
use Rattle.run_law.specs.Points.{Point, AtTurn, AtAccept, Run}
use Rattle.run_law.specs.Server.{Server}
use Rattle.run_law.specs.Serving.{From, Service, lets_in, serves, with_clients}
use Rattle.run_law.specs.Stages.{IsAt, MoveFails, Moves}
use Rattle.run_law.specs.Turn.{to_accept, to_clients}
use Rattle.run_law.specs.declared.status.Status.TheVariants.{NoMemory}
use Rattle.run_law.proofs.PointLemmas.{goes_trans, halts_after, halts_here, turn_goes}
use Rattle.run_law.proofs.StageLemmas.{moves_as, moves_none}
use Rattle.run_steps.specs.Keeping.{KeepsRunning}
use Rattle.run_steps.specs.declared.running.Running.{Running}
use Rattle.turn_clients.specs.Serving.{HasClients, conn_in}
use Rattle.turn_clients.proofs.ServingLemmas.{clients_as, clients_left, clients_placed, keeps_clients, reaches_alone}

abbrev accept_if : Server → Bool → Point
accept_if s room = cond room (AtTurn AtAccept s) (to_clients 0 s)

accept_is : (s : Server) → to_accept s ≡ accept_if s (nat_lt (length s.clients) most_clients)
unfolding to_accept
accept_is s = refl

-- as many are there as may be
pub accept_full : (a : Standing) (kept : Running) → length kept.clients ≡ most_clients → Moves KeepsRunning a a to_accept (to_clients 0) kept kept
accept_full a kept full =
    moves_as KeepsRunning a a to_accept (to_clients 0) (to_clients 0) (to_clients 0) kept kept
    (λ s keeps.
    let many : length s.clients ≡ most_clients = ap (λ (cs : List Client). length cs) (sym keeps.clients) ∙ full in
    accept_is s ∙ ap (accept_if s) (le-ltb (length s.clients) most_clients (omega (arith, many))))
    (λ s keeps. refl) (moves_none KeepsRunning a (to_clients 0) kept)

let_in : (answer : Accept) (conn : ℕ) (s : Server) → conn_in answer ≡ Some conn → lets_in answer s ≡ record { clients = with_client (accepted conn s.now) s.clients; news = nothing; onward = From 0 }
let_in (Conn number) conn s is =
    let same : number ≡ conn = (let e : Some number ≡ Some conn = is in cc) in
    ap (λ (n : ℕ). lets_in (Conn n) s) same
let_in Quiet conn s is = absurd (let e : None ≡ Some conn = is in cc)
let_in Failed conn s is = absurd (let e : None ≡ Some conn = is in cc)

none_in : (answer : Accept) (s : Server) → conn_in answer ≡ None → lets_in answer s ≡ record { clients = s.clients; news = nothing; onward = From 0 }
none_in (Conn number) s is = absurd (let e : Some number ≡ None = is in cc)
none_in Quiet s is = refl
none_in Failed s is = refl

module _ (a b : Standing) (before : Running) (room : length before.clients < most_clients) (answer : Accept) (call : Called a (GateAccept answer) b) where
  here : (r : Run) (s : Server) → IsAt r (to_accept s) → KeepsRunning s before → IsAt r (AtTurn AtAccept s)
  here r s at keeps =
      let P : List Client → Type 0 = λ cs. length cs < most_clients in
      record { point = at.point ∙ accept_is s ∙ ap (accept_if s) (lt-ltb (length s.clients) most_clients (subst P keeps.clients room)); still = at.still }

  accept_goes : (r : Run) (s : Server) → IsAt r (AtTurn AtAccept s) → Goes a.told b.told r (serves (lets_in answer s) s r)
  accept_goes r s at = turn_goes a b (GateAccept answer) r AtAccept s call at tt refl

  -- memory ran out for it
  pub accept_fails : MoveFails KeepsRunning a b to_accept before NoMemory
  accept_fails = record {
    runs = λ r s at keeps. halts_after a.told b.told b.told r (serves (lets_in answer s) s r) NoMemory (accept_goes r s (here r s at keeps)) (halts_here b.told (serves (lets_in answer s) s r));
  }

  -- the clients are these then
  accept_clients : (after : Running) (added : Server → List Client) → ((s : Server) → lets_in answer s ≡ record { clients = added s; news = nothing; onward = From 0 })
      → ((s : Server) → KeepsRunning s before → KeepsRunning (with_clients (added s) s) after) → Moves KeepsRunning a b to_accept (to_clients 0) before after
  accept_clients after added is kept = record {
    runs = λ r s at keeps.
        let at_accept = here r s at keeps in
        let plain = brings nothing (to_clients 0) (with_clients (added s) s) r in
        let goes : Goes a.told b.told r plain = subst (λ (x : Service). Goes a.told b.told r (serves x s r)) (is s) (accept_goes r s at_accept) in
        let last = reaches_alone b (to_clients 0) (with_clients (added s) s) r (AtTurn AtAccept s) after at_accept (kept s keeps) in
        record { to = last.to; server = last.server; goes = goes_trans a.told b.told b.told r plain last.to goes last.goes; at = last.at; keeps = last.keeps };
  }

  module _ (o : Option ℕ) (is : o ≡ conn_in answer) where
    pub accept_conn : (conn : ℕ) (after : Running) → o ≡ Some conn → HasClients (with_client (accepted conn before.clocked.now) before.clients) before after → Moves KeepsRunning a b to_accept (to_clients 0) before after
    accept_conn conn after some has =
        accept_clients after (λ s. with_client (accepted conn s.now) s.clients) (λ s. let_in answer conn s (sym is ∙ some))
        (λ s keeps.
        let cs = with_client (accepted conn s.now) s.clients in
        keeps_clients before after s cs keeps
        (clients_as before after (with_client (accepted conn before.clocked.now) before.clients) cs (ap₂ (λ (ds : List Client) (n : ℕ). with_client (accepted conn n) ds) keeps.clients keeps.clocked.now) has))

    -- none has connected, or that could not be told
    pub accept_none : o ≡ None → Moves KeepsRunning a b to_accept (to_clients 0) before before
    accept_none none = accept_clients before (λ s. s.clients) (λ s. none_in answer s (sym is ∙ none)) (λ s keeps. keeps)

pub ruleset accepting = (accept_full, accept_fails, accept_conn, accept_none, clients_left, clients_placed)
