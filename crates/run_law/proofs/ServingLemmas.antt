-- Where the clients of a turn lead, for any property of points, and which calls they ask for.
use Rattle.std.proofs.Common.{ℕ, ◌+◌, Bool, true, false, cond, nat_lt, List, length}
use Rattle.std.specs.Prelude.{IfSome}
use Rattle.client_table.specs.Clients.{Asks, Writes, Reads, Nothing, asks_at, is_over_at, most_clients}
use Rattle.f2b_world.specs.declared.event.Event.{Event}
use Rattle.run_law.specs.Calls.{Call, AskRead, AskSend, IsNext, Makes}
use Rattle.run_law.specs.Points.{Point, AtTurn, AtAccept, AtClient, AtClose, AtReload, OfTree}
use Rattle.run_law.specs.Server.{Server}
use Rattle.run_law.specs.Serving.{Onward, From, Behind, Rereads, asked_call, point_on}
use Rattle.run_law.specs.Turn.{behind_client, client_place, to_accept, to_clients, to_starts}

module _ (P : Point → Type 0) where
  if_point : (b : Bool) (p q : Point) → P p → P q → P (cond b p q)
  if_point true p q at_true at_false = at_true
  if_point false p q at_true at_false = at_false

-- What holds at each place of the clients and behind them holds wherever their part is entered.
module _ (P : Point → Type 0) (s : Server) (client : (i : ℕ) → P (AtTurn (AtClient i) s)) (close : (i : ℕ) → P (AtTurn (AtClose i) s)) (starts : P (to_starts s)) where
  place_point : (a : Asks) (i : ℕ) → P (AtTurn (client_place a i) s)
  place_point (Writes bytes) i = client i
  place_point (Reads most) i = client i
  place_point Nothing i = close i

  pub clients_point : (i : ℕ) → P (to_clients i s)
  clients_point i = if_point P (nat_lt i (length s.clients)) (AtTurn (client_place (asks_at i s.clients) i) s) (to_starts s) (place_point (asks_at i s.clients) i) starts

  pub behind_point : (i : ℕ) → P (behind_client i s)
  behind_point i = if_point P (is_over_at s.now i s.clients) (AtTurn (AtClose i) s) (to_clients (i + 1) s) (close i) (clients_point (i + 1))

  pub onward_point : ((i : ℕ) → P (AtTurn (AtReload OfTree i) s)) → (o : Onward) → P (point_on o s)
  onward_point reload (From i) = clients_point i
  onward_point reload (Behind i) = behind_point i
  onward_point reload (Rereads i) = reload i

  pub accept_point : P (AtTurn AtAccept s) → P (to_accept s)
  unfolding to_accept
  accept_point accept = if_point P (nat_lt (length s.clients) most_clients) (AtTurn AtAccept s) (to_clients 0 s) accept (clients_point 0)

-- a call that a client asks for is what holds of each
pub asked_is : (Q : Call → Type 0) (conn : ℕ) (a : Asks) → ((bytes : List ℕ) → Q (AskSend conn bytes)) → ((most : ℕ) → Q (AskRead conn most)) → IfSome (asked_call conn a) Q
asked_is Q conn (Writes bytes) sends reads = sends bytes
asked_is Q conn (Reads most) sends reads = reads most
asked_is Q conn Nothing sends reads = tt

-- an event that is neither a read nor a write of a client is not what it asks for
pub asked_none : (event : Event) (conn : ℕ) (a : Asks) → ((bytes : List ℕ) → Makes (AskSend conn bytes) event → ⊥) → ((most : ℕ) → Makes (AskRead conn most) event → ⊥) → IsNext (asked_call conn a) event → ⊥
asked_none event conn (Writes bytes) sends reads next = sends bytes next
asked_none event conn (Reads most) sends reads next = reads most next
asked_none event conn Nothing sends reads next = next
