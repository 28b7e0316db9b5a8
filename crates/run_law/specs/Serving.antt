-- The clients of a turn: one is let in, and then each of them is written to or read once, and leaves where it is over.
use Rattle.std.specs.Prelude.{ℕ, List, remove, Option, Some, None}
use Rattle.client_table.specs.Clients.{Client, Asks, Writes, Reads, Nothing, accepted, after_read, after_write, answered, asks_at, changed_at, conn_at, heard_at, with_client}
use Rattle.f2b_world.specs.declared.answer.Accept.{Accept}
use Rattle.f2b_world.specs.declared.answer.Accept.TheVariants.{Conn}
use Rattle.f2b_world.specs.declared.answer.GateRead.{GateRead}
use Rattle.f2b_world.specs.declared.answer.GateWrite.{GateWrite}
use Rattle.run_law.specs.Calls.{Call, AskRead, AskSend, AskClose}
use Rattle.run_law.specs.News.{News, nothing, brings}
use Rattle.run_law.specs.Points.{OfTree, AtReload, Point, AtTurn, Run}
use Rattle.run_law.specs.Requests.{Response, Answers, ReadsAgain, to_heard}
use Rattle.run_law.specs.Server.{Server}
use Rattle.run_law.specs.Turn.{behind_client, to_clients}

-- ---- calls

-- what a client asks for
abbrev pub asked_call : ℕ → Asks → Option Call
asked_call conn (Writes bytes) = Some (AskSend conn bytes)
asked_call conn (Reads most) = Some (AskRead conn most)
asked_call conn Nothing = None

abbrev pub client_call : ℕ → Server → Option Call
client_call i s = asked_call (conn_at i s.clients) (asks_at i s.clients)

abbrev pub close_call : ℕ → Server → Option Call
close_call i s = Some (AskClose (conn_at i s.clients))

-- ---- what a call comes to

-- how the turn goes on: from the client of a place on, behind a call on it, or at the configuration, which is read again for it
pub data Onward : Type 0 where
  From : ℕ → Onward
  Behind : ℕ → Onward
  Rereads : ℕ → Onward

abbrev pub point_on : Onward → Server → Point
point_on (From i) s = to_clients i s
point_on (Behind i) s = behind_client i s
point_on (Rereads i) s = AtTurn (AtReload OfTree i) s

-- the clients that there are then, what is brought, and how the turn goes on
pub record Service : Type 0 where
  pub clients : List Client
  pub news : News
  pub onward : Onward

abbrev pub lets_in : Accept → Server → Service
lets_in (Conn conn) s = record { clients = with_client (accepted conn s.now) s.clients; news = nothing; onward = From 0 }
lets_in _ s = record { clients = s.clients; news = nothing; onward = From 0 }

abbrev pub responded : Option Response → ℕ → List Client → List Client
responded (Some (Answers given news)) i cs = changed_at i (answered given) cs
responded _ i cs = cs

abbrev pub news_in : Option Response → News
news_in (Some (Answers given news)) = news
news_in _ = nothing

abbrev pub onward_of : Option Response → ℕ → Onward
onward_of (Some ReadsAgain) i = Rereads i
onward_of _ i = Behind i

abbrev pub reads_by : Option Response → GateRead → ℕ → Server → Service
reads_by response answer i s = record {
  clients = responded response i (changed_at i (after_read s.now answer) s.clients);
  news = news_in response;
  onward = onward_of response i;
}

-- what is heard of it is responded to over the state before anything happens by it
abbrev pub reads : GateRead → ℕ → Server → Service
reads answer i s = reads_by (to_heard s.now s.state (heard_at answer i s.clients)) answer i s

abbrev pub writes : GateWrite → ℕ → Server → Service
writes answer i s = record { clients = changed_at i (after_write s.now answer) s.clients; news = nothing; onward = Behind i }

-- the next client stands in its place
abbrev pub closes : ℕ → Server → Service
closes i s = record { clients = remove s.clients i; news = nothing; onward = From i }

abbrev pub with_clients : List Client → Server → Server
with_clients cs s = record s { clients = cs }

-- the turn goes on
abbrev pub serves : Service → Server → Run → Run
serves x s r = brings x.news (point_on x.onward) (with_clients x.clients s) r
