-- What the code keeps of a server whose clients are others, and how a run goes on that nothing else came to.
use Rattle.std.proofs.Common.{ℕ, ◌≡◌, ◌<◌, ◌≤◌, Bool, true, false, cond, nat_lt, List, [], ◌++◌, length, Option, refl, sym, ap, ◌∙◌, subst}
use Rattle.std.proofs.lemmas.Bool.{le-ltb, lt-ltb}
use Rattle.client_table.specs.Clients.{Asks, Client, asks_at}
use Rattle.f2b_world.specs.Told.{History, Standing}
use Rattle.run_law.specs.News.{brings, nothing}
use Rattle.run_law.specs.Points.{Point, AtTurn, Run}
use Rattle.run_law.specs.Server.{Server}
use Rattle.run_law.specs.Serving.{with_clients}
use Rattle.run_law.specs.Stages.{IsAt, Reaches}
use Rattle.run_law.specs.Turn.{client_place, to_clients, to_starts}
use Rattle.run_law.proofs.PointLemmas.{goes_refl}
use Rattle.run_steps.specs.Keeping.{IsPlacedIn, KeepsRunning}
use Rattle.run_steps.specs.declared.running.Running.{Running}
use Rattle.turn_clients.specs.Serving.{HasClients}

-- ---- clients

pub keeps_clients : (before after : Running) (s : Server) (cs : List Client) → KeepsRunning s before → HasClients cs before after → KeepsRunning (with_clients cs s) after
keeps_clients before after s cs keeps has =
    let u : Server = with_clients cs s in
    let mid : Running = record { clocked = before.clocked; logs = before.logs; children = before.children; clients = cs; left = before.left } in
    let same : mid ≡ after = λ i. record { clocked = sym has.clocked i; logs = sym has.logs i; children = sym has.children i; clients = sym has.clients i; left = sym has.left i } in
    let P : Running → Type 0 = λ k. KeepsRunning u k in
    subst P same (record {
      clocked = record { core = keeps.clocked.core; sound = keeps.clocked.sound; journal = keeps.clocked.journal; now = keeps.clocked.now; word = keeps.clocked.word };
      logs = keeps.logs;
      children = keeps.children;
      clients = refl;
      left = keeps.left;
    })

-- the same clients, in other words
pub clients_as : (before after : Running) (cs ds : List Client) → cs ≡ ds → HasClients cs before after → HasClients ds before after
clients_as before after cs ds same has = record { clocked = has.clocked; logs = has.logs; children = has.children; clients = has.clients ∙ same; left = has.left }

-- the journal stands where it did
pub clients_placed : (before after : Running) (cs : List Client) (told : Option History) → HasClients cs before after → IsPlacedIn told before.clocked → IsPlacedIn told after.clocked
clients_placed before after cs told has placed = subst (IsPlacedIn told) (sym has.clocked) placed

pub clients_left : (before after : Running) (cs : List Client) → HasClients cs before after → after.left ≡ before.left
clients_left before after cs has = has.left

-- ---- a run that goes on alone

brings_nothing : (next : Server → Point) (s : Server) (r : Run) (here : Point) → IsAt r here → IsAt (brings nothing next s r) (next s)
unfolding brings
brings_nothing next s r here at = record { point = refl; still = record { written = at.still.written; paid = ap (λ (lines : List (List ℕ)). lines ++ []) at.still.paid } }

pub reaches_alone : (a : Standing) (next : Server → Point) (s : Server) (r : Run) (here : Point) (after : Running) → IsAt r here → KeepsRunning s after → Reaches KeepsRunning a a (brings nothing next s r) next after
reaches_alone a next s r here after at keeps = record { to = brings nothing next s r; server = s; goes = goes_refl a.told (brings nothing next s r); at = brings_nothing next s r here at; keeps = keeps }

-- ---- where the turn stands

abbrev point_if : ℕ → Server → Bool → Point
point_if place s more = cond more (AtTurn (client_place (asks_at place s.clients) place) s) (to_starts s)

-- at a client that is there, by what it asks
pub client_there : (kept : Running) (place : ℕ) (asks : Asks) → place < length kept.clients → asks_at place kept.clients ≡ asks → (s : Server) → KeepsRunning s kept
    → to_clients place s ≡ AtTurn (client_place asks place) s
client_there kept place asks within is s keeps =
    let P : List Client → Type 0 = λ cs. place < length cs in
    let there : nat_lt place (length s.clients) ≡ true = lt-ltb place (length s.clients) (subst P keeps.clients within) in
    let asked : asks_at place s.clients ≡ asks = ap (asks_at place) (sym keeps.clients) ∙ is in
    ap (point_if place s) there ∙ ap (λ (a : Asks). AtTurn (client_place a place) s) asked

-- behind the last one
pub clients_past : (kept : Running) (place : ℕ) → length kept.clients ≤ place → (s : Server) → KeepsRunning s kept → to_clients place s ≡ to_starts s
clients_past kept place past s keeps =
    let P : List Client → Type 0 = λ cs. length cs ≤ place in
    let none : nat_lt place (length s.clients) ≡ false = le-ltb place (length s.clients) (subst P keeps.clients past) in
    ap (point_if place s) none
