-- What came of a client, taken and responded to: how the run goes on behind the read.
use Rattle.std.proofs.Common.{ℕ, ◌≡◌, ◌<◌, true, false, List, [], length, Option, Some, None, IfSome, refl, sym, ap, ap₂, ◌∙◌, subst, arith}
use Rattle.std.specs.Prelude.{option_map}
use Rattle.client_frames.specs.Comes.{Heard}
use Rattle.client_table.specs.Clients.{Client, AnswersRead, after_read, answered, asks_at, changed_at, heard_at, unwritten_at}
use Rattle.client_table.proofs.CallLemmas.{read_unwritten}
use Rattle.client_table.proofs.PlaceLemmas.{length-changed_at}
use Rattle.f2b_world.specs.Told.{History, Standing}
use Rattle.f2b_world.specs.declared.answer.GateRead.{GateRead}
use Rattle.run_law.specs.Law.{Halts}
use Rattle.run_law.specs.News.{after_news}
use Rattle.run_law.specs.Points.{Point, Run}
use Rattle.run_law.specs.Requests.{Response as LawResponse, ReadsAgain as Rereads, to_heard}
use Rattle.run_law.specs.Reload.{at_reload}
use Rattle.run_law.specs.Server.{Server}
use Rattle.run_law.specs.Serving.{reads, reads_by, responded, serves, with_clients}
use Rattle.run_law.specs.Stages.{Brings, BringFails, IsAt, Reaches}
use Rattle.run_law.specs.Turn.{behind_client}
use Rattle.run_law.specs.declared.status.Status.{Status}
use Rattle.run_law.specs.declared.status.Status.TheVariants.{NoMemory}
use Rattle.run_law.proofs.EntryLemmas.{saying_behind}
use Rattle.run_law.proofs.PointLemmas.{halts_here}
use Rattle.run_steps.specs.Keeping.{IsPlacedIn, KeepsRunning, news_of}
use Rattle.run_steps.specs.declared.running.Running.{Running}
use Rattle.turn_clients.specs.Responding.{RespondsTo, told_by}
use Rattle.turn_clients.specs.Serving.{HasClients, HasHeard, IsWrittenIf, ServeFails, Serves, behind_read}
use Rattle.turn_clients.specs.declared.response.Reply.{Reply}
use Rattle.turn_clients.specs.declared.response.Response.{Response}
use Rattle.turn_clients.specs.declared.response.Response.TheVariants.{ReadsAgain, Replies}
use Rattle.turn_clients.proofs.ServingLemmas.{clients_as, clients_left, clients_placed, keeps_clients, reaches_alone}

-- ---- what is heard

-- the table once the read was taken
abbrev pub read_table : ℕ → GateRead → Running → List Client
read_table place answer before = changed_at place (after_read before.clocked.now answer) before.clients

module _ (before : Running) (place : ℕ) (answer : GateRead) (table : List Client) (told : Option Heard) (given : Option Response) (responds : RespondsTo before.clocked told given)
    (taken : IfSome told (λ h. table ≡ read_table place answer before)) where
  -- memory was found, so the read was taken
  table_is : table ≡ read_table place answer before
  table_is = by_told told taken responds
    where
      by_told : (o : Option Heard) → IfSome o (λ h. table ≡ read_table place answer before) → RespondsTo before.clocked o given → table ≡ read_table place answer before
      by_told None taken responds = absurd responds
      by_told (Some h) taken responds = taken

  -- so a reply can be put in
  pub table_within : place < length before.clients → place < length table
  table_within within =
      let many : length table ≡ length before.clients = ap (λ (cs : List Client). length cs) table_is ∙ length-changed_at place (after_read before.clocked.now answer) before.clients in
      omega (arith, within, many)

  pub table_unwritten : AnswersRead (asks_at place before.clients) answer → unwritten_at place table ≡ []
  table_unwritten answers = ap (unwritten_at place) table_is ∙ read_unwritten before.clocked.now answer place before.clients answers

  module _ (is : IfSome told (λ h. h ≡ heard_at answer place before.clients)) where
    given_as : (s : Server) → KeepsRunning s before → option_map told_by given ≡ to_heard s.now s.state (heard_at answer place s.clients)
    given_as s keeps = by_told told is responds
      where
        by_told : (o : Option Heard) → IfSome o (λ h. h ≡ heard_at answer place before.clients) → RespondsTo before.clocked o given
            → option_map told_by given ≡ to_heard s.now s.state (heard_at answer place s.clients)
        by_told None is responds = absurd responds
        by_told (Some h) is responds = responds s keeps.clocked ∙ ap (to_heard s.now s.state) (is ∙ ap (heard_at answer place) keeps.clients)

    -- nothing is put in
    unanswered : (o : Option Response) → given ≡ o → responded (option_map told_by o) place (read_table place answer before) ≡ read_table place answer before → HasHeard place answer before (record before { clients = table }) given
    unanswered o same none = record {
      clients = record {
        clocked = refl;
        logs = refl;
        children = refl;
        clients = table_is ∙ sym none ∙ ap (λ (x : Option Response). responded (option_map told_by x) place (read_table place answer before)) (sym same);
        left = refl;
      };
      responds = given_as;
    }

    pub has_heard_part : given ≡ None → HasHeard place answer before (record before { clients = table }) given
    has_heard_part none = unanswered None none refl

    pub has_heard_again : given ≡ Some ReadsAgain → HasHeard place answer before (record before { clients = table }) given
    has_heard_again again = unanswered (Some ReadsAgain) again refl

    pub has_heard : (one : Reply) (after : List Client) → given ≡ Some (Replies one) → after ≡ changed_at place (answered one.answer) table → HasHeard place answer before (record before { clients = after }) given
    has_heard one after some put = record {
      clients = record {
        clocked = refl;
        logs = refl;
        children = refl;
        clients =
            put ∙ ap (changed_at place (answered one.answer)) table_is
            ∙ ap (λ (o : Option Response). responded (option_map told_by o) place (read_table place answer before)) (sym some);
        left = refl;
      };
      responds = given_as;
    }

-- ---- behind the read

module _ (place : ℕ) (answer : GateRead) (before mid : Running) where
  -- the clients of a server then
  abbrev clients_then : Option LawResponse → Server → List Client
  clients_then o s = responded o place (changed_at place (after_read s.now answer) s.clients)

  module _ (given : Option Response) (heard : HasHeard place answer before mid given) where
    keeps_mid : (s : Server) → KeepsRunning s before → KeepsRunning (with_clients (clients_then (option_map told_by given) s) s) mid
    keeps_mid s keeps =
        let cs = clients_then (option_map told_by given) s in
        keeps_clients before mid s cs keeps
        (clients_as before mid (responded (option_map told_by given) place (read_table place answer before)) cs
        (ap₂ (λ (n : ℕ) (ds : List Client). responded (option_map told_by given) place (changed_at place (after_read n answer) ds)) keeps.clocked.now keeps.clients) heard.clients)

    pub heard_many : length mid.clients ≡ length before.clients
    heard_many = ap (λ (cs : List Client). length cs) heard.clients.clients ∙ many given
      where
        many : (o : Option Response) → length (responded (option_map told_by o) place (read_table place answer before)) ≡ length before.clients
        many None = length-changed_at place (after_read before.clocked.now answer) before.clients
        many (Some (Replies x)) = length-changed_at place (answered x.answer) (read_table place answer before) ∙ length-changed_at place (after_read before.clocked.now answer) before.clients
        many (Some ReadsAgain) = length-changed_at place (after_read before.clocked.now answer) before.clients

    pub heard_left : mid.left ≡ before.left
    heard_left = heard.clients.left

    pub heard_placed : (told : Option History) → IsPlacedIn told before.clocked → IsPlacedIn told mid.clocked
    heard_placed told placed = clients_placed before mid (responded (option_map told_by given) place (read_table place answer before)) told heard.clients placed

    -- where it asks for the configuration nothing is unwritten to it
    pub heard_written : AnswersRead (asks_at place before.clients) answer → given ≡ Some ReadsAgain → IsWrittenIf true place mid
    heard_written answers again =
        ap (unwritten_at place) (heard.clients.clients ∙ ap (λ (o : Option Response). responded (option_map told_by o) place (read_table place answer before)) again)
        ∙ read_unwritten before.clocked.now answer place before.clients answers

    -- what is heard is this
    heard_is : (o : Option Response) → given ≡ o → (s : Server) → KeepsRunning s before → option_map told_by o ≡ to_heard s.now s.state (heard_at answer place s.clients)
    heard_is o same s keeps = ap (option_map told_by) (sym same) ∙ heard.responds s keeps

    keeps_as : (o : Option Response) → given ≡ o → (s : Server) → KeepsRunning s before → KeepsRunning (with_clients (clients_then (option_map told_by o) s) s) mid
    keeps_as o same s keeps = let P : Option Response → Type 0 = λ x. KeepsRunning (with_clients (clients_then (option_map told_by x) s) s) mid in subst P same (keeps_mid s keeps)

    -- nothing is responded to
    pub hear_part : (a : Standing) → given ≡ None → Serves a a (reads answer place) (behind_read false place) before mid
    hear_part a none = record {
      runs = λ r s here at keeps.
          let Q : Option LawResponse → Type 0 = λ o. Reaches KeepsRunning a a (serves (reads_by o answer place s) s r) (behind_client place) mid in
          subst Q (heard_is None none s keeps) (reaches_alone a (behind_client place) (with_clients (clients_then None s) s) r here mid at (keeps_as None none s keeps));
    }

    -- the configuration comes next
    pub hear_again : (a : Standing) → given ≡ Some ReadsAgain → Serves a a (reads answer place) (behind_read true place) before mid
    hear_again a again = record {
      runs = λ r s here at keeps.
          let Q : Option LawResponse → Type 0 = λ o. Reaches KeepsRunning a a (serves (reads_by o answer place s) s r) (at_reload place) mid in
          subst Q (heard_is (Some ReadsAgain) again s keeps) (reaches_alone a (at_reload place) (with_clients (clients_then (Some Rereads) s) s) r here mid at (keeps_as (Some ReadsAgain) again s keeps));
    }

    module _ (one : Reply) (some : given ≡ Some (Replies one)) where
      -- what is brought was taken
      pub hear_brought : (a b : Standing) (after : Running) → Brings KeepsRunning a b (news_of [] one.what one.behind) mid after → Serves a b (reads answer place) (behind_read false place) before after
      hear_brought a b after brought = record {
        runs = λ r s here at keeps.
            let u = with_clients (clients_then (Some (told_by (Replies one))) s) s in
            let last = brought.runs r (λ t. here) (behind_client place) u (saying_behind place) at (keeps_as (Some (Replies one)) some s keeps) in
            let Q : Option LawResponse → Type 0 = λ o. Reaches KeepsRunning a b (serves (reads_by o answer place s) s r) (behind_client place) after in
            subst Q (heard_is (Some (Replies one)) some s keeps) (record { to = last.to; server = after_news (news_of [] one.what one.behind u) u; goes = last.goes; at = last.at; keeps = last.keeps });
      }

      pub hear_unbrought : (a b : Standing) (status : Status) → BringFails KeepsRunning a b (news_of [] one.what one.behind) mid status → ServeFails a b (reads answer place) before status
      hear_unbrought a b status fails = record {
        runs = λ r s here at keeps.
            let u = with_clients (clients_then (Some (told_by (Replies one))) s) s in
            let Q : Option LawResponse → Type 0 = λ o. Halts a.told b.told (serves (reads_by o answer place s) s r) status in
            subst Q (heard_is (Some (Replies one)) some s keeps) (fails.runs r (λ t. here) (behind_client place) u (saying_behind place) at (keeps_as (Some (Replies one)) some s keeps));
      }

-- memory ran out before it was heard
pub hear_early : (a : Standing) (place : ℕ) (answer : GateRead) (before : Running) → ServeFails a a (reads answer place) before NoMemory
hear_early a place answer before = record { runs = λ r s here at keeps. halts_here a.told (serves (reads answer place s) s r) }

pub ruleset taking_in = (table_within, table_unwritten, has_heard_part, has_heard_again, has_heard)

pub ruleset hears = (hear_part, hear_again, heard_written, hear_brought, hear_unbrought, hear_early, heard_many, heard_left, heard_placed)
