-- A configuration that is not taken: its client is told why, and the same is said.
use Rattle.std.proofs.Common.{ℕ, zero, suc, ◌≡◌, List, [], ◌∷◌, length, Option, None, refl, sym, ap, ◌∙◌, subst}
use Rattle.client_frames.specs.declared.answer.Answer.{Answer}
use Rattle.client_replies.specs.Replies.{refused, sendable}
use Rattle.client_table.specs.Clients.{Client, answered, changed_at}
use Rattle.f2b_world.specs.Told.{History, Standing}
use Rattle.run_law.specs.Law.{Goes, Halts}
use Rattle.run_law.specs.News.{brings}
use Rattle.run_law.specs.Points.{Run}
use Rattle.run_law.specs.Refusals.{error_line, untaken_text}
use Rattle.run_law.specs.Reload.{untaken_for}
use Rattle.run_law.specs.Server.{Server}
use Rattle.run_law.specs.Serving.{Behind, point_on, with_clients}
use Rattle.run_law.specs.Stages.{Brings, BringFails}
use Rattle.run_law.specs.declared.status.Status.{Status}
use Rattle.run_law.specs.declared.status.Status.TheVariants.{NoMemory}
use Rattle.run_law.proofs.EntryLemmas.{saying_onward}
use Rattle.run_law.proofs.PointLemmas.{halts_here}
use Rattle.run_law.proofs.StageLemmas.{brings_beside, fails_beside}
use Rattle.run_steps.specs.Keeping.{IsPlacedIn, KeepsClocked, KeepsRunning, news_of}
use Rattle.run_steps.specs.declared.clocked.Clocked.{Clocked}
use Rattle.run_steps.specs.declared.running.Running.{Running}
use Rattle.turn_reload.specs.Leaving.{LeaveFails, Leaves}
use Rattle.turn_reload.specs.Telling.{IsTold}

-- ---- lines, with all that is kept

abbrev pub with_clocked : Running → Clocked → Running
with_clocked kept clocked = record kept { clocked = clocked }

-- they were said
pub said_all : (a b : Standing) (kept : Running) (lines : List (List ℕ)) (after : Clocked) → Brings KeepsClocked a b (news_of [] None lines) kept.clocked after
    → Brings KeepsRunning a b (news_of [] None lines) kept (with_clocked kept after)
said_all a b kept lines after brought =
    brings_beside KeepsClocked KeepsRunning a b (news_of [] None lines) kept.clocked after kept (with_clocked kept after) (λ s keeps. keeps.clocked)
    (λ s keeps clocked. record { clocked = clocked; logs = keeps.logs; children = keeps.children; clients = keeps.clients; left = keeps.left }) brought

-- they could not be said
pub unsaid_all : (a b : Standing) (kept : Running) (lines : List (List ℕ)) (status : Status) → BringFails KeepsClocked a b (news_of [] None lines) kept.clocked status
    → BringFails KeepsRunning a b (news_of [] None lines) kept status
unsaid_all a b kept lines status fails = fails_beside KeepsClocked KeepsRunning a b (news_of [] None lines) kept.clocked kept status (λ s keeps. keeps.clocked) fails

pub ruleset saying = (said_all, unsaid_all)

-- ---- the client that is told

-- as many are there as before
pub length-changed_at : (place : ℕ) (change : Client → Client) (cs : List Client) → length (changed_at place change cs) ≡ length cs
length-changed_at place change [] = refl
length-changed_at zero change (c ∷ cs) = refl
length-changed_at (suc place) change (c ∷ cs) = ap suc (length-changed_at place change cs)

module _ (place : ℕ) (answer : Answer) (before told : Running) (is : IsTold place answer before told) where
  keeps_told : (s : Server) (cs : List Client) → KeepsRunning s before → cs ≡ changed_at place (answered answer) s.clients → KeepsRunning (with_clients cs s) told
  keeps_told s cs keeps same =
      let u : Server = with_clients cs s in
      let mid : Running = record { clocked = before.clocked; logs = before.logs; children = before.children; clients = cs; left = before.left } in
      let clients : cs ≡ told.clients = same ∙ ap (changed_at place (answered answer)) (sym keeps.clients) ∙ sym is.clients in
      let all : mid ≡ told = λ i. record { clocked = sym is.clocked i; logs = sym is.logs i; children = sym is.children i; clients = clients i; left = sym is.left i } in
      let P : Running → Type 0 = λ k. KeepsRunning u k in
      subst P all (record {
        clocked = record { core = keeps.clocked.core; sound = keeps.clocked.sound; journal = keeps.clocked.journal; now = keeps.clocked.now; word = keeps.clocked.word };
        logs = keeps.logs;
        children = keeps.children;
        clients = refl;
        left = keeps.left;
      })

  pub told_placed : (told_by : Option History) → IsPlacedIn told_by before.clocked → IsPlacedIn told_by told.clocked
  told_placed told_by placed = subst (IsPlacedIn told_by) (sym is.clocked) placed

  pub told_many : length told.clients ≡ length before.clients
  told_many = ap length is.clients ∙ length-changed_at place (answered answer) before.clients

  pub told_left : told.left ≡ before.left
  told_left = is.left

module _ (a b : Standing) (place : ℕ) (status : Status) (answer : Answer) (before told : Running) (lines slice : List (List ℕ))
    (answer_is : answer ≡ sendable (refused (untaken_text status))) (is : IsTold place answer before told)
    (lines_are : lines ≡ error_line before.clocked.now (untaken_text status) ∷ []) (shown : slice ≡ lines) where
  clients_for : (s : Server) → changed_at place (answered (sendable (refused (untaken_text status)))) s.clients ≡ changed_at place (answered answer) s.clients
  clients_for s = ap (λ (x : Answer). changed_at place (answered x) s.clients) (sym answer_is)

  -- the server with the client that is told
  abbrev told_for : Server → Server
  told_for s = with_clients (changed_at place (answered (sendable (refused (untaken_text status)))) s.clients) s

  said_for : (r : Run) (s : Server) → KeepsRunning s before → brings (news_of [] None slice (told_for s)) (point_on (Behind place)) (told_for s) r ≡ untaken_for place s status r
  said_for r s keeps =
      let line : error_line before.clocked.now (untaken_text status) ≡ error_line s.now (untaken_text status) = ap (λ (n : ℕ). error_line n (untaken_text status)) keeps.clocked.now in
      let same : slice ≡ error_line s.now (untaken_text status) ∷ [] = shown ∙ lines_are ∙ ap (λ (l : List ℕ). l ∷ []) line in
      ap (λ (ls : List (List ℕ)). brings (record { before = []; what = None; behind = ls }) (point_on (Behind place)) (told_for s) r) same

  -- it was told and said
  pub leaves : (after : Running) → Brings KeepsRunning a b (news_of [] None slice) told after → Leaves a b place status before after
  leaves after brought = record {
    runs = λ r s still keeps.
        let t = told_for s in
        let one = brought.runs r (λ u. r.point) (point_on (Behind place)) t (saying_onward (Behind place)) (record { point = refl; still = still })
        (keeps_told place answer before told is s t.clients keeps (clients_for s)) in
        let P : Run → Type 0 = λ x. Goes a.told b.told x one.to in
        record { to = one.to; server = t; goes = subst P (said_for r s keeps) one.goes; at = one.at; keeps = one.keeps };
  }

  -- it could not be said
  pub leave_fails : (fault : Status) → BringFails KeepsRunning a b (news_of [] None slice) told fault → LeaveFails a b place status before fault
  leave_fails fault fails = record {
    runs = λ r s still keeps.
        let t = told_for s in
        let P : Run → Type 0 = λ x. Halts a.told b.told x fault in
        subst P (said_for r s keeps)
        (fails.runs r (λ u. r.point) (point_on (Behind place)) t (saying_onward (Behind place)) (record { point = refl; still = still })
        (keeps_told place answer before told is s t.clients keeps (clients_for s)));
  }

-- memory ran out before that
pub leave_memory : (a : Standing) (place : ℕ) (status : Status) (before : Running) → LeaveFails a a place status before NoMemory
leave_memory a place status before = record { runs = λ r s still keeps. halts_here a.told (untaken_for place s status r) }

pub ruleset leaving = (told_placed, told_many, told_left, leaves, leave_fails, leave_memory)
