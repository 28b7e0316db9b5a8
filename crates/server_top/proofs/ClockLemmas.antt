-- The clock of a turn.
use Rattle.std.proofs.Common.{ℕ, ◌≡◌, ◌||◌, Bool, true, false, List, [], ◌∷◌, map, max, min, Option, Some, None, refl, sym, ap, ap₂, ◌∙◌, subst}
use Rattle.std.specs.Prelude.{cond}
use Rattle.std.specs.List.{list_any}
use Rattle.f2b_base.specs.Limits.{latest_reading}
use Rattle.f2b_base.specs.declared.input.What.{What}
use Rattle.f2b_base.specs.declared.input.What.TheVariants.{Tick}
use Rattle.f2b_base.specs.declared.outside.Reading.{Reading}
use Rattle.f2b_model.specs.Nows.{jail_now}
use Rattle.f2b_model.specs.State.{Jail, active_of}
use Rattle.f2b_model.specs.Steps.{moves, moves_now, is_ban_due, is_due}
use Rattle.f2b_model.specs.Whole.{State, Now, now_of}
use Rattle.f2b_model.specs.declared.jail_now.JailNow.{JailNow}
use Rattle.f2b_world.specs.Told.{Standing, Called}
use Rattle.f2b_world.specs.declared.event.Event.TheVariants.{Clock}
use Rattle.log_set.specs.Logs.{IsSetOf, Logs}
use Rattle.reconcile.specs.Engines.{EngineNow}
use Rattle.run_law.specs.Clock.{tick_news}
use Rattle.run_law.specs.Law.{Goes}
use Rattle.run_law.specs.News.{brings, nothing, only}
use Rattle.run_law.specs.Points.{AtClock, Run}
use Rattle.run_law.specs.Server.{Server, log_jails, read_at}
use Rattle.run_law.specs.Stages.{Brings, BringFails, IsAt, Moves, MoveFails}
use Rattle.run_law.specs.Turn.{to_logs}
use Rattle.run_law.specs.declared.status.Status.{Status}
use Rattle.ban_journal.specs.Places.{IsPlaced}
use Rattle.run_law.proofs.CauseLemmas.{called_placed}
use Rattle.run_law.proofs.EntryLemmas.{saying_logs}
use Rattle.run_law.proofs.JailLemmas.{tick_jails}
use Rattle.run_law.proofs.PointLemmas.{says_none, turn_goes}
use Rattle.run_law.proofs.StageLemmas.{brings_same, brings_told, fails_same, halts_bringing, reaches_brought}
use Rattle.run_steps.proofs.RunningLemmas.{bring_beside, bring_fails_beside, clocked_as}
use Rattle.run_steps.specs.Keeping.{IsPlacedIn, KeepsClocked, KeepsRunning, news_of}
use Rattle.run_steps.specs.declared.clocked.Clocked.{Clocked}
use Rattle.run_steps.specs.declared.running.Running.{Running}
use Rattle.server_top.specs.Ticks.{ReadsAt, ReadsClock, at_clock, tick_of}

-- ---- the tick

due_in : (at : ℕ) (js : List Jail) → list_any (λ (j : Jail). list_any (is_due at) (active_of j.bans)) js ≡ list_any (λ (j : JailNow). list_any (is_due at) j.bans) (map jail_now js)
due_in at [] = refl
due_in at (j ∷ js) = ap₂ ◌||◌ refl (due_in at js)

due_now : (at : ℕ) (s : State) → is_ban_due moves at s.jails ≡ is_ban_due moves_now at (now_of s).jails
due_now at s = due_in at s.jails.jails

either_news : (due : Bool) (s : Server) → cond due (only Tick) nothing ≡ news_of [] (cond due (Some Tick) None) [] s
either_news true s = refl
either_news false s = refl

-- the law's news are a tick where the code finds one
news_are : (kept : Clocked) (s : Server) → KeepsClocked s kept → tick_news s ≡ news_of [] (tick_of kept) [] s
news_are kept s keeps =
    let due : is_ban_due moves s.now s.state.jails ≡ is_ban_due moves_now kept.now kept.engine.core.jails =
    due_now s.now s.state ∙ sym (ap₂ (λ at (n : Now). is_ban_due moves_now at n.jails) keeps.now keeps.core) in
    ap (λ (b : Bool). cond b (only Tick) nothing) due ∙ either_news (is_ban_due moves_now kept.now kept.engine.core.jails) s

-- a tick is taken beside the logs
pub tick_beside : (a b : Standing) (kept : Running) (after : Clocked) → Brings KeepsClocked a b (news_of [] (Some Tick) []) kept.clocked after → Brings KeepsRunning a b (news_of [] (Some Tick) []) kept (clocked_as kept after)
tick_beside a b kept after brought = bring_beside kept after a b [] [] (Some Tick) tick_jails brought

pub ruleset ticking = (tick_beside, bring_fails_beside)

module _ (kept : Running) where
  -- these are the news where a ban is due, or where none is
  news_if : (what : Option What) → tick_of kept.clocked ≡ what → (s : Server) → KeepsRunning s kept → news_of [] (tick_of kept.clocked) [] s ≡ news_of [] what [] s
  news_if what is s keeps = ap (λ (o : Option What). news_of [] o [] s) is

  module _ (due : is_ban_due moves_now kept.clocked.now kept.clocked.engine.core.jails ≡ true) where
    pub due_ticks : tick_of kept.clocked ≡ Some Tick
    due_ticks = ap (λ (b : Bool). cond b (Some Tick) None) due

    pub due_brings : (a b : Standing) (after : Running) → Brings KeepsRunning a b (news_of [] (Some Tick) []) kept after → Brings KeepsRunning a b (news_of [] (tick_of kept.clocked) []) kept after
    due_brings a b after brought = brings_same KeepsRunning a b (news_of [] (tick_of kept.clocked) []) (news_of [] (Some Tick) []) kept after (news_if (Some Tick) due_ticks) brought

    pub due_fails : (a b : Standing) (status : Status) → BringFails KeepsRunning a b (news_of [] (Some Tick) []) kept status → BringFails KeepsRunning a b (news_of [] (tick_of kept.clocked) []) kept status
    due_fails a b status fails = fails_same KeepsRunning a b (news_of [] (tick_of kept.clocked) []) (news_of [] (Some Tick) []) kept status (news_if (Some Tick) due_ticks) fails

  pub none_brings : (a : Standing) → is_ban_due moves_now kept.clocked.now kept.clocked.engine.core.jails ≡ false → Brings KeepsRunning a a (news_of [] (tick_of kept.clocked) []) kept kept
  none_brings a none =
      brings_same KeepsRunning a a (news_of [] (tick_of kept.clocked) []) (news_of [] None []) kept kept (news_if None (ap (λ (b : Bool). cond b (Some Tick) None) none))
      (record { runs = λ r at next s saying is_at keeps. brings_told KeepsRunning a a (news_of [] None [] s) r at next s kept saying is_at refl (says_none a) keeps })

pub ruleset ending = (due_ticks, due_brings, due_fails, none_brings)

-- ---- the reading

-- the code's part of a server at a reading
read_keeps : (before mid : Clocked) (answer : Reading) (s : Server) → ReadsAt before answer mid → KeepsClocked s before → KeepsClocked (read_at answer s) mid
read_keeps before mid answer s reads keeps = record {
  core = ap (λ (e : EngineNow). e.core) reads.engine ∙ keeps.core;
  sound = keeps.sound;
  journal = ap (λ (e : EngineNow). e.journal) reads.engine ∙ keeps.journal;
  now = reads.now ∙ ap (λ n. max n (min answer.secs latest_reading)) keeps.now;
  word = reads.word;
}

running_read : (before mid : Running) (answer : Reading) (s : Server) → ReadsAt before.clocked answer mid.clocked → mid.logs ≡ before.logs → mid.children ≡ before.children → mid.clients ≡ before.clients → mid.left ≡ before.left
    → KeepsRunning s before → KeepsRunning (read_at answer s) mid
running_read before mid answer s reads logs children clients left keeps =
    let P : Logs → Type 0 = λ ws. IsSetOf ws (log_jails s) s.logs in
    record { clocked = read_keeps before.clocked mid.clocked answer s reads keeps.clocked; logs = subst P (sym logs) keeps.logs; children = children ∙ keeps.children; clients = clients ∙ keeps.clients; left = left ∙ keeps.left }

pub clock_reads : (a b : Standing) (answer : Reading) (before after : Running) → Called a (Clock answer) b → ReadsAt before.clocked answer after.clocked → after.logs ≡ before.logs → after.children ≡ before.children → after.clients ≡ before.clients
    → after.left ≡ before.left → ReadsClock a b before after
clock_reads a b answer before after call reads logs children clients left = record { answer = answer; call = call; reads = reads; logs = logs; children = children; clients = clients; left = left }

-- the journal stands where it stood
pub clock_placed : (a b : Standing) (answer : Reading) (before after : Clocked) → Called a (Clock answer) b → ReadsAt before answer after → IsPlacedIn a.told before → IsPlacedIn b.told after
clock_placed a b answer before after call reads is =
    let P : EngineNow → Type 0 = λ e. IsPlaced e.journal b.told in
    subst P (sym reads.engine) (called_placed before.engine.journal a b (Clock answer) call is)

pub ruleset clocking = (clock_reads, clock_placed)

module _ (a b c : Standing) (before mid : Running) (reads : ReadsClock a b before mid) where
  -- the clock leads to what a tick brings
  clock_goes : (r : Run) (s : Server) → IsAt r (at_clock s) → let t = read_at reads.answer s in Goes a.told b.told r (brings (tick_news t) to_logs t r)
  clock_goes r s at = turn_goes a b (Clock reads.answer) r AtClock s reads.call at tt refl

  keeps_read : (s : Server) → KeepsRunning s before → KeepsRunning (read_at reads.answer s) mid
  keeps_read s keeps = running_read before mid reads.answer s reads.reads reads.logs reads.children reads.clients reads.left keeps

  pub clock_moves : (after : Running) → Brings KeepsRunning b c (news_of [] (tick_of mid.clocked) []) mid after → Moves KeepsRunning a c at_clock to_logs before after
  clock_moves after brought = record {
    runs = λ r s at keeps.
        let whole = brings_same KeepsRunning b c tick_news (news_of [] (tick_of mid.clocked) []) mid after (λ t k. news_are mid.clocked t k.clocked) brought in
        reaches_brought KeepsRunning a b c r (λ t. at_clock s) to_logs tick_news (read_at reads.answer s) mid after saying_logs at (clock_goes r s at) (keeps_read s keeps) whole;
  }

  pub clock_fails : (status : Status) → BringFails KeepsRunning b c (news_of [] (tick_of mid.clocked) []) mid status → MoveFails KeepsRunning a c at_clock before status
  clock_fails status fails = record {
    runs = λ r s at keeps.
        let whole = fails_same KeepsRunning b c tick_news (news_of [] (tick_of mid.clocked) []) mid status (λ t k. news_are mid.clocked t k.clocked) fails in
        halts_bringing KeepsRunning a b c r (λ t. at_clock s) to_logs tick_news (read_at reads.answer s) mid status saying_logs at (clock_goes r s at) (keeps_read s keeps) whole;
  }

  pub read_left : mid.left ≡ before.left
  read_left = reads.left

pub ruleset reading = (clock_moves, clock_fails, read_left)
