-- One look: what its answer brings, and how the run goes on over it.
use Rattle.std.proofs.Common.{◌≡◌, ◌+◌, ◌-◌, ◌<◌, min, ℕ, zero, suc, List, [], ◌∷◌, length, Option, Some, None, get_or, refl, sym, ap, ◌∙◌, subst, arith}
use Rattle.std.specs.Prelude.{option_map, slice_get, slice_set}
use Rattle.std.proofs.lemmas.Option.{slice_get-get_or}
use Rattle.f2b_base.specs.declared.outside.FileLook.{FileLook}
use Rattle.f2b_world.specs.Told.{Asked, Called, KeepsBounds, Standing, look_event}
use Rattle.f2b_world.specs.declared.answer.Look.{Look}
use Rattle.f2b_world.specs.declared.answer.Look.TheVariants.{File, Absent, Failed, NoMemory as LookNoMemory}
use Rattle.f2b_world.specs.declared.event.Event.TheVariants.{Look as LookAt}
use Rattle.log_follow.specs.Watches.{ask_in}
use Rattle.log_follow.specs.declared.step.Ask.{Ask}
use Rattle.log_set.specs.Logs.{AsksAt, IsAskAt, LiesAt, Watching, after_look}
use Rattle.log_set.specs.declared.taken.Taken.{Taken}
use Rattle.log_set.proofs.SetLemmas.{answers_at, as_many}
use Rattle.run_law.specs.Calls.{Call, IsNext}
use Rattle.run_law.specs.Law.{Goes, Halts}
use Rattle.run_law.specs.Looks.{log_call, look_call, look_news, look_taken, looked, looked_at, now_is, rotated_lines, unread_news}
use Rattle.run_law.specs.News.{News, after_news, brings}
use Rattle.run_law.specs.Points.{AtLook, Run}
use Rattle.run_law.specs.Server.{Server, log_jails}
use Rattle.run_law.specs.Stages.{Brings, BringFails, IsAt, IsSteady, MoveFails, Moves, Reaches}
use Rattle.run_law.specs.Turn.{to_looks}
use Rattle.run_law.specs.declared.status.Status.{Status}
use Rattle.run_law.specs.declared.status.Status.TheVariants.{NoMemory}
use Rattle.ban_journal.specs.Places.{IsPlaced}
use Rattle.slot_writes.specs.declared.position.Position.{Position}
use Rattle.run_law.proofs.CauseLemmas.{steady_call, steady_placed, steady_refl}
use Rattle.run_law.proofs.EntryLemmas.{saying_looks}
use Rattle.run_law.proofs.PointLemmas.{goes_refl, goes_trans, halts_after, halts_here, turn_goes}
use Rattle.run_steps.specs.Keeping.{KeepsRunning, news_of}
use Rattle.run_steps.specs.declared.running.Running.{Running}
use Rattle.turn_logs.specs.Looking.{IsAnswerAt, LookBrings, LookFails, TakesLook, TellsRotated, TellsUnread, at_look}

-- ---- what an answer brings

-- an item that was written is read
get_set : {A : Type 0} (xs : List A) (i : ℕ) (x y : A) → slice_get xs i ≡ Some x → slice_get (slice_set xs i y) i ≡ Some y
get_set [] i x y is = absurd (let none : None ≡ Some x = is in cc)
get_set (z ∷ xs) zero x y is = refl
get_set (z ∷ xs) (suc i) x y is = get_set xs i x y is

-- what the code brought is what the law has the look bring
same_news : (i : ℕ) (file : FileLook) (before mid : Running) (t : Taken) (lines : List (List ℕ)) → TakesLook before i file mid t → TellsRotated mid i t.rotated lines
    → (s : Server) (l : Watching) → slice_get s.logs i ≡ Some l → KeepsRunning s before → news_of lines t.read [] (now_is i l file s) ≡ look_news s.now l (look_taken s l file)
same_news i file before mid t lines takes tells s l l_is keeps =
    let taken : t ≡ look_taken s l file = takes.takes s l l_is keeps in
    let told : lines ≡ rotated_lines s.now l t.rotated = tells.tells (now_is i l file s) (after_look file l) (get_set s.logs i l (after_look file l) l_is) (takes.keeps s l l_is keeps) in
    let lines_are : lines ≡ rotated_lines s.now l (look_taken s l file).rotated = told ∙ ap (λ (x : Taken). rotated_lines s.now l x.rotated) taken in
    λ j. record { before = lines_are j; what = (taken j).read; behind = [] }

module _ (a b : Standing) (i : ℕ) (file : FileLook) (before mid : Running) (t : Taken) (lines : List (List ℕ)) (takes : TakesLook before i file mid t) (tells : TellsRotated mid i t.rotated lines) where
  pub file_brings : (after : Running) → Brings KeepsRunning a b (news_of lines t.read []) mid after → LookBrings a b i (File file) before after
  file_brings after brought = record {
    runs = λ r s l l_is at keeps.
        let u : Server = now_is i l file s in
        let one = brought.runs r (λ v. at_look i s) (to_looks (i + 1)) u (saying_looks (i + 1)) at (takes.keeps s l l_is keeps) in
        let P : News → Type 0 = λ n. Reaches KeepsRunning a b (brings n (to_looks (i + 1)) u r) (to_looks (i + 1)) after in
        subst P (same_news i file before mid t lines takes tells s l l_is keeps)
        (record { to = one.to; server = after_news (news_of lines t.read [] u) u; goes = one.goes; at = one.at; keeps = one.keeps });
  }

  pub file_fails : (status : Status) → BringFails KeepsRunning a b (news_of lines t.read []) mid status → LookFails a b i (File file) before status
  file_fails status fails = record {
    runs = λ r s l l_is at keeps.
        let u : Server = now_is i l file s in
        let P : News → Type 0 = λ n. Halts a.told b.told (brings n (to_looks (i + 1)) u r) status in
        subst P (same_news i file before mid t lines takes tells s l l_is keeps)
        (fails.runs r (λ v. at_look i s) (to_looks (i + 1)) u (saying_looks (i + 1)) at (takes.keeps s l l_is keeps));
  }

same_unread : (i : ℕ) (before : Running) (lines : List (List ℕ)) → TellsUnread before i lines → (s : Server) (l : Watching) → slice_get s.logs i ≡ Some l → KeepsRunning s before
    → news_of lines None [] s ≡ unread_news s l
same_unread i before lines tells s l l_is keeps = λ j. record { before = tells.tells s l l_is keeps j; what = None; behind = [] }

module _ (a b : Standing) (i : ℕ) (before : Running) (lines : List (List ℕ)) (tells : TellsUnread before i lines) where
  pub unread_brings : (after : Running) → Brings KeepsRunning a b (news_of lines None []) before after → LookBrings a b i Failed before after
  unread_brings after brought = record {
    runs = λ r s l l_is at keeps.
        let one = brought.runs r (λ v. at_look i s) (to_looks (i + 1)) s (saying_looks (i + 1)) at keeps in
        let P : News → Type 0 = λ n. Reaches KeepsRunning a b (brings n (to_looks (i + 1)) s r) (to_looks (i + 1)) after in
        subst P (same_unread i before lines tells s l l_is keeps)
        (record { to = one.to; server = s; goes = one.goes; at = one.at; keeps = one.keeps });
  }

  pub unread_fails : (status : Status) → BringFails KeepsRunning a b (news_of lines None []) before status → LookFails a b i Failed before status
  unread_fails status fails = record {
    runs = λ r s l l_is at keeps.
        let P : News → Type 0 = λ n. Halts a.told b.told (brings n (to_looks (i + 1)) s r) status in
        subst P (same_unread i before lines tells s l l_is keeps) (fails.runs r (λ v. at_look i s) (to_looks (i + 1)) s (saying_looks (i + 1)) at keeps);
  }

-- of a log that is not there nothing is said
pub absent_brings : (a : Standing) (i : ℕ) (before : Running) → LookBrings a a i Absent before before
absent_brings a i before = record {
  runs = λ r s l l_is at keeps. record { to = looked Absent l i s r; server = s; goes = goes_refl a.told (looked Absent l i s r); at = record { point = refl; still = record { written = at.still.written; paid = at.still.paid } }; keeps = keeps };
}

-- memory ran out behind the look
pub look_lost : (a : Standing) (i : ℕ) (answer : Look) (before : Running) → LookFails a a i answer before NoMemory
look_lost a i answer before = record { runs = λ r s l l_is at keeps. halts_here a.told (looked answer l i s r) }

pub ruleset looking = (file_brings, file_fails, unread_brings, unread_fails, absent_brings, look_lost)

-- ---- a look as the follower asks

-- the world's answer is one to the ask
pub answer_at : (kept : Running) (i : ℕ) (ask : Ask) (answer : Look) → IsAskAt kept.logs i ask → KeepsBounds ask.head ask.from ask.max answer → IsAnswerAt kept i answer
answer_at kept i ask (File file) asks bounds =
    answers_at kept.logs i ask file asks (record {
      head = bounds.0;
      most = (let most : length file.bytes ≡ min ask.max (file.size - ask.from) = bounds.1 in omega arith);
      within = (let most : length file.bytes ≡ min ask.max (file.size - ask.from) = bounds.1 in omega arith);
    })
answer_at kept i ask Absent asks bounds = tt
answer_at kept i ask Failed asks bounds = tt
answer_at kept i ask LookNoMemory asks bounds = tt

-- the log of the server at that place
log_there : (kept : Running) (i : ℕ) → i < length kept.logs.logs → (s : Server) → KeepsRunning s kept → (l : Watching) × (slice_get s.logs i ≡ Some l)
log_there kept i less s keeps = within s.logs (let many = as_many kept.logs.logs s.logs keeps.logs.logs in omega (arith, many, less))
  where
    within : (ws : List Watching) → i < length ws → (l : Watching) × (slice_get ws i ≡ Some l)
    within [] less = absurd (let none : ⊥ = omega (arith, less) in none)
    within (w ∷ ws) less = (get_or (w ∷ ws) i w, slice_get-get_or (w ∷ ws) i w less)

module _ (a b : Standing) (i : ℕ) (path : List ℕ) (ask : Ask) (before : Running) (lies : LiesAt before.logs i path) (asks : AsksAt before.logs i ask) where
  -- an answer leads to where the law says
  event_goes : (answer : Look) → Called a (LookAt path ask.head ask.from ask.max answer) b → (r : Run) (s : Server) (l : Watching) → slice_get s.logs i ≡ Some l → IsAt r (at_look i s) → KeepsRunning s before
      → Goes a.told b.told r (looked answer l i s r)
  event_goes answer call r s l l_is at keeps =
      let path_is : path ≡ l.path = lies (log_jails s) s.logs l keeps.logs l_is in
      let ask_is : ask ≡ ask_in l.watch = asks (log_jails s) s.logs l keeps.logs l_is in
      let P : Option Call → Type 0 = λ c. IsNext c (LookAt path ask.head ask.from ask.max answer) in
      let Q : Option Watching → Type 0 = λ o. Goes a.told b.told r (looked_at o answer i s r) in
      let call_is : look_call i s ≡ Some (log_call l) = ap (λ (o : Option Watching). option_map log_call o) l_is in
      let next : P (look_call i s) = subst P (sym call_is) (path_is, ap (λ (x : Ask). x.head) ask_is, ap (λ (x : Ask). x.from) ask_is, ap (λ (x : Ask). x.max) ask_is) in
      subst Q l_is (turn_goes a b (LookAt path ask.head ask.from ask.max answer) r (AtLook i) s call at next refl)

  asked_goes : (answer : Look) → Asked a (look_event path ask.head ask.from ask.max answer) b → (r : Run) (s : Server) (l : Watching) → slice_get s.logs i ≡ Some l → IsAt r (at_look i s) → KeepsRunning s before
      → Goes a.told b.told r (looked answer l i s r)
  asked_goes (File file) asked r s l l_is at keeps = event_goes (File file) asked r s l l_is at keeps
  asked_goes Absent asked r s l l_is at keeps = event_goes Absent asked r s l l_is at keeps
  asked_goes Failed asked r s l l_is at keeps = event_goes Failed asked r s l l_is at keeps
  asked_goes LookNoMemory asked r s l l_is at keeps =
      let P : Standing → Type 0 = λ x. Goes a.told x.told r r in
      subst P (sym asked) (goes_refl a.told r)

  module _ (c : Standing) (answer : Look) (less : i < length before.logs.logs) (asked : Asked a (look_event path ask.head ask.from ask.max answer) b) where
    pub look_moves : (after : Running) → LookBrings b c i answer before after → Moves KeepsRunning a c (at_look i) (to_looks (i + 1)) before after
    look_moves after brought = record {
      runs = λ r s at keeps.
          let there = log_there before i less s keeps in
          let one = brought.runs r s there.0 there.1 at keeps in
          record {
            to = one.to;
            server = one.server;
            goes = goes_trans a.told b.told c.told r (looked answer there.0 i s r) one.to (asked_goes answer asked r s there.0 there.1 at keeps) one.goes;
            at = one.at;
            keeps = one.keeps;
          };
    }

    pub look_fails : (status : Status) → LookFails b c i answer before status → MoveFails KeepsRunning a c (at_look i) before status
    look_fails status fails = record {
      runs = λ r s at keeps.
          let there = log_there before i less s keeps in
          halts_after a.told b.told c.told r (looked answer there.0 i s r) status (asked_goes answer asked r s there.0 there.1 at keeps) (fails.runs r s there.0 there.1 at keeps);
    }

-- no count fell over a look
pub look_steady : (a b : Standing) (path : List ℕ) (head from max : ℕ) (answer : Look) → Asked a (look_event path head from max answer) b → IsSteady a b
look_steady a b path head from max (File file) asked = steady_call a b (LookAt path head from max (File file)) asked
look_steady a b path head from max Absent asked = steady_call a b (LookAt path head from max Absent) asked
look_steady a b path head from max Failed asked = steady_call a b (LookAt path head from max Failed) asked
look_steady a b path head from max LookNoMemory asked =
    let P : Standing → Type 0 = λ x. IsSteady a x in
    subst P (sym asked) (steady_refl a)

-- and the journal stands where it stood
pub look_placed : (p : Position) (a b : Standing) (path : List ℕ) (head from max : ℕ) (answer : Look) → Asked a (look_event path head from max answer) b → IsPlaced p a.told → IsPlaced p b.told
look_placed p a b path head from max answer asked is = steady_placed p a b (look_steady a b path head from max answer asked) is

pub ruleset asking = (answer_at, look_moves, look_fails, look_steady, look_placed)
