-- What the set of the logs takes over of a look, the lines that are told of a log, and what an event brings beside the logs.
use Rattle.std.proofs.Common.{◌≡◌, ℕ, Bool, true, false, List, [], ◌∷◌, Option, Some, None, IfSome, sym, ap, ◌∙◌, subst}
use Rattle.f2b_base.specs.declared.input.What.{What}
use Rattle.f2b_base.specs.declared.input.What.TheVariants.{Read}
use Rattle.f2b_base.specs.declared.outside.FileLook.{FileLook}
use Rattle.f2b_world.specs.Told.{Standing}
use Rattle.log_set.specs.Logs.{BelongsTo, IsLogRead, LiesAt, MovesAt, TakesAt, taken_of}
use Rattle.log_set.specs.declared.taken.Taken.{Taken}
use Rattle.run_law.specs.Looks.{look_taken, now_is, rotated_lines}
use Rattle.run_law.specs.Said.{rotated_line, unread_line}
use Rattle.run_law.specs.Server.{log_jails}
use Rattle.run_law.specs.Stages.{Brings}
use Rattle.run_law.proofs.JailLemmas.{read_jails}
use Rattle.run_steps.specs.Keeping.{KeepsClocked, KeepsRunning, news_of}
use Rattle.run_steps.specs.declared.clocked.Clocked.{Clocked}
use Rattle.run_steps.specs.declared.running.Running.{Running}
use Rattle.run_steps.proofs.RunningLemmas.{LeavesJails, bring_beside, bring_fails_beside, clocked_as}
use Rattle.turn_logs.specs.Looking.{TakesLook, TellsRotated, TellsUnread}

-- ---- the input of a look

read_leaves : (what : What) → IsLogRead what → LeavesJails what
read_leaves (Read jail path place found) is s = read_jails jail path place found s
read_leaves _ is s = absurd is

-- it leaves the jails as the set of the logs has them
reads_leave : (what : Option What) → IfSome what IsLogRead → IfSome what LeavesJails
reads_leave None is = tt
reads_leave (Some what) is = read_leaves what is

-- and is taken beside the logs
pub read_beside : (a b : Standing) (kept : Running) (after : Clocked) (pre post : List (List ℕ)) (what : Option What) → IfSome what IsLogRead → Brings KeepsClocked a b (news_of pre what post) kept.clocked after
    → Brings KeepsRunning a b (news_of pre what post) kept (clocked_as kept after)
read_beside a b kept after pre post what is brought = bring_beside kept after a b pre post what (reads_leave what is) brought

pub ruleset bringing = (read_beside, bring_fails_beside)

-- ---- a look that the set of the logs takes over

pub took_look : (before after : Running) (i : ℕ) (file : FileLook) (t : Taken) → after.clocked ≡ before.clocked → after.children ≡ before.children → after.clients ≡ before.clients → after.left ≡ before.left
    → MovesAt before.logs after.logs i file → TakesAt before.logs i before.clocked.now file t → TakesLook before i file after t
unfolding look_taken
took_look before after i file t clocked children clients left moves takes = record {
  keeps = λ s l l_is keeps. record {
    clocked = (let P : Clocked → Type 0 = λ c. KeepsClocked (now_is i l file s) c in
        subst P (sym clocked) (record { core = keeps.clocked.core; sound = keeps.clocked.sound; journal = keeps.clocked.journal; now = keeps.clocked.now; word = keeps.clocked.word }));
    logs = moves (log_jails s) s.logs l keeps.logs l_is;
    children = children ∙ keeps.children;
    clients = clients ∙ keeps.clients;
    left = left ∙ keeps.left;
  };
  takes = λ s l l_is keeps. takes (log_jails s) s.logs l keeps.logs l_is ∙ ap (λ now. taken_of (log_jails s) now l file) keeps.clocked.now;
}

-- ---- the lines that are told of a log

module _ (kept : Running) (i : ℕ) where
  pub tells_rotated : (rotated : Bool) (jail path line : List ℕ) → rotated ≡ true → BelongsTo kept.logs i jail → LiesAt kept.logs i path → line ≡ rotated_line kept.clocked.now jail path
      → TellsRotated kept i rotated (line ∷ [])
  tells_rotated rotated jail path line is jail_is path_is line_is = record {
    tells = λ s l l_is keeps.
        let now = keeps.clocked.now in
        let jail_now = jail_is (log_jails s) s.logs l keeps.logs l_is in
        let path_now = path_is (log_jails s) s.logs l keeps.logs l_is in
        let same : line ≡ rotated_line s.now l.jail l.path = line_is ∙ (λ j. rotated_line (now j) (jail_now j) (path_now j)) in
        ap (λ (x : List ℕ). x ∷ []) same ∙ ap (λ (b : Bool). rotated_lines s.now l b) (sym is);
  }

  pub tells_none : (rotated : Bool) → rotated ≡ false → TellsRotated kept i rotated []
  tells_none rotated is = record { tells = λ s l l_is keeps. ap (λ (b : Bool). rotated_lines s.now l b) (sym is) }

  pub tells_unread : (jail path line : List ℕ) → BelongsTo kept.logs i jail → LiesAt kept.logs i path → line ≡ unread_line kept.clocked.now jail path → TellsUnread kept i (line ∷ [])
  tells_unread jail path line jail_is path_is line_is = record {
    tells = λ s l l_is keeps.
        let now = keeps.clocked.now in
        let jail_now = jail_is (log_jails s) s.logs l keeps.logs l_is in
        let path_now = path_is (log_jails s) s.logs l keeps.logs l_is in
        ap (λ (x : List ℕ). x ∷ []) (line_is ∙ (λ j. unread_line (now j) (jail_now j) (path_now j)));
  }

pub ruleset telling = (tells_rotated, tells_none, tells_unread)
