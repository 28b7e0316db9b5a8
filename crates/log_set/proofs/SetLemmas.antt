-- What a set stands for, where one of its parts is changed.
use Rattle.std.proofs.Common.{◌≡◌, ℕ, zero, suc, ◌+◌, ◌<◌, ◌++◌, inl, inr, Bool, true, false, List, [], ◌∷◌, length, map, drop, Option, Some, None, IfSome, get_or, refl, sym, ap, ◌∙◌, subst}
use Rattle.std.specs.Prelude.{slice_get, slice_set, option_map, find, position, bytes_eq}
use Rattle.std.specs.List.{position_from}
use Rattle.std.proofs.lemmas.Bool.{cases_Bool}
use Rattle.std.proofs.lemmas.List.{set-get_or}
use Rattle.std.proofs.lemmas.Option.{same_Some}
use Rattle.std.proofs.lemmas.Iterator.Adapters.{position_from-zero}
use Rattle.f2b_base.specs.declared.ban.Failure.{Failure}
use Rattle.f2b_base.specs.declared.input.What.{What}
use Rattle.f2b_base.specs.declared.jail.Place.{Place}
use Rattle.f2b_base.specs.declared.outside.FileLook.{FileLook}
use Rattle.log_follow.specs.Followed.{StandsFor}
use Rattle.log_follow.specs.Watches.{Answers, Watch, looked}
use Rattle.log_follow.specs.declared.line.Line.{Line}
use Rattle.log_follow.specs.declared.step.Ask.{Ask}
use Rattle.log_follow.specs.declared.step.Step.{Step}
use Rattle.log_set.specs.Changes.{jail_changed, search_changed, searches_changed}
use Rattle.log_set.specs.Firsts.{at_first}
use Rattle.log_set.specs.Logs.{Logs, LogJail, Watching, Stands, AnswersAt, AreLogs, IsAskAt, IsLogRead, IsSetOf, MovesAt, TakesAt, after_look, finds_of, is_of, is_rotated, is_looked_at, jail_of, read_of, search_of, taken_of}
use Rattle.log_set.specs.Places.{looked_of}
use Rattle.log_set.specs.Searches.{failures_by, failures_of, is_awake, is_log_awake, is_named}
use Rattle.log_set.specs.declared.change.Change.{Change}
use Rattle.log_set.specs.declared.change.Change.TheVariants.{Ignore, Findtime, Idle}
use Rattle.log_set.specs.declared.jail_search.JailSearch.{JailSearch}
use Rattle.log_set.specs.declared.log.Log.{Log}
use Rattle.log_set.specs.declared.log.Looked.{Looked}
use Rattle.log_set.specs.declared.taken.Taken.{Taken}

-- ---- logs by their places

-- the log at a place stands for the one there
pub stands_at : (k : ℕ) (ls : List Log) (ws : List Watching) (l : Log) (a : Watching) → AreLogs ls ws → slice_get ls k ≡ Some l → slice_get ws k ≡ Some a → Stands l a
stands_at k [] ws l a stand l_is a_is = absurd (let none : None ≡ Some l = l_is in cc)
stands_at k (x ∷ ls) [] l a stand l_is a_is = absurd stand
stands_at zero (x ∷ ls) (b ∷ ws) l a stand l_is a_is =
    subst (λ (m : Log). Stands m a) (same_Some _ _ l_is) (subst (λ (c : Watching). Stands x c) (same_Some _ _ a_is) stand.0)
stands_at (suc k) (x ∷ ls) (b ∷ ws) l a stand l_is a_is = stands_at k ls ws l a stand.1 l_is a_is

-- one log is changed
pub stand_set : (k : ℕ) (ls : List Log) (ws : List Watching) (l : Log) (a : Watching) → AreLogs ls ws → Stands l a → AreLogs (slice_set ls k l) (slice_set ws k a)
stand_set k [] [] l a stand one = tt
stand_set k [] (b ∷ ws) l a stand one = absurd stand
stand_set k (x ∷ ls) [] l a stand one = absurd stand
stand_set zero (x ∷ ls) (b ∷ ws) l a stand one = (one, stand.1)
stand_set (suc k) (x ∷ ls) (b ∷ ws) l a stand one = (stand.0, stand_set k ls ws l a stand.1 one)

-- one log more
pub stand_more : (ls : List Log) (ws : List Watching) (l : Log) (a : Watching) → AreLogs ls ws → Stands l a → AreLogs (ls ++ l ∷ []) (ws ++ a ∷ [])
stand_more [] [] l a stand one = (one, tt)
stand_more [] (b ∷ ws) l a stand one = absurd stand
stand_more (x ∷ ls) [] l a stand one = absurd stand
stand_more (x ∷ ls) (b ∷ ws) l a stand one = (stand.0, stand_more ls ws l a stand.1 one)

-- the logs behind the first ones
stand_behind : (n : ℕ) (ls : List Log) (ws : List Watching) → AreLogs ls ws → AreLogs (drop n ls) (drop n ws)
stand_behind zero ls ws stand = stand
stand_behind (suc n) [] [] stand = tt
stand_behind (suc n) [] (b ∷ ws) stand = absurd stand
stand_behind (suc n) (x ∷ ls) [] stand = absurd stand
stand_behind (suc n) (x ∷ ls) (b ∷ ws) stand = stand_behind n ls ws stand.1

-- there are as many logs as there are followed
pub as_many : (ls : List Log) (ws : List Watching) → AreLogs ls ws → length ls ≡ length ws
as_many [] [] stand = refl
as_many [] (b ∷ ws) stand = absurd stand
as_many (x ∷ ls) [] stand = absurd stand
as_many (x ∷ ls) (b ∷ ws) stand = ap suc (as_many ls ws stand.1)

-- a look that answers what was asked of the log at a place
pub answers_at : (s : Logs) (k : ℕ) (ask : Ask) (look : FileLook) → IsAskAt s k ask → Answers ask look → AnswersAt s k look
answers_at s k ask look asks answers l l_is = subst (λ (a : Ask). Answers a look) (asks l l_is) answers

-- ---- jails by their names

-- what is told of the search of a name is what is told of the jail
pub same_of_jail : {X : Type 0} (f : JailSearch → X) (g : LogJail → X) → ((j : LogJail) → f (search_of j) ≡ g j) → (name : List ℕ) (js : List LogJail)
    → option_map f (find (is_named name) (map search_of js)) ≡ option_map g (find (is_of name) js)
same_of_jail f g same name [] = refl
same_of_jail f g same name (j ∷ js) = elim (cases_Bool (bytes_eq j.definition.name name)) [
  | inl passes ↦ rw passes (ap Some (same j))
  | inr fails ↦ rw fails (same_of_jail f g same name js)
]

-- a change of the search of a name is that of the jail
pub same_change : (f : JailSearch → JailSearch) (g : LogJail → LogJail) → ((j : LogJail) → f (search_of j) ≡ search_of (g j)) → (name : List ℕ) (js : List LogJail)
    → at_first (is_named name) f (map search_of js) ≡ map search_of (at_first (is_of name) g js)
same_change f g same name [] = refl
same_change f g same name (j ∷ js) = elim (cases_Bool (bytes_eq j.definition.name name)) [
  | inl passes ↦ rw passes (ap (λ k. k ∷ map search_of js) (same j))
  | inr fails ↦ rw fails (ap (λ ks. search_of j ∷ ks) (same_change f g same name js))
]

same_search : (change : Change) (j : LogJail) → search_changed change (search_of j) ≡ search_of (jail_changed change j)
same_search (Ignore masks) j = refl
same_search (Findtime secs) j = refl
same_search (Idle idle) j = refl

-- a set where a jail is changed by its name
pub changes : (change : Change) (name : List ℕ) (old new : Logs) (js : List LogJail) (ws : List Watching) → new.jails ≡ searches_changed name change old.jails
    → new.logs ≡ old.logs → IsSetOf old js ws → IsSetOf new (at_first (is_of name) (jail_changed change) js) ws
changes change name old new js ws jails logs is = record {
  searches = jails ∙ ap (searches_changed name change) is.searches ∙ same_change (search_changed change) (jail_changed change) (same_search change) name js;
  logs = subst (λ (ls : List Log). AreLogs ls ws) (sym logs) is.logs;
}

-- ---- the next log

awake_same : (js : List LogJail) (l : Log) (a : Watching) → Stands l a → is_log_awake (map search_of js) l ≡ is_looked_at js a
awake_same js l a one =
    ap (λ (name : List ℕ). is_awake (option_map (λ (j : JailSearch). j.idle) (find (is_named name) (map search_of js)))) one.jail
    ∙ ap is_awake (same_of_jail (λ (j : JailSearch). j.idle) (λ (j : LogJail). j.idle) (λ j. refl) a.jail js)

next_from : (js : List LogJail) (i : ℕ) (ls : List Log) (ws : List Watching) → AreLogs ls ws
    → position_from (is_log_awake (map search_of js)) i ls ≡ position_from (is_looked_at js) i ws
next_from js i [] [] stand = refl
next_from js i [] (b ∷ ws) stand = absurd stand
next_from js i (x ∷ ls) [] stand = absurd stand
next_from js i (x ∷ ls) (b ∷ ws) stand = rw (awake_same js x b stand.0, next_from js (i + 1) ls ws stand.1) refl

-- the first log behind the first ones that is looked at
pub next_same : (js : List LogJail) (n : ℕ) (ls : List Log) (ws : List Watching) → AreLogs ls ws
    → position (is_log_awake (map search_of js)) (drop n ls) ≡ position (is_looked_at js) (drop n ws)
next_same js n ls ws stand =
    position_from-zero (is_log_awake (map search_of js)) (drop n ls)
    ∙ next_from js 0 (drop n ls) (drop n ws) (stand_behind n ls ws stand)
    ∙ sym (position_from-zero (is_looked_at js) (drop n ws))

-- ---- what is taken of a look

-- an item written over itself
pub same_set : {A : Type 0} (xs : List A) (i : ℕ) (x y : A) → x ≡ get_or xs i x → y ≡ x → slice_set xs i y ≡ xs
same_set xs i x y is same = ap (slice_set xs i) (same ∙ is) ∙ set-get_or xs i x

finds_same : (name : List ℕ) (now : ℕ) (js : List LogJail) → option_map (λ (j : JailSearch). failures_by j now) (find (is_named name) (map search_of js)) ≡ finds_of name now js
finds_same name now js = same_of_jail (λ (j : JailSearch). failures_by j now) (λ (j : LogJail). failures_of j.definition now) (λ j. refl) name js

pub taken_at : (s : Logs) (k now : ℕ) (look : FileLook) (l : Log) (new : Log) (l_now : Looked) (t : Taken) → slice_get s.logs k ≡ Some l
    → ((w : Watch) → StandsFor l.follower w → l_now ≡ looked_of w look) → new.jail ≡ l.jail → new.path ≡ l.path
    → t.read ≡ read_of (option_map (λ (j : JailSearch). failures_by j now) (find (is_named new.jail) s.jails)) new.jail new.path l_now
    → t.rotated ≡ is_rotated l_now.step → TakesAt s k now look t
taken_at s k now look l new l_now t l_is brings jail path read rotated js ws a is a_is =
    let one = stands_at k s.logs ws l a is.logs l_is a_is in
    let jail_is : new.jail ≡ a.jail = jail ∙ one.jail in
    let path_is : new.path ≡ a.path = path ∙ one.path in
    let looked_is : l_now ≡ looked_of a.watch look = brings a.watch one.watch in
    let read_is : t.read ≡ read_of (finds_of a.jail now js) a.jail a.path (looked_of a.watch look) =
    read
    ∙ (λ i. read_of (option_map (λ (j : JailSearch). failures_by j now) (find (is_named (jail_is i)) (is.searches i))) (jail_is i) (path_is i) (looked_is i))
    ∙ ap (λ finds. read_of finds a.jail a.path (looked_of a.watch look)) (finds_same a.jail now js) in
    let rotated_is : t.rotated ≡ is_rotated (looked a.watch look).1 = rotated ∙ ap (λ (m : Looked). is_rotated m.step) looked_is in
    λ i. record { read = read_is i; rotated = rotated_is i }

-- an input of a look is that its log was read
reads_to : (finds : Option (List Line → List Failure)) (jail path : List ℕ) (step : Step) (moved : Option Place) → IfSome (read_of finds jail path (record { step = step; moved = moved })) IsLogRead
reads_to None jail path step moved = tt
reads_to (Some find) jail path step None = tt
reads_to (Some find) jail path step (Some place) = tt

pub reads : (finds : Option (List Line → List Failure)) (jail path : List ℕ) (l : Looked) (read : Option What) → read ≡ read_of finds jail path l → IfSome read IsLogRead
reads finds jail path l read is =
    let P : Option What → Type 0 = λ o. IfSome o IsLogRead in
    subst P (sym is) (reads_to finds jail path l.step l.moved)

-- where the set comes to
pub moved_at : (old new : Logs) (k : ℕ) (look : FileLook) (l m : Log) → new.jails ≡ old.jails → new.logs ≡ slice_set old.logs k m → slice_get old.logs k ≡ Some l
    → m.jail ≡ l.jail → m.path ≡ l.path → ((w : Watch) → StandsFor l.follower w → StandsFor m.follower (looked w look).0) → MovesAt old new k look
moved_at old new k look l m jails logs l_is jail path moves js ws a is a_is =
    let one = stands_at k old.logs ws l a is.logs l_is a_is in
    record {
      searches = jails ∙ is.searches;
      logs = subst (λ (ls : List Log). AreLogs ls (slice_set ws k (after_look look a))) (sym logs)
          (stand_set k old.logs ws m (after_look look a) is.logs (record {
            jail = jail ∙ one.jail;
            path = path ∙ one.path;
            watch = moves a.watch one.watch;
          }));
    }
