-- Followers that are taken over.
use Rattle.std.proofs.Common.{◌≡◌, ℕ, ◌&&◌, ◌++◌, inl, inr, Bool, true, false, List, [], ◌∷◌, refl, sym, ap, ◌∙◌, subst}
use Rattle.std.specs.Prelude.{bytes_eq}
use Rattle.std.proofs.Props.{props}
use Rattle.std.proofs.lemmas.Bool.{cases_Bool}
use Rattle.f2b_model.specs.Storable.{IsJailName}
use Rattle.log_follow.specs.declared.follower.Follower.{Follower}
use Rattle.log_set.specs.Followers.{is_same, taken_over, taken_over_by}
use Rattle.log_set.specs.Logs.{Watching, Stands, AreLogs, going_on, going_on_as, is_same_log}
use Rattle.log_set.specs.declared.log.Log.{Log}

-- that a text is the name of a jail has one proof at most
IsJailName-prop : (name : List ℕ) → IsProp (IsJailName name)
IsJailName-prop name = hlevel props

-- so a log with another follower is one log, whatever proof it has of that
pub same_over : (l : Log) (follower : Follower) (named : IsJailName l.jail)
    → ◌≡◌ {A = Log} (record { jail = l.jail; path = l.path; follower = follower; named = named }) (record l { follower = follower })
same_over l follower named = λ i. record { jail = l.jail; path = l.path; follower = follower; named = IsJailName-prop l.jail named l.named i }

-- one old log more
pub over_more : (olds : List Log) (old : Log) (logs : List Log) → taken_over (olds ++ old ∷ []) logs ≡ taken_over_by old (taken_over olds logs)
over_more [] old logs = refl
over_more (o ∷ olds) old logs = over_more olds old (taken_over_by o logs)

same_test : (old l : Log) (b a : Watching) → Stands old b → Stands l a → is_same old l ≡ is_same_log b a
same_test old l b a olds ones = λ i. bytes_eq (ones.jail i) (olds.jail i) && bytes_eq (ones.path i) (olds.path i)

over_one : (old : Log) (b : Watching) (ls : List Log) (ws : List Watching) → Stands old b → AreLogs ls ws → AreLogs (taken_over_by old ls) (going_on_as b ws)
over_one old b [] [] stands logs = tt
over_one old b [] (a ∷ ws) stands logs = absurd logs
over_one old b (l ∷ ls) [] stands logs = absurd logs
over_one old b (l ∷ ls) (a ∷ ws) stands logs = elim (cases_Bool (is_same_log b a)) [
  | inl passes ↦
      let also : is_same old l ≡ true = same_test old l b a stands logs.0 ∙ passes in
      rw (passes, also) (record { jail = logs.0.jail; path = logs.0.path; watch = stands.watch }, logs.1)
  | inr fails ↦
      let also : is_same old l ≡ false = same_test old l b a stands logs.0 ∙ fails in
      rw (fails, also) (logs.0, over_one old b ls ws stands logs.1)
]

-- the logs of a set that take the followers of others over stand for those that go on
pub over_all : (os : List Log) (olds : List Watching) (ls : List Log) (ws : List Watching) → AreLogs os olds → AreLogs ls ws → AreLogs (taken_over os ls) (going_on olds ws)
over_all [] [] ls ws stand logs = logs
over_all [] (b ∷ olds) ls ws stand logs = absurd stand
over_all (o ∷ os) [] ls ws stand logs = absurd stand
over_all (o ∷ os) (b ∷ olds) ls ws stand logs = over_all os olds (taken_over_by o ls) (going_on_as b ws) stand.1 (over_one o b ls ws stand.0 logs)
