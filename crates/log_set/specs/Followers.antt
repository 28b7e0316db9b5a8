-- Followers that are taken over by the logs of another set.
use Rattle.std.specs.Prelude.{ℕ, Bool, ◌&&◌, List, [], ◌∷◌, bytes_eq}
use Rattle.log_set.specs.Firsts.{at_first}
use Rattle.log_set.specs.declared.log.Log.{Log}

-- a log of the same jail and path
abbrev pub is_same : Log → Log → Bool
is_same old log = bytes_eq log.jail old.jail && bytes_eq log.path old.path

-- the first log of the same jail and path takes over the old one's follower
abbrev pub taken_over_by : Log → List Log → List Log
taken_over_by old logs = at_first (is_same old) (λ (log : Log). record log { follower = old.follower }) logs

-- one old log after the other
abbrev pub taken_over : List Log → List Log → List Log
taken_over [] logs = logs
taken_over (old ∷ olds) logs = taken_over olds (taken_over_by old logs)
