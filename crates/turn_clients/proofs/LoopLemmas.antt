-- One client behind the other.
use Rattle.std.proofs.Common.{ℕ, ◌≡◌, ◌≤◌, ◌<◌, ◌-◌, length, Option, Some, None, refl, subst, sym, arith}
use Rattle.std.specs.Prelude.{IfSome}
use Rattle.client_table.specs.Clients.{most_clients}
use Rattle.f2b_world.specs.Told.{Standing}
use Rattle.run_law.specs.Points.{Point}
use Rattle.run_law.specs.Reload.{at_reload}
use Rattle.run_law.specs.Server.{Server}
use Rattle.run_law.specs.Stages.{MoveFails, Moves}
use Rattle.run_law.specs.Turn.{behind_client, to_accept, to_clients, to_starts}
use Rattle.run_law.specs.declared.status.Status.{Status}
use Rattle.run_law.proofs.StageLemmas.{move_fails_on, moves_as, moves_none, moves_trans}
use Rattle.run_steps.specs.Keeping.{KeepsRunning}
use Rattle.run_steps.specs.declared.running.Running.{Running}
use Rattle.turn_clients.specs.Serving.{AsksBehind, IsAsking, IsFarther, IsNearer, behind as left_behind, onward_from, served_to}
use Rattle.turn_clients.proofs.ServingLemmas.{clients_past}

module _ (from : ℕ) where
  pub clients_begin : (a : Standing) (kept : Running) → Moves KeepsRunning a a (to_clients from) (to_clients from) kept kept
  clients_begin a kept = moves_none KeepsRunning a (to_clients from) kept

  module _ (a b : Standing) (place : ℕ) (before between : Running) (moves : Moves KeepsRunning a b (to_clients from) (to_clients place) before between) where
    pub clients_on : (c : Standing) (o : Option ℕ) (next : ℕ) (after : Running) → o ≡ Some next → Moves KeepsRunning b c (to_clients place) (onward_from o place) between after
        → Moves KeepsRunning a c (to_clients from) (to_clients next) before after
    clients_on c o next after is more =
        let P : Option ℕ → Type 0 = λ x. Moves KeepsRunning b c (to_clients place) (onward_from x place) between after in
        moves_trans KeepsRunning a b c (to_clients from) (to_clients place) (to_clients next) before between after moves (subst P is more)

    -- one asked for the configuration
    pub clients_asked : (c : Standing) (o : Option ℕ) (after : Running) → o ≡ None → Moves KeepsRunning b c (to_clients place) (onward_from o place) between after
        → Moves KeepsRunning a c (to_clients from) (served_to (Some place)) before after
    clients_asked c o after is more =
        let P : Option ℕ → Type 0 = λ x. Moves KeepsRunning b c (to_clients place) (onward_from x place) between after in
        moves_trans KeepsRunning a b c (to_clients from) (to_clients place) (at_reload place) before between after moves (subst P is more)

    pub clients_end : length between.clients ≤ place → Moves KeepsRunning a b (to_clients from) (served_to None) before between
    clients_end past = moves_as KeepsRunning a b (to_clients from) (to_clients from) to_starts (to_clients place) before between (λ s keeps. refl) (clients_past between place past) moves

    pub clients_fail : (c : Standing) (status : Status) → MoveFails KeepsRunning b c (to_clients place) between status → MoveFails KeepsRunning a c (to_clients from) before status
    clients_fail c status fails = move_fails_on KeepsRunning a b c (to_clients from) (to_clients place) before between status moves fails

-- ---- how many are behind a place

pub on_nearer : (before after : Running) (place next : ℕ) (o : Option ℕ) → o ≡ Some next → IsNearer before place after o → left_behind next after < left_behind place before
on_nearer before after place next o is nearer = let P : Option ℕ → Type 0 = λ x. IsNearer before place after x in subst P is nearer

-- the one that asked is still there
pub asked_there : (before between after : Running) (from place : ℕ) (o : Option ℕ) → o ≡ None → IsNearer between place after o → place < length between.clients
    → left_behind place between ≤ left_behind from before → AsksBehind before from after (Some place)
asked_there before between after from place o is nearer within few =
    let P : Option ℕ → Type 0 = λ x. IsNearer between place after x in
    let there : IsNearer between place after None = subst P is nearer in
    let same : length after.clients ≡ length between.clients = there.0 in
    (record { within = omega (arith, same, within); written = there.1 }, omega (arith, same, few))

-- and no more than there may be are there
pub asked_few : (between after : Running) (place : ℕ) (o : Option ℕ) → o ≡ None → IsNearer between place after o → length between.clients ≤ most_clients → length after.clients ≤ most_clients
asked_few between after place o is nearer few =
    let P : Option ℕ → Type 0 = λ x. IsNearer between place after x in
    let there : IsNearer between place after None = subst P is nearer in
    let same : length after.clients ≡ length between.clients = there.0 in
    omega (arith, same, few)

pub asked_within : (before after : Running) (from : ℕ) (o : Option ℕ) → AsksBehind before from after o → IfSome o (λ place. IsAsking place after)
asked_within before after from None asked = tt
asked_within before after from (Some place) asked = asked.0

-- behind one that was served there are fewer
pub asked_farther : (before between after : Running) (place next : ℕ) (o : Option ℕ) → left_behind next between < left_behind place before → AsksBehind between next after o → IsFarther before place after o
asked_farther before between after place next None fewer asked = tt
asked_farther before between after place next (Some there) fewer asked = (asked.0, omega (arith, fewer, asked.1))

-- ---- from another point

module _ (a b : Standing) (at : Server → Point) (from : ℕ) (before between : Running) (moves : Moves KeepsRunning a b at (to_clients from) before between) where
  pub stage_moves : (c : Standing) (o : Option ℕ) (after : Running) → Moves KeepsRunning b c (to_clients from) (served_to o) between after → Moves KeepsRunning a c at (served_to o) before after
  stage_moves c o after more = moves_trans KeepsRunning a b c at (to_clients from) (served_to o) before between after moves more

  pub stage_fails : (c : Standing) (status : Status) → MoveFails KeepsRunning b c (to_clients from) between status → MoveFails KeepsRunning a c at before status
  stage_fails c status fails = move_fails_on KeepsRunning a b c at (to_clients from) before between status moves fails

pub ruleset clients = (clients_begin, clients_on, clients_asked, clients_end, clients_fail, on_nearer, asked_there, asked_few)

pub ruleset stage = (stage_moves, stage_fails, asked_within, asked_farther)
