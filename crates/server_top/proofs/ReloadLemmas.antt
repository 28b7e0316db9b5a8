-- A run from its first turn on, over the configurations that are taken.
use Rattle.std.proofs.Common.{ℕ, ◌≡◌, ◌≤◌, ◌<◌, ◌+◌, length, List, [], Option, Some, None, sym, ap, ◌∙◌, subst, arith}
use Rattle.std.specs.Prelude.{IfSome}
use Rattle.child_table.specs.Children.{Children, nobody}
use Rattle.client_table.specs.Clients.{Client}
use Rattle.f2b_world.specs.Told.{Standing}
use Rattle.jail_conf.specs.declared.settings.Settings.{Settings}
use Rattle.log_set.specs.Logs.{IsSetOf, Logs, Watching}
use Rattle.run_law.specs.Law.{Halts, opening}
use Rattle.run_law.specs.Logs.{logs_of}
use Rattle.run_law.specs.Points.{Point, Run}
use Rattle.run_law.specs.Reload.{at_reload, reloaded}
use Rattle.run_law.specs.Server.{Server, following, jails, log_jails}
use Rattle.run_law.specs.Stages.{IsAt, IsSteady, MoveFails, Reaches}
use Rattle.run_law.specs.Turn.{behind_client}
use Rattle.run_law.specs.declared.plan.Plan.{Plan}
use Rattle.run_law.specs.declared.status.Status.{Status}
use Rattle.run_law.specs.declared.status.Status.TheVariants.{NoMemory, TurnsSpent}
use Rattle.run_law.proofs.FieldLemmas.{goes_plan}
use Rattle.run_law.proofs.PointLemmas.{goes_trans, halts_after, halts_here}
use Rattle.run_start.specs.First.{KeepsFirst}
use Rattle.run_start.specs.Followed.{FollowsAll}
use Rattle.run_steps.specs.Keeping.{KeepsRunning}
use Rattle.run_steps.specs.declared.clocked.Clocked.{Clocked}
use Rattle.run_steps.specs.declared.running.Running.{Running}
use Rattle.server_top.specs.Prepared.{PlanHalts, Prepares}
use Rattle.server_top.specs.Reloads.{FirstHalts, FirstTakes, NextHalts, NextTakes, StandsAsked, StandsAt, StandsTaken, TakeHalts, Takes, left_at, left_behind, left_in}
use Rattle.server_top.specs.Ticks.{at_clock}
use Rattle.server_top.specs.Turns.{Asks, GoesOn, left_of}
use Rattle.server_top.proofs.ServeLemmas.{halts_by, told_before}
use Rattle.turn_reload.specs.Reloading.{FollowsOn, ReadsTo, RereadFails}
use Rattle.turn_reload.specs.Taking.{KeepsReloaded}
use Rattle.turn_reload.specs.declared.reloaded.Reloaded.{Reloaded}

-- ---- from where a run stands

module _ {C : Type 0} (Keeps : Server → C → Type 0) (a b : Standing) (plan : Plan) (from : Server → Point) (before : C) (stands : StandsAt Keeps a b plan from before) where
  -- memory ran out there
  stands_short : PlanHalts a b plan NoMemory
  stands_short = record {
    runs = λ slots holds sound. halts_by a.told b.told (opening plan slots) NoMemory (λ h told.
        let one = stands.runs slots holds sound h told in
        halts_after a.told b.told b.told (opening plan slots) one.to NoMemory one.goes (halts_here b.told one.to));
  }

  module _ (c : Standing) (steady : IsSteady b c) where
    -- A run of this plan goes on from there.
    stands_on : {D : Type 0} (Has : Server → D → Type 0) (to : Server → Point) (after : D)
        → ((r : Run) (s : Server) → r.plan ≡ plan → IsAt r (from s) → Keeps s before → Reaches Has b c r to after) → StandsAt Has a c plan to after
    stands_on Has to after goes = record {
      runs = λ slots holds sound h told.
          let g = told_before b.told c.told steady.history h told in
          let one = stands.runs slots holds sound g.0 g.1 in
          let two = goes one.to one.server (goes_plan a.told b.told (opening plan slots) one.to one.goes g.0 g.1) one.at one.keeps in
          record {
            to = two.to;
            server = two.server;
            goes = goes_trans a.told b.told c.told (opening plan slots) one.to two.to one.goes two.goes;
            at = two.at;
            keeps = two.keeps;
          };
    }

    -- or it ends there
    stands_halt : (status : Status) → ((r : Run) (s : Server) → r.plan ≡ plan → IsAt r (from s) → Keeps s before → Halts b.told c.told r status) → PlanHalts a c plan status
    stands_halt status halts = record {
      runs = λ slots holds sound. halts_by a.told c.told (opening plan slots) status (λ h told.
          let g = told_before b.told c.told steady.history h told in
          let one = stands.runs slots holds sound g.0 g.1 in
          let of_plan = goes_plan a.told b.told (opening plan slots) one.to one.goes g.0 g.1 in
          halts_after a.told b.told c.told (opening plan slots) one.to status one.goes (halts one.to one.server of_plan one.at one.keeps));
    }

module _ (a b : Standing) (plan : Plan) (from : Server → Point) (before : Running) (stands : StandsAt KeepsRunning a b plan from before) (c : Standing) (steady : IsSteady b c) where
  stands_fail : (status : Status) → MoveFails KeepsRunning b c from before status → PlanHalts a c plan status
  stands_fail status fails = stands_halt KeepsRunning a b plan from before stands c steady status (λ r s of at keeps. fails.runs r s at keeps)

  -- up to a client that asks for a reload
  stands_asked : (o : Option (Running × ℕ)) → GoesOn b c from before o → StandsAsked a c plan o
  stands_asked None goes = stands_fail TurnsSpent goes
  stands_asked (Some r) goes = stands_on KeepsRunning a b plan from before stands c steady KeepsRunning (at_reload r.1) r.0 (λ r s of at keeps. goes.runs r s at keeps)

-- ---- until a configuration is taken

-- wherever the run began, one that stood there stands here
pub record AsksOn (old new : Standing) (plan : Plan) (before after : Option (Running × ℕ)) : Type 0 where
  pub goes : (begun : Standing) → StandsAsked begun old plan before → StandsAsked begun new plan after

pub asks_none : (a : Standing) (plan : Plan) (o : Option (Running × ℕ)) → AsksOn a a plan o o
asks_none a plan o = record { goes = λ begun stands. stands }

-- all turns were made
pub until_none : {A : Type 0} (a b : Standing) (plan : Plan) (first o : Option (Running × ℕ)) → o ≡ None → AsksOn a b plan first o → Takes a b plan first (let n : Option (A × Reloaded × ℕ) = None in n)
until_none a b plan first o is asks = record { goes = λ begun stands. let P : Option (Running × ℕ) → Type 0 = λ x. StandsAsked begun b plan x in subst P is (asks.goes begun stands) }

module _ (a b : Standing) (plan : Plan) (first o : Option (Running × ℕ)) (before : Running) (place : ℕ) (is : o ≡ Some (before, place)) (asks : AsksOn a b plan first o) (c : Standing) (steady : IsSteady b c) where
  stands_there : (begun : Standing) → StandsAsked begun a plan first → StandsAt KeepsRunning begun b plan (at_reload place) before
  stands_there begun stands = let P : Option (Running × ℕ) → Type 0 = λ x. StandsAsked begun b plan x in subst P is (asks.goes begun stands)

  pub until_unread : (status : Status) → RereadFails b c plan place before status → TakeHalts a c plan first status
  until_unread status fails = record { goes = λ begun stands. stands_halt KeepsRunning begun b plan (at_reload place) before (stands_there begun stands) c steady status fails.runs }

  pub until_taken : {A : Type 0} (filters : A) (after : Reloaded) → ReadsTo KeepsReloaded b c plan place (reloaded place) before after → Takes a c plan first (Some (filters, after, place))
  until_taken filters after reads = record {
    goes = λ begun stands. stands_on KeepsRunning begun b plan (at_reload place) before (stands_there begun stands) c steady KeepsReloaded (reloaded place) after reads.runs;
  }

  module _ (after : Running) (reads : ReadsTo KeepsRunning b c plan place (behind_client place) before after) (d : Standing) (on : IsSteady c d) where
    stands_behind : (begun : Standing) → StandsAsked begun a plan first → StandsAt KeepsRunning begun c plan (behind_client place) after
    stands_behind begun stands = stands_on KeepsRunning begun b plan (at_reload place) before (stands_there begun stands) c steady KeepsRunning (behind_client place) after reads.runs

    pub until_fail : (status : Status) → MoveFails KeepsRunning c d (behind_client place) after status → TakeHalts a d plan first status
    until_fail status fails = record { goes = λ begun stands. stands_fail begun c plan (behind_client place) after (stands_behind begun stands) d on status fails }

    pub asks_on : (next : Option (Running × ℕ)) → GoesOn c d (behind_client place) after next → AsksOn a d plan first next
    asks_on next goes = record { goes = λ begun stands. stands_asked begun c plan (behind_client place) after (stands_behind begun stands) d on next goes }

-- ---- what is known of a client that asks

pub asks_some : (o : Option (Running × ℕ)) (before : Running) (place : ℕ) → o ≡ Some (before, place) → IfSome o (λ r. Asks r.0 r.1) → Asks before place
asks_some o before place is asks = let P : Option (Running × ℕ) → Type 0 = λ x. IfSome x (λ r. Asks r.0 r.1) in subst P is asks

left_some : (o : Option (Running × ℕ)) (before : Running) (place : ℕ) → o ≡ Some (before, place) → left_in o ≡ left_of before place + 1
left_some o before place is = ap left_in is

-- a configuration that is taken takes no turn, and no client
pub until_fewer : (before : Running) (after : Reloaded) (place : ℕ) → length after.clients ≡ length before.clients → after.left ≡ before.left → left_at after place ≡ left_of before place + 1
until_fewer before after place many left = omega (arith, many, left)

-- and neither does one that is not
pub untaken_left : (before after : Running) (place : ℕ) → length after.clients ≡ length before.clients → after.left ≡ before.left → left_of after place ≡ left_of before place
untaken_left before after place many left = omega (arith, many, left)

pub next_fewer : (before : Running) (place : ℕ) (o : Option (Running × ℕ)) → IfSome o (λ r. left_of r.0 r.1 < left_of before place) → left_in o < left_of before place + 1
next_fewer before place None fewer = omega (arith)
next_fewer before place (Some r) fewer = omega (arith, fewer)

pub ruleset until = (asks_none, until_none, until_unread, until_taken, until_fail, asks_on, asks_some)

-- ---- from the first turn on

-- what the code keeps at the first turn
running_first : (plan : Plan) (settings : Settings) (s : Server) (kept : Clocked) (logs : Logs) (t : Children) (cs : List Client) → t ≡ nobody → cs ≡ [] → KeepsFirst plan settings s kept → FollowsAll kept logs
    → KeepsRunning (following s) (record { clocked = kept; logs = logs; children = t; clients = cs; left = plan.turns })
running_first plan settings s kept logs t cs none nobody_came keeps follows =
    let P : List Watching → Type 0 = λ old. IsSetOf logs (log_jails s) (logs_of old (jails s)) in
    record {
      clocked = record { core = keeps.clocked.core; sound = keeps.clocked.sound; journal = keeps.clocked.journal; now = keeps.clocked.now; word = keeps.clocked.word };
      logs = subst P (sym keeps.logs) (follows.sets s keeps.clocked keeps.awake);
      children = none ∙ sym keeps.children;
      clients = nobody_came ∙ sym keeps.clients;
      left = sym keeps.left;
    }

-- memory ran out before the logs were followed
pub first_short : (b : Standing) (plan : Plan) (kept : Clocked) → FirstHalts b b plan kept NoMemory
first_short b plan kept = record {
  goes = λ begun prepared. record {
    runs = λ slots holds sound. halts_by begun.told b.told (opening plan slots) NoMemory (λ h told.
        let one = prepared.runs slots holds sound h told in
        halts_after begun.told b.told b.told (opening plan slots) one.to NoMemory one.goes (halts_here b.told one.to));
  };
}

module _ (b : Standing) (plan : Plan) (kept : Clocked) (logs : Logs) (t : Children) (cs : List Client) (follows : FollowsAll kept logs) (none : t ≡ nobody) (nobody_came : cs ≡ []) where
  abbrev first_kept : Running
  first_kept = record { clocked = kept; logs = logs; children = t; clients = cs; left = plan.turns }

  stands_first : (begun : Standing) → Prepares begun b plan kept → StandsAt KeepsRunning begun b plan at_clock first_kept
  stands_first begun prepared = record {
    runs = λ slots holds sound h told.
        let one = prepared.runs slots holds sound h told in
        record { to = one.to; server = following one.server; goes = one.goes; at = one.at; keeps = running_first plan prepared.settings one.server kept logs t cs none nobody_came one.keeps follows };
  }

  module _ (c : Standing) (steady : IsSteady b c) where
    pub first_fail : (status : Status) → MoveFails KeepsRunning b c at_clock (record { clocked = kept; logs = logs; children = t; clients = cs; left = plan.turns }) status → FirstHalts b c plan kept status
    first_fail status fails = record { goes = λ begun prepared. stands_fail begun b plan at_clock first_kept (stands_first begun prepared) c steady status fails }

    module _ (asked : Option (Running × ℕ)) (goes : GoesOn b c at_clock (record { clocked = kept; logs = logs; children = t; clients = cs; left = plan.turns }) asked) (d : Standing) where
      pub first_halts : (status : Status) → TakeHalts c d plan asked status → FirstHalts b d plan kept status
      first_halts status halts = record { goes = λ begun prepared. halts.goes begun (stands_asked begun b plan at_clock first_kept (stands_first begun prepared) c steady asked goes) }

      pub first_takes : {A : Type 0} (o : Option (A × Reloaded × ℕ)) → Takes c d plan asked o → FirstTakes b d plan kept o
      first_takes o takes = record { goes = λ begun prepared. takes.goes begun (stands_asked begun b plan at_clock first_kept (stands_first begun prepared) c steady asked goes) }

pub ruleset first = (first_short, first_fail, first_halts, first_takes)

-- ---- behind a configuration that was taken

-- memory ran out before the logs were followed on
pub next_short : (b : Standing) (plan : Plan) (kept : Reloaded) (place : ℕ) → NextHalts b b plan kept place NoMemory
next_short b plan kept place = record { goes = λ begun stands. stands_short KeepsReloaded begun b plan (reloaded place) kept stands }

module _ (b : Standing) (plan : Plan) (kept : Reloaded) (place : ℕ) (before : Running) (follows : FollowsOn kept before) where
  stands_followed : (begun : Standing) → StandsAt KeepsReloaded begun b plan (reloaded place) kept → StandsAt KeepsRunning begun b plan (behind_client place) before
  stands_followed begun stands = record {
    runs = λ slots holds sound h told.
        let one = stands.runs slots holds sound h told in
        record { to = one.to; server = following one.server; goes = one.goes; at = one.at; keeps = follows.keeps one.server one.keeps };
  }

  module _ (c : Standing) (steady : IsSteady b c) where
    pub next_fail : (status : Status) → MoveFails KeepsRunning b c (behind_client place) before status → NextHalts b c plan kept place status
    next_fail status fails = record { goes = λ begun stands. stands_fail begun b plan (behind_client place) before (stands_followed begun stands) c steady status fails }

    module _ (asked : Option (Running × ℕ)) (goes : GoesOn b c (behind_client place) before asked) (d : Standing) where
      pub next_halts : (status : Status) → TakeHalts c d plan asked status → NextHalts b d plan kept place status
      next_halts status halts = record { goes = λ begun stands. halts.goes begun (stands_asked begun b plan (behind_client place) before (stands_followed begun stands) c steady asked goes) }

      pub next_takes : {A : Type 0} (o : Option (A × Reloaded × ℕ)) → Takes c d plan asked o → NextTakes b d plan kept place o
      next_takes o takes = record { goes = λ begun stands. takes.goes begun (stands_asked begun b plan (behind_client place) before (stands_followed begun stands) c steady asked goes) }

-- fewer are left
pub next_left : {A : Type 0} (kept : Reloaded) (before : Running) (place : ℕ) (asked : Option (Running × ℕ)) (o : Option (A × Reloaded × ℕ)) → before.clients ≡ kept.clients → before.left ≡ kept.left
    → IfSome asked (λ r. left_of r.0 r.1 < left_of before place) → left_behind o ≤ left_in asked → left_behind o < left_at kept place
next_left kept before place asked o clients left fewer less =
    let one : left_in asked < left_of before place + 1 = next_fewer before place asked fewer in
    let many : length before.clients ≡ length kept.clients = ap length clients in
    omega (arith, one, many, left, less)

pub ruleset next = (next_short, next_fail, next_halts, next_takes)

-- ---- the whole

module _ (a b : Standing) (plan : Plan) where
  pub serve_first_fail : (kept : Clocked) → Prepares a b plan kept → (c : Standing) (status : Status) → FirstHalts b c plan kept status → PlanHalts a c plan status
  serve_first_fail kept prepared c status halts = halts.goes a prepared

  pub serve_first : {A : Type 0} (kept : Clocked) → Prepares a b plan kept → (c : Standing) (o : Option (A × Reloaded × ℕ)) → FirstTakes b c plan kept o → StandsTaken a c plan o
  serve_first kept prepared c o takes = takes.goes a prepared

  pub serve_end : {A : Type 0} (o : Option (A × Reloaded × ℕ)) → o ≡ None → StandsTaken a b plan o → PlanHalts a b plan TurnsSpent
  serve_end {A} o is stands = let P : Option (A × Reloaded × ℕ) → Type 0 = λ x. StandsTaken a b plan x in subst P is stands

  module _ {A : Type 0} (o : Option (A × Reloaded × ℕ)) (filters : A) (kept : Reloaded) (place : ℕ) (is : o ≡ Some (filters, kept, place)) (stands : StandsTaken a b plan o) (c : Standing) where
    there : StandsAt KeepsReloaded a b plan (reloaded place) kept
    there = let P : Option (A × Reloaded × ℕ) → Type 0 = λ x. StandsTaken a b plan x in subst P is stands

    pub serve_next_fail : (status : Status) → NextHalts b c plan kept place status → PlanHalts a c plan status
    serve_next_fail status halts = halts.goes a there

    pub serve_next : (next : Option (A × Reloaded × ℕ)) → NextTakes b c plan kept place next → StandsTaken a c plan next
    serve_next next takes = takes.goes a there

pub ruleset serving = (serve_first_fail, serve_first, serve_end, serve_next_fail, serve_next)
