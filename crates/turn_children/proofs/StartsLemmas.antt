-- One start behind the other.
use Rattle.std.proofs.Common.{◌≡◌, ◌<◌, ◌≤◌, Bool, true, Option, Some, None, refl, sym, ap, ◌∙◌, subst, arith}
use Rattle.std.specs.Prelude.{option_map}
use Rattle.f2b_world.specs.Told.{Standing}
use Rattle.run_law.specs.Stages.{MoveFails, Moves}
use Rattle.run_law.specs.Turn.{to_end, to_starts}
use Rattle.run_law.specs.declared.status.Status.{Status}
use Rattle.run_law.specs.declared.status.Status.TheVariants.{NoMemory}
use Rattle.run_law.proofs.StageLemmas.{move_fails_here, move_fails_on, moves_as, moves_none, moves_trans}
use Rattle.run_steps.specs.Keeping.{KeepsRunning}
use Rattle.run_steps.specs.declared.running.Running.{Running}
use Rattle.turn_children.specs.Launches.{IsNextStart, next_start, place_of}
use Rattle.turn_children.specs.Starting.{ComesNearer, checks_then}
use Rattle.turn_children.specs.declared.launch.Launch.{Launch}
use Rattle.turn_children.proofs.StartLemmas.{starts_at}

pub starts_begin : (a : Standing) (kept : Running) → Moves KeepsRunning a a to_starts to_starts kept kept
starts_begin a kept = moves_none KeepsRunning a to_starts kept

pub next_is : (kept : Running) (o : Option Launch) (launch : Launch) → IsNextStart kept o → o ≡ Some launch → IsNextStart kept (Some launch)
next_is kept o launch next is = subst (IsNextStart kept) is next

pub next_none : (kept : Running) (o : Option Launch) → IsNextStart kept o → o ≡ None → next_start kept ≡ None
next_none kept o next is = sym next.next ∙ ap (λ (x : Option Launch). option_map place_of x) is

module _ (a b : Standing) (before between : Running) (moves : Moves KeepsRunning a b to_starts to_starts before between) where
  pub starts_on : (c : Standing) (after : Running) → Moves KeepsRunning b c to_starts to_starts between after → Moves KeepsRunning a c to_starts to_starts before after
  starts_on c after more = moves_trans KeepsRunning a b c to_starts to_starts to_starts before between after moves more

  pub starts_end : next_start between ≡ None → Moves KeepsRunning a b to_starts to_end before between
  starts_end none = moves_as KeepsRunning a b to_starts to_starts to_end to_starts before between (λ s keeps. refl) (starts_at between None none) moves

  pub starts_fail : (c : Standing) (status : Status) → MoveFails KeepsRunning b c to_starts between status → MoveFails KeepsRunning a c to_starts before status
  starts_fail c status fails = move_fails_on KeepsRunning a b c to_starts to_starts before between status moves fails

  pub starts_memory : MoveFails KeepsRunning a b to_starts before NoMemory
  starts_memory = move_fails_on KeepsRunning a b b to_starts to_starts before between NoMemory moves (move_fails_here KeepsRunning b to_starts between)

pub nearer_on : (before between after : Running) (lost : Bool) → checks_then between ≤ checks_then before → ComesNearer between after lost → checks_then after ≤ checks_then before
nearer_on before between after lost le nearer = omega (arith, le, nearer.checks)

pub nearer_lost : (before between after : Running) (lost : Bool) → checks_then between ≤ checks_then before → ComesNearer between after lost → lost ≡ true → checks_then after < checks_then before
nearer_lost before between after lost le nearer is = omega (arith, le, nearer.fewer is)

pub ruleset starts = (starts_begin, next_is, next_none, starts_on, starts_end, starts_fail, starts_memory, nearer_on, nearer_lost)
