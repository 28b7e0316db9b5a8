-- A whole run tries its jobs in their order.
use Rattle.std.proofs.Common.{ℕ, List, Option}
use Rattle.f2b_world.specs.Told.{History, Adds}
use Rattle.f2b_world.proofs.AddsLemmas.{adds_weaker}
use Rattle.run_law.specs.Served.{IsRun}
use Rattle.run_law.specs.Stops.{held_in}
use Rattle.run_law.specs.declared.status.Status.{Status}
use Rattle.run_jobs.specs.Runs.{HoldBytes, TriesJobsInOrder}
use Rattle.run_jobs.proofs.RunLemmas.{tries_in_order}
use Rattle.server_top.specs.Prepared.{BeginsSound}

pub tries : (old new : Option History) (words : List (List ℕ)) (status : Status) → (BeginsSound old → IsRun old new words status) → BeginsSound old
    → Adds old new (λ g es. HoldBytes (held_in g) → TriesJobsInOrder words (held_in g) es)
tries old new words status run begins =
    adds_weaker _ (λ g es. HoldBytes (held_in g) → TriesJobsInOrder words (held_in g) es) old new (run begins).law (λ g es law bytes. tries_in_order words (held_in g) g es bytes law.0)
