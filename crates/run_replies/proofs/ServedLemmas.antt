-- What a whole run replies, as long as the world tells.
use Rattle.std.proofs.Common.{ℕ, List, Option}
use Rattle.f2b_base.specs.declared.view.View.{View}
use Rattle.f2b_world.specs.Told.{History, Adds}
use Rattle.f2b_world.proofs.AddsLemmas.{adds_weaker}
use Rattle.run_law.specs.Served.{IsRun}
use Rattle.run_law.specs.Stops.{BeginsOn, held_in}
use Rattle.run_law.specs.declared.status.Status.{Status}
use Rattle.run_replies.specs.Replied.{RepliesBehindInputs, RepliesInOrder}
use Rattle.run_replies.proofs.BehindLemmas.{replies_behind_inputs}
use Rattle.run_replies.proofs.RunLemmas.{replies_in_order}

pub replied : (old new : Option History) (words : List (List ℕ)) (status : Status) → IsRun old new words status → Adds old new (λ g es. RepliesInOrder words (held_in g) es)
replied old new words status run =
    adds_weaker _ (λ g es. RepliesInOrder words (held_in g) es) old new run.law (λ g es law. replies_in_order words (held_in g) g es law.0)

pub replied_behind : (old new : Option History) (words : List (List ℕ)) (status : Status) → IsRun old new words status
    → Adds old new (λ g es. (v : View) → BeginsOn v g → RepliesBehindInputs words (held_in g) es)
replied_behind old new words status run =
    adds_weaker _ (λ g es. (v : View) → BeginsOn v g → RepliesBehindInputs words (held_in g) es) old new run.law (λ g es law v begins. replies_behind_inputs words v g es begins law.0)
