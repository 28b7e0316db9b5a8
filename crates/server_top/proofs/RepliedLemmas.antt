-- A whole run replies to each client what the model does, in order.
use Rattle.std.proofs.Common.{ℕ, List, Option}
use Rattle.f2b_base.specs.declared.view.View.{View}
use Rattle.f2b_world.specs.Told.{History, Adds}
use Rattle.run_law.specs.Served.{IsRun}
use Rattle.run_law.specs.Stops.{BeginsOn, held_in}
use Rattle.run_law.specs.declared.status.Status.{Status}
use Rattle.run_replies.specs.Replied.{RepliesBehindInputs, RepliesInOrder}
use Rattle.run_replies.proofs.ServedLemmas.{replied, replied_behind}
use Rattle.server_top.specs.Prepared.{BeginsSound}

pub replies : (old new : Option History) (words : List (List ℕ)) (status : Status) → (BeginsSound old → IsRun old new words status) → BeginsSound old
    → Adds old new (λ g es. RepliesInOrder words (held_in g) es)
replies old new words status run begins = replied old new words status (run begins)

pub replies_behind : (old new : Option History) (words : List (List ℕ)) (status : Status) → (BeginsSound old → IsRun old new words status) → BeginsSound old
    → Adds old new (λ g es. (v : View) → BeginsOn v g → RepliesBehindInputs words (held_in g) es)
replies_behind old new words status run begins = replied_behind old new words status (run begins)
