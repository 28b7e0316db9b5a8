use Rattle.std.proofs.Common.{◌≡◌, option_copied, drop}
use Rattle.f2b_mem.specs.Script.{content_after, content_at}
use Rattle.f2b_mem.proofs.content.content_at.Given as goal

abbrev pub invariant-loop-change : goal.invariant-loop-change
invariant-loop-change l = content_after (option_copied l.content) (drop l.change-index l.changes) l.path l.pauses ≡ content_at l.changes l.path l.pauses
