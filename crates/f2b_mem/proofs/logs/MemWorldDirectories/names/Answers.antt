use Rattle.std.proofs.Common.{◌≡◌, IsTrue, rules}
use Rattle.f2b_world.specs.declared.answer.NamesAnswer.TheVariants.{Failed as NamesFailed}
use Rattle.f2b_mem.specs.Stages.{told_in}
use Rattle.f2b_mem.proofs.NamesLemmas.{lists}
use Rattle.f2b_mem.proofs.logs.MemWorldDirectories.names.Goals as goal

pub returns-clause-event : goal.returns-clause-event
returns-clause-event c =
    let fails : IsTrue c.is_failing-failing.result → c.names_answer-answer.result ≡ NamesFailed = search rules in
    lists (told_in c.args.self.now.stage) (told_in c.tell.new.self) c.args.self.now.faults c.counted-self.result c.args.dir.now c.names_answer-answer.result c.in-Ok-names_event.event
    c.is_failing-failing.result c.in-Ok-names_event.ensures fails c.names_answer-answer.ensures.cause c.names_answer-answer.ensures.texts c.in-Ok-tell.ensures.ok.tells c.counted-self.ensures.value
    c.counted-self.ensures.steady
