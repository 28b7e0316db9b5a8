use Rattle.client_frames.specs.Comes.{told}
use Rattle.turn_clients.proofs.HearLemmas.{table_unwritten, table_within}
use Rattle.turn_clients.proofs.ResponseLemmas.{few_words}
use Rattle.turn_clients.proofs.hear.heard.Goals as goal

pub respond-requires : goal.respond-requires
respond-requires c = few_words (told c.read-heard.result) c.args.answer c.args.place c.args.running.clients c.read-heard.ensures.heard c.read-heard.ensures.is

pub answer-requires-clause-place : goal.answer-requires-clause-place
answer-requires-clause-place c =
    table_within c.args.running c.args.place c.args.answer c.read-heard.new.self (told c.read-heard.result) c.in_ok-response.response c.in_ok-response.ensures.is c.read-heard.ensures.after c.requires.within

pub answer-requires-clause-written : goal.answer-requires-clause-written
answer-requires-clause-written c =
    table_unwritten c.args.running c.args.place c.args.answer c.read-heard.new.self (told c.read-heard.result) c.in_ok-response.response c.in_ok-response.ensures.is c.read-heard.ensures.after c.requires.answers
