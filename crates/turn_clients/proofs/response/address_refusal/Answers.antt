use Rattle.std.proofs.Common.{arith}
use Rattle.std.proofs.lemmas.Result.{IfOk-weaker}
use Rattle.client_words.specs.declared.error.CommandError.TheVariants.{BadAddress}
use Rattle.turn_clients.proofs.ResponseLemmas.{refusal_short}
use Rattle.turn_clients.proofs.response.address_refusal.Goals as goal

pub returns-clause-short : goal.returns-clause-short
returns-clause-short c = IfOk-weaker c.refusal.result _ _ (λ why is. refusal_short (BadAddress c.args.place) why (omega (arith, c.ranges.place.fits)) is) c.refusal.ensures
