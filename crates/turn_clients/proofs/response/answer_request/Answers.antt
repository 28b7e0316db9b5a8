use Rattle.std.proofs.Common.{Option, sym, subst}
use Rattle.std.specs.Prelude.{IfSome}
use Rattle.f2b_base.specs.declared.input.What.{What}
use Rattle.turn_clients.specs.Responding.{IsAskedFor}
use Rattle.turn_clients.proofs.ResponseLemmas.{effect_asked}
use Rattle.turn_clients.proofs.response.answer_request.Goals as goal

pub returns-clause-fit : goal.returns-clause-fit
returns-clause-fit c =
    let P : Option What → Type 0 = λ o. IfSome o IsAskedFor in
    record {
      short = c.in_ok-answer.ensures.short;
      asked = subst P (sym c.in_ok-what.ensures.made) (effect_asked c.core-core.result.now c.args.request.now);
      storable = c.in_ok-what.ensures.storable c.requires.bounded;
    }
