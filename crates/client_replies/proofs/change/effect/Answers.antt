use Rattle.std.proofs.Common.{◌≡◌, sym, subst}
use Rattle.std.specs.Option.{IfSome}
use Rattle.std.proofs.lemmas.Result.{IfOk-weaker}
use Rattle.f2b_model.specs.Storable.{IsStorableWhat}
use Rattle.client_replies.specs.Asked.{DoesAsAsked}
use Rattle.client_replies.specs.Changes.{change_of}
use Rattle.client_replies.proofs.AskedLemmas.{change_as_asked}
use Rattle.client_replies.proofs.BoundLemmas.{change_storable}
use Rattle.client_replies.proofs.change.effect.Goals as goal

pub returns-clause-asked : goal.returns-clause-asked
returns-clause-asked c =
    λ storable.
    IfOk-weaker c.change_of.result (λ change. change ≡ change_of c.args.core.now c.args.request.now) (DoesAsAsked c.args.core.now c.args.request.now)
    (λ change is. subst (DoesAsAsked c.args.core.now c.args.request.now) (sym is) (change_as_asked c.args.core.now c.args.request.now storable)) c.change_of.ensures

pub returns-clause-storable : goal.returns-clause-storable
returns-clause-storable c =
    λ bounded.
    IfOk-weaker c.change_of.result (λ change. change ≡ change_of c.args.core.now c.args.request.now) (λ change. IfSome change IsStorableWhat)
    (λ change is. subst (λ made. IfSome made IsStorableWhat) (sym is) (change_storable c.args.core.now c.args.request.now bounded)) c.change_of.ensures
