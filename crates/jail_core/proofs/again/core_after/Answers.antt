use Rattle.jail_core.proofs.AgainLemmas.{all_on_the_way, first_on_the_way, input_taken, next_on_the_way}
use Rattle.jail_core.proofs.again.core_after.Goals as goal

pub loop-input-init : goal.loop-input-init
loop-input-init c = first_on_the_way c.args.core c.args.inputs.now c.requires

pub take-requires : goal.take-requires
take-requires c = input_taken c.args.core c.args.inputs.now c.loop-input.after c.loop-input.input-index c.input-item.result c.loop-input-test.true c.input-item.is c.loop-input.invariant

pub loop-input-preserved : goal.loop-input-preserved
loop-input-preserved c =
    next_on_the_way c.args.core c.args.inputs.now c.loop-input.after c.in_ok-next.next c.loop-input.input-index c.input-item.result c.loop-input-test.true c.input-item.is
    c.loop-input.invariant c.in_ok-next.ensures.core c.in_ok-next.ensures.storable

pub returns-clause-core : goal.returns-clause-core
returns-clause-core c = all_on_the_way c.args.core c.args.inputs.now c.loop-input.after c.loop-input.input-index c.loop-input-test.false c.loop-input.invariant

pub returns-clause-storable : goal.returns-clause-storable
returns-clause-storable c = λ storable inputs. (c.loop-input.invariant.storable storable inputs).0
