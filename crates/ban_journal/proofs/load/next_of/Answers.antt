use Rattle.std.proofs.Common.{Result, Ok, ap, subst, ◌∙◌}
use Rattle.std.proofs.lemmas.Result.{err_from_is_err_and}
use Rattle.slot_reader.specs.declared.fault.Fault.{Fault}
use Rattle.slot_reader.specs.declared.reader.Next.{Next}
use Rattle.slot_reader.specs.Readings.{GoesOn, HasStorableInput, TellsNext}
use Rattle.ban_journal.proofs.LoadLemmas.{given_input, given_all, given_bad, given_fails, fewer_left}
use Rattle.ban_journal.proofs.load.next_of.Goals as goal

pub returns-in_err-input-clause-given : goal.returns-in_err-input-clause-given
returns-in_err-input-clause-given g c =
    let b = g.D.Outside.stands c.next.new.disk in
    let p = err_from_is_err_and c.from_residual.result c.from_residual.ensures.1 in
    rw (p.1, p.2) (given_fails _ c.args.reader.now c.next.new.self (g.D.Outside.stands c.args.disk.now) b c.next.ensures.reads c.next.ensures.same.slot _
    (λ v inputs read. subst (TellsNext c.next.new.self v inputs b.told) c.in_err-input.was (c.next.ensures.next v inputs read)))

pub returns-in-Input-clause-given : goal.returns-in-Input-clause-given
returns-in-Input-clause-given g c =
    let b = g.D.Outside.stands c.next.new.disk in
    let was = c.in_ok-input.was ∙ ap (λ (x : Next). let r : Result Next Fault = Ok x in r) c.in-Input.is in
    given_input _ c.args.reader.now c.next.new.self (g.D.Outside.stands c.args.disk.now) b c.next.ensures.reads c.next.ensures.same.slot c.in-Input.input
    (λ v inputs read. subst (TellsNext c.next.new.self v inputs b.told) was (c.next.ensures.next v inputs read))

pub returns-in-Input-clause-storable : goal.returns-in-Input-clause-storable
returns-in-Input-clause-storable g c = subst HasStorableInput c.in-Input.is c.in_ok-input.ensures.storable

pub returns-in-Input-clause-fewer : goal.returns-in-Input-clause-fewer
returns-in-Input-clause-fewer g c =
    fewer_left c.args.reader.now c.next.new.self c.next.ensures.same c.next.ensures.within (subst (GoesOn c.args.reader.now c.next.new.self) c.in-Input.is c.in_ok-input.ensures.further)

pub returns-in-Closed-clause-given : goal.returns-in-Closed-clause-given
returns-in-Closed-clause-given g c =
    let b = g.D.Outside.stands c.next.new.disk in
    let was = c.in_ok-input.was ∙ ap (λ (x : Next). let r : Result Next Fault = Ok x in r) c.in-Closed.is in
    given_all _ c.args.reader.now c.next.new.self (g.D.Outside.stands c.args.disk.now) b c.next.ensures.reads c.next.ensures.same.slot
    (λ v inputs read. subst (TellsNext c.next.new.self v inputs b.told) was (c.next.ensures.next v inputs read))

pub returns-in-Bad-clause-given : goal.returns-in-Bad-clause-given
returns-in-Bad-clause-given g c =
    let b = g.D.Outside.stands c.next.new.disk in
    let was = c.in_ok-input.was ∙ ap (λ (x : Next). let r : Result Next Fault = Ok x in r) c.in-Bad.is in
    given_bad _ c.args.reader.now c.next.new.self (g.D.Outside.stands c.args.disk.now) b c.next.ensures.reads c.next.ensures.same.slot c.slot.result c.in-Bad.at
    (λ v inputs read. subst (TellsNext c.next.new.self v inputs b.told) was (c.next.ensures.next v inputs read))
