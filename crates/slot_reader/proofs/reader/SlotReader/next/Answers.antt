use Rattle.std.proofs.Common.{◌+◌, ℕ, Ok, ap, sym, subst}
use Rattle.std.proofs.lemmas.Result.{err_from_is_err_and}
use Rattle.slot_reader.specs.declared.reader.Next.TheVariants.{Bad as BadNext}
use Rattle.slot_reader.specs.Fronts.{IsItem, is_clear_item}
use Rattle.slot_reader.specs.Readings.{TellsNext}
use Rattle.slot_reader.specs.Versions.{spelling}
use Rattle.slot_reader.proofs.ReadingLemmas.{next_fails, next_closed, next_taken, next_bad, taken_within, taken_storable}
use Rattle.slot_reader.proofs.WindowLemmas.{shows_moved}
use Rattle.slot_reader.proofs.reader.SlotReader.next.Goals as goal

pub returns-in_err-item_of-clause-next : goal.returns-in_err-item_of-clause-next
returns-in_err-item_of-clause-next g c =
    let p = err_from_is_err_and c.from_residual.result c.from_residual.ensures.1 in
    rw p.1 (λ v inputs given.
    next_fails _ c.args.self.now c.item_of.new.shown (g.D.Outside.stands c.args.disk.now) (g.D.Outside.stands c.item_of.new.disk) c.item_of.ensures.reads c.item_of.ensures.same c.item_of.ensures.shows v inputs p.0 given)

pub returns-in-Closed-clause-next : goal.returns-in-Closed-clause-next
returns-in-Closed-clause-next g c =
    let w = c.item_of.new.shown in
    let item = subst (IsItem (spelling c.args.self.now.version) w.bytes) c.in-Closed.is c.in_ok-item_of.ensures.item in
    λ v inputs given.
    next_closed _ c.args.self.now w (g.D.Outside.stands c.args.disk.now) (g.D.Outside.stands c.item_of.new.disk) c.item_of.ensures.reads c.item_of.ensures.same c.item_of.ensures.shows c.item_of.ensures.within v inputs item given

pub returns-in-Taken-clause-next : goal.returns-in-Taken-clause-next
returns-in-Taken-clause-next g c =
    let w = c.item_of.new.shown in
    let item = subst (IsItem (spelling c.args.self.now.version) w.bytes) c.in-Taken.is c.in_ok-item_of.ensures.item in
    λ v inputs given.
    next_taken _ c.args.self.now w (g.D.Outside.stands c.args.disk.now) (g.D.Outside.stands c.item_of.new.disk) c.item_of.ensures.reads c.item_of.ensures.same c.item_of.ensures.shows c.item_of.ensures.within v inputs
    c.skip.new.self c.in-Taken.input c.in-Taken.len item c.skip.ensures.slot c.skip.ensures.long c.skip.ensures.place c.skip.ensures.bytes given

pub returns-in-Taken-clause-storable : goal.returns-in-Taken-clause-storable
returns-in-Taken-clause-storable g c =
    let w = c.item_of.new.shown in
    let item = subst (IsItem (spelling c.args.self.now.version) w.bytes) c.in-Taken.is c.in_ok-item_of.ensures.item in
    taken_storable c.args.self.now.version w.bytes c.in-Taken.input c.in-Taken.len item

pub returns-in-Taken-clause-shows : goal.returns-in-Taken-clause-shows
returns-in-Taken-clause-shows g c =
    let w = c.item_of.new.shown in
    let item = subst (IsItem (spelling c.args.self.now.version) w.bytes) c.in-Taken.is c.in_ok-item_of.ensures.item in
    let few = taken_within c.args.self.now.version w.bytes c.in-Taken.input c.in-Taken.len item in
    shows_moved w c.skip.new.self (g.D.Outside.stands c.item_of.new.disk).told c.in-Taken.len c.item_of.ensures.shows few.0 c.skip.ensures.slot c.skip.ensures.long c.skip.ensures.place c.skip.ensures.bytes

pub returns-in-Bad-clause-next : goal.returns-in-Bad-clause-next
returns-in-Bad-clause-next g c =
    let r = c.args.self.now in
    let w = c.item_of.new.shown in
    let item = subst (IsItem (spelling r.version) w.bytes) c.in-Bad.is c.in_ok-item_of.ensures.item in
    λ v inputs given.
    (let P : ℕ → Type 0 = λ n. TellsNext (record r { shown = w }) v inputs (g.D.Outside.stands c.item_of.new.disk).told (Ok (BadNext (n + c.in-Bad.at))) in
    subst P (sym c.place.ensures)
    (next_bad _ r w (g.D.Outside.stands c.args.disk.now) (g.D.Outside.stands c.item_of.new.disk) c.item_of.ensures.reads c.item_of.ensures.same c.item_of.ensures.shows c.item_of.ensures.within v inputs
    c.in-Bad.at item (c.in_ok-item_of.ensures.clear (ap is_clear_item c.in-Bad.is)) given))
