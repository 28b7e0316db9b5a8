use Rattle.std.proofs.Common.{◌≡◌, ◌∙◌, sym, subst}
use Rattle.f2b_world.specs.declared.event.Event.{Event}
use Rattle.f2b_mem.specs.Books.{WhereTold}
use Rattle.f2b_mem.specs.Plays.{played}
use Rattle.f2b_mem.proofs.StageLemmas.{goes_on, step_of_write, write_lists}
use Rattle.f2b_mem.proofs.stage.Stage.write.Goals as goal

pub invariant_of-self : goal.invariant_of-self
invariant_of-self c = (c.self.invariant.0, λ events e. c.self.invariant.1 events (sym c.reserve.ensures ∙ e))

pub invariant_of-self-in_err-write : goal.invariant_of-self-in_err-write
invariant_of-self-in_err-write c = (c.self.invariant.0, λ events e. rw c.in_err-write.ensures.err (c.self.invariant.1 events (sym c.reserve.ensures ∙ e)))

pub invariant_of-self-2 : goal.invariant_of-self-2
invariant_of-self-2 c =
    let event = c.in_ok-event.event in
    let played_first = rw (← c.self.view_is) at c.requires.played in
    let P : Event → Type 0 = λ x. WhereTold c.self.inside.book (λ events. x ≡ played c.self.inside.script events x) in (
      c.self.invariant.0,
      goes_on c.self.inside.script c.self.inside.progress c.note-noted.new.self c.self.inside.slots.zero c.self.inside.slots.one c.write.new.self.zero c.write.new.self.one c.self.inside.book
          c.add.new.self event c.note-noted.result c.self.invariant.1 (subst P (sym c.in_ok-event.ensures) played_first)
          (write_lists c.self.inside.script c.self.inside.book event c.args.slot c.args.at c.args.bytes.now c.args.answer c.in_ok-event.ensures) c.note-noted.ensures (rw c.reserve.ensures at c.add.ensures.grows)
          c.add.ensures.noted c.add.ensures.short
          (step_of_write c.self.inside.slots.zero c.self.inside.slots.one c.write.new.self.zero c.write.new.self.one c.args.slot c.args.at c.args.bytes.now c.args.answer event
          c.in_ok-event.ensures c.in_ok-write.ensures.ok),
    )
