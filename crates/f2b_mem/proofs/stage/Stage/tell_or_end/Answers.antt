use Rattle.f2b_mem.proofs.StageLemmas.{goes_on, no_write, plays_on}
use Rattle.f2b_mem.proofs.stage.Stage.tell_or_end.Goals as goal

pub invariant_of-self : goal.invariant_of-self
invariant_of-self c =
    let played = rw (← c.self.view_is) at c.requires.played in
    let listed = rw (← c.self.view_is) at c.requires.listed in (
      c.self.invariant.0,
      goes_on c.self.inside.script c.self.inside.progress c.note-noted.new.self c.self.inside.slots.zero c.self.inside.slots.one c.self.inside.slots.zero c.self.inside.slots.one
          c.self.inside.book c.add.new.self c.args.event c.note-noted.result c.self.invariant.1 played listed c.note-noted.ensures c.add.ensures.grows c.add.ensures.noted c.add.ensures.short
          (no_write c.self.inside.slots.zero c.self.inside.slots.one c.args.event c.requires.kind),
    )

pub returns : goal.returns
returns c =
    let played = rw (← c.self.view_is) at c.requires.played in
    rw (← c.self.view_is) (plays_on c.self.inside.script c.self.inside.book c.add.new.self c.args.event played c.add.ensures.grows)
