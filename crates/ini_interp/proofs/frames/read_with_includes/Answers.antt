use Rattle.std.proofs.Common.{◌≡◌, ◌∙◌, ◌++◌, ◌∷◌, List, ℕ, [], Some, refl, sym, ap, subst}
use Rattle.ini_interp.specs.declared.frames.Frame.{Frame}
use Rattle.ini_interp.specs.Frames.{IsKept, IsWay, IsOpened, pending, read_at, way_of}
use Rattle.ini_interp.specs.Sections.{value_of}
use Rattle.ini_interp.proofs.FramesLemmas.{started, started-way, started-fault, kept_on}
use Rattle.ini_interp.proofs.frames.read_with_includes.Goals as goal

pub loop-frame-init : goal.loop-frame-init
loop-frame-init c =
    let put : c.push.new.self.items ≡ c.in-Ok.frame ∷ [] =
    c.in_ok-push.ensures.items ∙ ap (λ (l : List Frame). l ++ c.in-Ok.frame ∷ []) c.new-frames.ensures.items in
    let opened : IsOpened c.args.path.now c.args.content.now c.in-Ok.frame = rw c.in_ok-own.ensures at c.in-Ok.ensures.ok in
    record {
      kept =
          subst (λ (l : List Frame).
          IsKept (read_at c.args.files.now [] c.args.path.now c.args.content.now) (pending c.args.files.now [] l) c.args.sections.now c.args.sections.now)
          (sym put) (started c.args.files.now c.args.path.now c.args.content.now c.in-Ok.frame c.args.sections.now c.requires opened);
      way = subst (λ (l : List Frame). IsWay c.args.files.now (way_of [] l)) (sym put)
          (started-way c.args.files.now c.args.path.now c.args.content.now c.in-Ok.frame c.requires opened);
    }

pub loop-frame-preserved : goal.loop-frame-preserved
loop-frame-preserved c = record {
  kept =
      kept_on (read_at c.args.files.now [] c.args.path.now c.args.content.now) (pending c.args.files.now [] (c.pop.new.self.items ++ c.in-Some.frame ∷ []))
      (pending c.args.files.now [] c.advance.new.frames.items) c.args.sections.now c.loop-frame.sections c.advance.new.sections
      (rw c.in-Some.ensures.items at c.loop-frame.invariant.kept) c.in-Ok-advance.ensures.ok;
  way = c.in-Ok-advance.ensures.way;
}

pub returns-in-Err-clause-fault : goal.returns-in-Err-clause-fault
returns-in-Err-clause-fault c = λ memory.
    started-fault c.args.files.now c.args.path.now c.args.content.now c.in-Err.fault c.requires (rw c.in_ok-own.ensures at (c.in-Err.ensures.fault memory))
