use Rattle.std.proofs.Common.{◌≡◌, ◌+◌, ◌-◌, ◌++◌, length, take, drop, refl, sym, ap, ap₂, ◌∙◌, subst, arith, ℕ, List}
use Rattle.std.proofs.lemmas.List.{length-drop, take_all}
use Rattle.slot_reader.specs.Windows.{Window, Shows}
use Rattle.slot_reader.proofs.WindowLemmas.{shows_still, shows_grown, window_of}
use Rattle.slot_reader.proofs.shown.Shown.grow.Goals as goal

pub returns-in_err-piece-clause-shows : goal.returns-in_err-piece-clause-shows
returns-in_err-piece-clause-shows g c = shows_still _ c.args.self.now (g.D.Outside.stands c.args.disk.now) (g.D.Outside.stands c.piece_at.new.disk) c.piece_at.ensures.reads c.requires.shows

pub returns-in_err-bytes-clause-shows : goal.returns-in_err-bytes-clause-shows
returns-in_err-bytes-clause-shows g c = shows_still _ c.args.self.now (g.D.Outside.stands c.args.disk.now) (g.D.Outside.stands c.piece_at.new.disk) c.piece_at.ensures.reads c.requires.shows

pub returns-clause-shows : goal.returns-clause-shows
returns-clause-shows g c =
    let s = c.self.inside in
    let few = c.self.invariant.1 in
    let w : Window = window_of s.slot s.long s.base s.from s.bytes in
    let v : Window = window_of s.slot s.long (s.base + s.from) 0 c.in_ok-bytes.bytes in
    let old = g.D.Outside.stands c.args.disk.now in
    let shows : Shows w old.told = subst (λ (u : Window). Shows u old.told) (sym c.self.view_is) c.requires.shows in
    let x = c.as_slice.result.now in
    let rest : take (length x - s.from) (drop s.from x) ≡ drop s.from x = take_all (length x - s.from) (drop s.from x) (omega (arith, length-drop s.from x)) in
    let whole : c.in_ok-bytes.bytes ≡ drop s.from s.bytes ++ c.in_ok-piece.piece =
    c.in_ok-bytes.ensures ∙ ap₂ (λ (p q : List ℕ). p ++ q) (rest ∙ ap (drop s.from) c.as_slice.ensures) c.as_slice-2.ensures in
    shows_grown w v old (g.D.Outside.stands c.piece_at.new.disk) c.in_ok-piece.piece (s.base + c.len.result) c.min.result c.in_ok-piece.ensures.reads shows c.in_ok-piece.ensures.piece
    (omega (arith, few, c.len.ensures, length-drop s.from s.bytes)) c.in_ok-piece.ensures.len refl refl (omega arith) whole
