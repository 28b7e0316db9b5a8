use Rattle.std.proofs.Common.{◌≡◌, ◌≤◌, ◌∙◌, ap, take, drop, min, arith, subst, List, ℕ}
use Rattle.f2b_mem.specs.Talks.{Gives}
use Rattle.f2b_mem.proofs.LinkLemmas.{gives, receives}
use Rattle.f2b_mem.proofs.link.MemLink.give.Goals as goal

pub returns-clause-talk : goal.returns-clause-talk
returns-clause-talk c =
    receives c.args.self.now.told c.args.self.now.server c.args.self.now.sent c.args.self.now.bytes c.piece_of-piece.result.now c.args.self.now.given c.given_after-next.result c.min.result
    c.args.self.now.ended c.is_empty-over.result c.in-Ok.answer c.args.self.now.over
    (c.piece_of-piece.ensures.value ∙ ap (λ (xs : List ℕ). take c.min.result (drop c.args.self.now.given xs)) c.as_slice.ensures) c.in-Ok.ensures c.given_after-next.ensures c.is_empty-over.ensures

pub returns-clause-gives : goal.returns-clause-gives
returns-clause-gives c =
    let most : c.min.result ≡ min c.args.max c.args.self.now.piece = omega (arith, c.min.ensures) in
    let some : 1 ≤ c.min.result = omega (arith, c.requires, c.args.self.now.some, most) in
    let F : ℕ → Type 0 = λ m. Gives (drop c.args.self.now.given c.args.self.now.bytes) m c.in-Ok.answer (drop c.given_after-next.result c.args.self.now.bytes) in
    subst F most
    (gives c.args.self.now.bytes c.piece_of-piece.result.now c.args.self.now.given c.given_after-next.result c.min.result c.in-Ok.answer some
    (c.piece_of-piece.ensures.value ∙ ap (λ (xs : List ℕ). take c.min.result (drop c.args.self.now.given xs)) c.as_slice.ensures) c.in-Ok.ensures c.given_after-next.ensures)
