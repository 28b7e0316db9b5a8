-- The text that was written is the one that reads as the address.
use Rattle.std.proofs.Common.{ap, ◌∙◌}
use Rattle.f2b_base.specs.Addresses.{read_addr}
use Rattle.f2b_base.proofs.PrintLemmas.{read_addr-printed}
use Rattle.f2b_base.proofs.addr.Addr.print.Goals as goal

pub returns-clause-again : goal.returns-clause-again
returns-clause-again c =
    λ bounds. ap read_addr (c.finish.ensures.value ∙ c.text_of.ensures) ∙ read_addr-printed c.args.self.now bounds
