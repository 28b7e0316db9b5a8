use Rattle.std.proofs.Common.{◌∙◌, ap₂, List, ℕ}
use Rattle.f2b_mem.specs.Torn.{torn_from}
use Rattle.f2b_mem.proofs.TornLemmas.{torn_is_permitted}
use Rattle.f2b_mem.proofs.torn.torn_after.Goals as goal

pub returns-clause-permitted : goal.returns-clause-permitted
returns-clause-permitted c =
    let bytes = c.as_slice-now.ensures ∙ c.in_ok-kept.ensures.bytes in
    let ranges = c.as_slice-ranges.ensures ∙ c.in_ok-kept.ensures.unsynced in
    torn_is_permitted c.args.slot c.args.first.now c.args.events.now c.args.keep c.args.fill c.in_ok-torn.torn
    (c.in_ok-torn.ensures ∙ ap₂ (λ (xs : List ℕ) (rs : List (ℕ × ℕ)). torn_from 0 xs rs c.args.keep c.args.fill) bytes ranges)
