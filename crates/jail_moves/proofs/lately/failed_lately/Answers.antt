-- The windows that pass are counted, and they are as many as the addresses.
use Rattle.std.proofs.Common.{◌≡◌, length, rules, ◌∙◌}
use Rattle.std.specs.List.{filter}
use Rattle.std.specs.Map.{values_of}
use Rattle.std.proofs.lemmas.Iterator.Consumers.{YieldsList-from_filter, YieldsList-from_rest, count_from_yields_List}
use borrow.Author.Tests.{tests}
use Rattle.jail_moves.proofs.LatelyLemmas.{is_lately, windows_lately}
use Rattle.jail_moves.proofs.lately.failed_lately.Goals as goal

counted : (c : goal.After-count) → c.count.result ≡ length (filter (is_lately c.args.now) (values_of c.args.windows.now.entries))
counted c =
    count_from_yields_List _ c.count.result c.count.ensures.ran
    (YieldsList-from_filter _ (is_lately c.args.now) (YieldsList-from_rest (values_of c.args.windows.now.entries) (c.filter.ensures.source ∙ c.values.ensures.rest)) c.filter.ensures.closure
    (λ x b q k. search (rules, tests)))

pub returns : goal.returns
returns c = λ findtime maxretry windows. counted c ∙ windows_lately findtime maxretry c.args.now c.args.windows.now.entries windows
