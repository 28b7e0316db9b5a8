-- The first of the windows that are left of the map.
use Rattle.std.proofs.Common.{◌≡◌, rules, option_map, find, tests, sym, ◌∙◌, ap}
use Rattle.std.specs.Map.Iter.{deref_pair}
use Rattle.std.proofs.lemmas.Iterator.Consumers.{YieldsList-from_rest}
use Rattle.std.proofs.lemmas.Iterator.Search.{find_from_yields_List}
use Rattle.jail_moves.specs.Addresses.{Entry, is_stale, windows_from}
use Rattle.jail_moves.proofs.sweep.first_stale.Goals as goal

pub returns-in_err-key : goal.returns-in_err-key
returns-in_err-key c =
    let found : option_map deref_pair c.find.result ≡ find (is_stale c.args.now c.args.findtime) (windows_from c.args.from c.args.windows.now.entries) =
    find_from_yields_List (is_stale c.args.now c.args.findtime) _ _ c.find.result c.find.ensures.ran
    (YieldsList-from_rest (windows_from c.args.from c.args.windows.now.entries) (c.range.ensures.between tt)) (λ x b q k. search (rules, tests)) in
    c.from_residual.ensures ∙ ap (option_map (λ (e : Entry). e.0)) (sym (ap (option_map deref_pair) c.in_err-key.was) ∙ found)

pub returns : goal.returns
returns c =
    let found : option_map deref_pair c.find.result ≡ find (is_stale c.args.now c.args.findtime) (windows_from c.args.from c.args.windows.now.entries) =
    find_from_yields_List (is_stale c.args.now c.args.findtime) _ _ c.find.result c.find.ensures.ran
    (YieldsList-from_rest (windows_from c.args.from c.args.windows.now.entries) (c.range.ensures.between tt)) (λ x b q k. search (rules, tests)) in
    ap (option_map (λ (e : Entry). e.0)) (sym (ap (option_map deref_pair) c.in_ok-key.was) ∙ found)
