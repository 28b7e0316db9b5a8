-- The windows that are live.
use Rattle.std.proofs.Common.{◌≡◌, ◌≤◌, List, sym, subst, rules}
use Rattle.std.specs.List.{filter}
use Rattle.std.proofs.lemmas.Map.Made.{filter_same_pairs}
use Rattle.f2b_model.proofs.OrderlyLemmas.{all_of-filter}
use Rattle.jail_moves.specs.Addresses.{is_live, AreNotBefore, Entry}
use Rattle.jail_moves.proofs.WindowLosses.{swept}
use Rattle.jail_moves.proofs.addresses.sweep.Goals as goal

pub returns-clause-sweeps : goal.returns-clause-sweeps
returns-clause-sweeps c = λ maxretry held.
    swept c.args.findtime maxretry c.args.now c.args.windows.now.entries c.retain.new.self.entries held
    (filter_same_pairs _ (is_live c.args.now c.args.findtime) _ (λ k v b w g t. search rules) _ _ c.retain.ensures.filtered) c.retain.ensures.ordered

pub returns-clause-latest : goal.returns-clause-latest
returns-clause-latest c = λ time a.
    let live : c.retain.new.self.entries ≡ filter (is_live c.args.now c.args.findtime) c.args.windows.now.entries =
    filter_same_pairs _ (is_live c.args.now c.args.findtime) _ (λ k v b w g t. search rules) _ _ c.retain.ensures.filtered in
    subst (λ (r : List Entry). AreNotBefore time r) (sym live) (all_of-filter (λ (e : Entry). time ≤ e.1.latest) (is_live c.args.now c.args.findtime) c.args.windows.now.entries a)
