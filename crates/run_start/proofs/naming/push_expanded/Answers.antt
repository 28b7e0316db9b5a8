use Rattle.std.proofs.Common.{◌≡◌, arith}
use Rattle.run_start.proofs.PathLemmas.{expanded_more}
use Rattle.run_start.proofs.naming.push_expanded.Goals as goal

pub returns : goal.returns
returns c =
    let shown : c.as_slice.result.now ≡ c.in_ok-watches.watches = first_of (assumption c.as_slice.ensures, cc (c.as_slice.ensures, c.watches.view_is), grind (arith, c.as_slice.ensures, c.watches.view_is)) in
    expanded_more c.args.path.now c.watch.result.now c.jail.result.now c.args.names.now c.in_ok-watches.watches c.as_slice.result.now c.args.found.now c.push_watches.new.paths
    c.watch.ensures c.jail.ensures shown c.requires c.in_ok-watches.ensures.expanded c.in_ok-push_watches.ensures
