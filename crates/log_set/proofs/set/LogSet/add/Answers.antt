use Rattle.std.proofs.Common.{◌≡◌, refl, rules}
use Rattle.log_set.proofs.CallLemmas.{adds}
use Rattle.log_set.specs.Logs.{Logs}
use Rattle.log_set.proofs.set.LogSet.add.Goals as goal

pub returns-clause-ok : goal.returns-clause-ok
returns-clause-ok c =
    let old : Logs = record { jails = c.self.inside.jails.items; logs = c.self.inside.logs.items } in
    let new : Logs = record { jails = c.self.inside.jails.items; logs = c.push.new.self.items } in
    let jail : c.in_ok-jail.jail ≡ c.args.jail.now = search rules in
    let path : c.in_ok-path.path ≡ c.args.path.now = search rules in
    rw (← c.self.view_is) (adds old new _ _ _ _ refl c.in_ok-push.ensures.items jail path c.in_ok-follower.ensures)
