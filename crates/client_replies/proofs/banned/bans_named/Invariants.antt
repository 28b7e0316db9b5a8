use Rattle.std.proofs.Common.{◌≡◌, drop}
use Rattle.client_replies.specs.Meant.{bans_named}
use Rattle.client_replies.proofs.banned.bans_named.Given as goal

abbrev pub invariant-loop-jail : goal.invariant-loop-jail
invariant-loop-jail l = bans_named l.name l.jails ≡ bans_named l.name (drop l.jail-index l.jails)
