use Rattle.std.proofs.Common.{◌≡◌, drop}
use Rattle.jail_conf.specs.Logs.{has_wild_directory}
use Rattle.jail_conf.proofs.logs.has_wild_directory.Given as goal

abbrev pub invariant-loop-place : goal.invariant-loop-place
invariant-loop-place l = has_wild_directory (drop l.place l.path) ≡ has_wild_directory l.path
